-- `counts::narrow` meets its contract. Assumes nothing.
use Rattle.counts.proofs.MostLaws.{ahead_slice}
use Rattle.counts.proofs.narrow.Goals as goal

pub returns : goal.returns
returns c =
    let a = c.args in
    let h = c.meet-having in
    λ f apart weight l. ahead_slice f apart a.slice weight h.result a.leading l h.ensures c.if-having-eq0.false
