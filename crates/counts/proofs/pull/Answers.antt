-- `counts::pull` meets its contract: the row of the lowest member, and the others. Assumes nothing.
use Rattle.counts.proofs.CountLaws.{pull_some}
use Rattle.counts.proofs.pull.Goals as goal

pub returns : goal.returns
returns c =
    let a = c.args in
    let w = c.lowest-w in
    pull_some a.rows.now a.left w.result c.rest-next.result w.ensures (c.rest-next.ensures w.result w.ensures)
