-- `sheets::ended` meets its contract: the two sets together hold each entry, or one is missing. Assumes nothing.
use Rattle.std.proofs.Common.{sym, ◌∙◌}
use Rattle.sheets.proofs.Sets.{complete_is}
use Rattle.sheets.proofs.ended.Goals as goal

pub returns-then-not-is_subset : goal.returns-then-not-is_subset
returns-then-not-is_subset c =
    let a = c.args in
    let e = complete_is a.n a.earlier a.mates _ _ c.requires c.below.ensures c.join.ensures in
    simp (c.in-Some.is, sym c.met.ensures ∙ c.if-not-met.false, sym e ∙ sym c.is_subset.ensures ∙ c.if-not-is_subset.true, c.on-then-not-is_subset.ensures)

pub returns : goal.returns
returns c =
    let a = c.args in
    let e = complete_is a.n a.earlier a.mates _ _ c.requires c.below.ensures c.join.ensures in
    simp (c.in-Some.is, sym c.met.ensures ∙ c.if-not-met.false, sym e ∙ sym c.is_subset.ensures ∙ c.if-not-is_subset.false)
