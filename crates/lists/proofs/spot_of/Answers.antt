-- `lists::spot_of` meets its contract: a line's first byte says which of the permitted lines it is held against. Assumes nothing.
use mathlib.Core.Path.{sym, ◌∙◌}
use Rattle.lists.proofs.Spots.{spot_c, spot_p, spot_e, spot_none}
use Rattle.lists.proofs.spot_of.Goals as goal

pub returns-then-is_comment : goal.returns-then-is_comment
returns-then-is_comment c =
    let s = c.args.s.now in
    c.spot_along.ensures ∙ spot_c s (sym c.is_comment.ensures ∙ c.if-is_comment.true)

pub returns-then-begins : goal.returns-then-begins
returns-then-begins c =
    let s = c.args.s.now in
    c.spot_along-then-begins.ensures ∙ spot_p s (sym c.begins.ensures ∙ c.if-begins.true)

pub returns-then-begins-2 : goal.returns-then-begins-2
returns-then-begins-2 c =
    let s = c.args.s.now in
    c.spot_along-then-begins-2.ensures ∙ spot_e s (sym c.begins-2.ensures ∙ c.if-begins-2.true)

pub returns : goal.returns
returns c =
    let s = c.args.s.now in
    sym (spot_none s (sym c.is_comment.ensures
    ∙ c.if-is_comment.false) (sym c.begins.ensures
    ∙ c.if-begins.false)
    (sym c.begins-2.ensures ∙ c.if-begins-2.false))
