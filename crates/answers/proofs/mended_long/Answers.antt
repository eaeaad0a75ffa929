-- `answers::mended_long` meets its contract: the clash text's own refusal, or 18. Assumes nothing.
use Prim.Native.Nat.{ℕ}
use mathlib.Core.Path.{sym, subst, ◌∙◌}
use mathlib.Core.List.{List}
use Rattle.answers.specs.Printed.{Writes}
use Rattle.answers.proofs.MendLaws.{long_read, long_unread}
use Rattle.answers.proofs.mended_long.Goals as goal

pub returns-in-Ok : goal.returns-in-Ok
returns-in-Ok c s h =
    let a = c.args in
    subst (λ (x : List ℕ). Writes x a.out.now c.answer_long.result c.answer_long.new.out)
    (sym (long_read a.plain a.list.now s _ (sym c.gather.ensures ∙ c.in-Ok.is) h)) (c.answer_long.ensures a.plain s h)

pub returns-in-Err : goal.returns-in-Err
returns-in-Err c s h =
    let a = c.args in
    subst (λ (x : List ℕ). Writes x a.out.now c.answer.result c.answer.new.out)
    (sym (long_unread a.plain a.list.now s _ (sym c.gather.ensures ∙ c.in-Err.is))) c.answer.ensures
