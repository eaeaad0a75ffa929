-- `answers::answer_long` meets its contract. Assumes nothing.
use mathlib.Core.Path.{sym, subst}
use mathlib.Core.List.{List}
use Prim.Native.Nat.{ℕ}
use Rattle.answers.specs.Printed.{Writes}
use Rattle.answers.proofs.Laws.{printed_long}
use Rattle.answers.proofs.answer_long.Goals as goal

pub returns : goal.returns
returns c plain s h =
    subst (λ (x : List ℕ). Writes x c.args.out.now c.fit.result c.fit.new.out) (sym (printed_long plain s h)) (c.fit.ensures _ c.refused.ensures)
