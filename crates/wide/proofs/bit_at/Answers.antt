-- `wide::bit_at` meets its contract. Assumes nothing.
use mathlib.Core.Path.{sym, ap, ◌∙◌}
use Prim.Native.Nat.{◌+◌, ◌-◌}
use mathlib.Core.Bool.{◌||◌}
use lib.Dec.{eqb}
use native.Mathlib.Omega.{arith}
use borrow.Author.Tests.{ne_eqb}
use Rattle.sets.proofs.SetLaws.{has_none}
use Rattle.wide.proofs.WideLaws.{eqb_shift}
use Rattle.wide.proofs.bit_at.Goals as goal

pub returns-then-i-from : goal.returns-then-i-from
returns-then-i-from c j b = has_none j ∙ sym (ne_eqb c.args.i (c.args.from + j) (λ e. absurd (omega arith)))

pub returns-then-from-i : goal.returns-then-from-i
returns-then-from-i c j b = has_none j ∙ sym (ne_eqb c.args.i (c.args.from + j) (λ e. absurd (omega arith)))

pub returns : goal.returns
returns c j b =
    let a = c.args in
    c.with.ensures j ∙ ap (λ t. t || eqb (a.i - a.from) j) (has_none j) ∙ eqb_shift a.i a.from j (omega arith)
