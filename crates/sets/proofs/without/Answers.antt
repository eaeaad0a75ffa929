-- `sets::without` meets its contract. Assumes nothing.
use mathlib.Core.Path.{ap, ◌∙◌}
use Prim.Native.Nat.{ℕ, ◌-◌}
use lib.Bits.{bit_and, and_le_l}
use Rattle.sets.specs.Set.{has}
use Rattle.sets.proofs.SetLaws.{without_is}
use Rattle.sets.proofs.Shift.{one_shifted}
use Rattle.sets.proofs.without.Goals as goal

pub overflow_sub-result : goal.overflow_sub-result
overflow_sub-result c = and_le_l _ _

pub returns : goal.returns
returns c j =
    ap (λ (x : ℕ). has (c.args.s - bit_and c.args.s x) j) (one_shifted c.args.i c.requires) ∙ without_is c.args.s c.args.i j
