-- `sets::with` meets its contract. Assumes nothing.
use mathlib.Core.Path.{ap, ◌∙◌}
use Prim.Native.Nat.{ℕ}
use lib.Bits.{bit_or}
use Rattle.sets.specs.Set.{has}
use Rattle.sets.proofs.SetLaws.{with_is}
use Rattle.sets.proofs.Shift.{one_shifted}
use Rattle.sets.proofs.with.Goals as goal

pub returns : goal.returns
returns c j = ap (λ (x : ℕ). has (bit_or c.args.s x) j) (one_shifted c.args.i c.requires) ∙ with_is c.args.s c.args.i j
