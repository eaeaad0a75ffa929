-- `sets::below` meets its contract: all 64 digits, or 2 ^ n - 1. Assumes nothing.
use mathlib.Core.Path.{sym, ap, ◌∙◌, ◌≡◌}
use Prim.Native.Nat.{ℕ, ◌-◌, ◌*◌, ◌^◌, ◌%◌}
use native.Mathlib.Omega.{arith}
use lib.Dec.{ltb}
use lib.Pow.{pow_pos}
use Rattle.sets.specs.Set.{has}
use Rattle.sets.proofs.SetLaws.{below_is}
use Rattle.sets.proofs.Shift.{one_shifted}
use Rattle.sets.proofs.below.Goals as goal
use Rattle.sets.proofs.below.Goals.{Else-n-eq64}

shifted : (c : Else-n-eq64) → 1 * 2 ^ c.args.n % 2 ^ 64 ≡ 2 ^ c.args.n
shifted c = one_shifted c.args.n (omega (arith, c.requires, c.if-n-eq64.false))

pub returns-then-n-eq64 : goal.returns-then-n-eq64
returns-then-n-eq64 c j = below_is 64 j ∙ ap (ltb j) (sym c.if-n-eq64.true)

pub overflow_sub-result : goal.overflow_sub-result
overflow_sub-result c = omega (arith, shifted c, pow_pos c.args.n)

pub returns : goal.returns
returns c j = ap (λ (x : ℕ). has (x - 1) j) (shifted c) ∙ below_is c.args.n j
