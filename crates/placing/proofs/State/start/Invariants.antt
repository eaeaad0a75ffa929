use mathlib.Core.Path.{◌≡◌}
use mathlib.Core.List.{List}
use Prim.Native.Nat.{ℕ, ◌≤◌}
use lib.ListN.{length, take}
use Rattle.clashes.specs.Divisions.{alone}
use Rattle.placing.proofs.State.start.Given as goal

-- where i entries are written, they are 0 to i - 1
pub record Written (i : ℕ) (best : List ℕ) : Type 0 where
  pub long : length best ≡ 64
  pub are : (k : ℕ) → k ≤ i → take k best ≡ alone k

abbrev pub invariant-loop-i : goal.invariant-loop-i
invariant-loop-i l = Written l.i l.group-items
