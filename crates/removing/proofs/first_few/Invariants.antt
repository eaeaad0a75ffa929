use mathlib.Core.Bool.{Bool}
use mathlib.Core.List.{List}
use Prim.Native.Nat.{ℕ}
use lib.ListN.{length}
use Rattle.sets.specs.Set.{has, size}
use Rattle.clashes.specs.Matrix.{matrix}
use Rattle.shrink.specs.Rules.{has_few}
use Rattle.removing.proofs.LookLaws.{Looked}
use Rattle.removing.proofs.first_few.Given as goal

-- who has few
abbrev pub test : List ℕ → ℕ → ℕ → ℕ → Bool
test rows present bound = has_few (length rows) (matrix rows) (has present) bound

abbrev pub invariant-loop-left : goal.invariant-loop-left
invariant-loop-left l = Looked (length l.rows) (has l.present) (test l.rows l.present l.bound) l.left

abbrev pub decreases-loop-left : goal.decreases-loop-left
decreases-loop-left l = size 64 l.left
