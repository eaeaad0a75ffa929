use mathlib.Core.Path.{◌≡◌}
use Prim.Native.Nat.{ℕ, ◌+◌}
use Rattle.sets.specs.Set.{size}
use Rattle.counts.specs.Counts.{held, value}
use Rattle.counts.proofs.counted.Given as goal

abbrev pub invariant-loop-left : goal.invariant-loop-left
invariant-loop-left l = (v : ℕ) → value l.c v + held l.rows l.left v ≡ held l.rows l.near v

abbrev pub decreases-loop-left : goal.decreases-loop-left
decreases-loop-left l = size 64 l.left
