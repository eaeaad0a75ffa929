use mathlib.Core.Path.{◌≡◌}
use Prim.Native.Nat.{◌≤◌, ◌-◌}
use lib.ListN.{length}
use Rattle.clashes.specs.Matrix.{Valid, matrix}
use Rattle.wide.specs.Words.{rows_of}
use Rattle.trials_wide.proofs.add_pairs.Given as goal

abbrev pub invariant-loop-line : goal.invariant-loop-line
invariant-loop-line l =
    (l.at-2 ≤ l.at) × (l.at ≤ length l.file) × (length l.rows ≡ 1024) × (Valid l.n (matrix (rows_of 4 256 l.initial.rows)) → Valid l.n (matrix (rows_of 4 256 l.rows)))

abbrev pub decreases-loop-line : goal.decreases-loop-line
decreases-loop-line l = length l.file - l.at
