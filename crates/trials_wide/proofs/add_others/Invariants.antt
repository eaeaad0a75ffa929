use mathlib.Core.Path.{◌≡◌}
use lib.ListN.{length}
use Rattle.clashes.specs.Matrix.{Valid, matrix}
use Rattle.wide.specs.Words.{rows_of}
use Rattle.trials_wide.proofs.add_others.Given as goal

abbrev pub invariant-loop-u : goal.invariant-loop-u
invariant-loop-u l =
    (length l.rows ≡ 1024) × (Valid l.n (matrix (rows_of 4 256 l.initial.rows)) → Valid l.n (matrix (rows_of 4 256 l.rows)))

abbrev pub invariant-loop-v : goal.invariant-loop-v
invariant-loop-v l =
    (length l.rows ≡ 1024) × (Valid l.n (matrix (rows_of 4 256 l.initial.rows)) → Valid l.n (matrix (rows_of 4 256 l.rows)))
