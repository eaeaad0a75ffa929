use Rattle.sets.specs.Set.{size}
use Rattle.wide.specs.Words.{num, rows_of}
use Rattle.graphs.proofs.ChooseLaws.{Scanned}
use Rattle.wide_pairs.proofs.choose_among.Given as goal

abbrev pub invariant-loop-live : goal.invariant-loop-live
invariant-loop-live l = Scanned 256 (rows_of 4 256 l.rows) (num l.live) l.best (num l.left)

abbrev pub decreases-loop-live : goal.decreases-loop-live
decreases-loop-live l = size 256 (num l.left)
