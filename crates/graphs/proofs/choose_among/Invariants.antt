use Rattle.sets.specs.Set.{size}
use Rattle.graphs.proofs.ChooseLaws.{Scanned}
use Rattle.graphs.proofs.choose_among.Given as goal

abbrev pub invariant-loop-left : goal.invariant-loop-left
invariant-loop-left l = Scanned 64 l.rows l.live l.best l.left

abbrev pub decreases-loop-left : goal.decreases-loop-left
decreases-loop-left l = size 64 l.left
