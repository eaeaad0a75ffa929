use Rattle.sets.specs.Set.{size}
use Rattle.clashes.proofs.OneSidedLaws.{Looked}
use Rattle.clashes.proofs.Few.is_one_sided.Given as goal

abbrev pub invariant-loop-left : goal.invariant-loop-left
invariant-loop-left l = Looked l.self.rows.now l.i l.all l.left

abbrev pub decreases-loop-left : goal.decreases-loop-left
decreases-loop-left l = size 64 l.left
