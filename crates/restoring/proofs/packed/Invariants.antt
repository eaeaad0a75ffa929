use Rattle.sets.specs.Set.{size}
use Rattle.restoring.proofs.TurnLaws.{Packing}
use Rattle.restoring.proofs.packed.Given as goal

abbrev pub invariant-loop-left : goal.invariant-loop-left
invariant-loop-left l = Packing 64 l.present l.row l.out l.left

abbrev pub decreases-loop-left : goal.decreases-loop-left
decreases-loop-left l = size 64 l.left
