use Rattle.sets.specs.Set.{size}
use Rattle.removing.proofs.ShareLaws.{Shared}
use Rattle.removing.proofs.sharing.Given as goal

abbrev pub invariant-loop-left : goal.invariant-loop-left
invariant-loop-left l = Shared l.rows l.near l.among l.others l.left

abbrev pub decreases-loop-left : goal.decreases-loop-left
decreases-loop-left l = size 64 l.left
