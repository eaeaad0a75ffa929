use lib.ListN.{length}
use Rattle.sets.specs.Set.{size}
use Rattle.removing.proofs.ShrinkLaws.{Going}
use Rattle.removing.proofs.shrink.Given as goal

abbrev pub invariant-loop-goes : goal.invariant-loop-goes
invariant-loop-goes l = Going 64 l.bound l.rows l.went l.few l.gone l.present

abbrev pub decreases-loop-goes : goal.decreases-loop-goes
decreases-loop-goes l = size (length l.rows) l.present
