use Rattle.restoring.proofs.TurnLaws.{Placing}
use Rattle.restoring.proofs.places.Given as goal

abbrev pub invariant-loop-i : goal.invariant-loop-i
invariant-loop-i l = Placing 64 l.present l.out l.left l.i
