use Rattle.restoring.proofs.SeatLaws.{Sitting}
use Rattle.restoring.proofs.seated.Given as goal

abbrev pub invariant-loop-colour : goal.invariant-loop-colour
invariant-loop-colour l = Sitting 64 l.present l.fn.c l.fn.many l.seats l.left l.colour-index
