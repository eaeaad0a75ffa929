use Rattle.restoring.proofs.SeatLaws.{Numbering}
use Rattle.restoring.proofs.number.Given as goal

abbrev pub invariant-loop-i : goal.invariant-loop-i
invariant-loop-i l = Numbering l.seats.group l.initial.colours l.colours l.next l.i
