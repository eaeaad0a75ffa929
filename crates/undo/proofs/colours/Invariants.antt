use Rattle.undo.proofs.ColourLaws.{Numbered}
use Rattle.undo.proofs.colours.Given as goal

abbrev pub invariant-loop-i : goal.invariant-loop-i
invariant-loop-i l = Numbered l.names l.initial.out l.out l.next l.i
