use lib.ListN.{length}
use Rattle.sets.specs.Lists.{members}
use Rattle.sets.specs.Set.{has, size}
use Rattle.sheets.specs.Sound.{Within}
use Rattle.lines.proofs.Writing.{Left}
use Rattle.mends.specs.Report.{put_text}
use Rattle.mending.proofs.put_puts.Given as goal

abbrev pub invariant-loop-left : goal.invariant-loop-left
invariant-loop-left l =
    Within (length l.colours) l.left × Left l.initial.out l.at (put_text l.colours (members (has l.again) 64)) l.out l.a (put_text l.colours (members (has l.left) 64))

abbrev pub decreases-loop-left : goal.decreases-loop-left
decreases-loop-left l = size 64 l.left
