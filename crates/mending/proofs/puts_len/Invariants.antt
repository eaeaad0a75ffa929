use Prim.Native.Nat.{◌≤◌, ◌+◌, ◌*◌}
use mathlib.Core.Path.{◌≡◌}
use lib.ListN.{length}
use Rattle.sets.specs.Lists.{members}
use Rattle.sets.specs.Set.{has, size}
use Rattle.sheets.specs.Sound.{Within}
use Rattle.mends.specs.Report.{put_text}
use Rattle.mending.proofs.puts_len.Given as goal

abbrev pub invariant-loop-left : goal.invariant-loop-left
invariant-loop-left l =
    Within (length l.colours) l.left × (l.bytes + length (put_text l.colours (members (has l.left) 64)) ≡ length (put_text l.colours (members (has l.again) 64)))
    × (l.bytes + 32 * size 64 l.left ≤ 2048)

abbrev pub decreases-loop-left : goal.decreases-loop-left
decreases-loop-left l = size 64 l.left
