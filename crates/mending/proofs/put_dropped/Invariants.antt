use Prim.Native.Nat.{◌≤◌, ◌+◌, ◌-◌}
use lib.ListN.{length, drop}
use Rattle.sets.specs.Set.{has}
use Rattle.lines.specs.Text.{lines_of}
use Rattle.lines.proofs.Writing.{Left}
use Rattle.mends.specs.Report.{dropped_text}
use Rattle.mending.specs.Held.{dropped_at, dropped_of}
use Rattle.mending.proofs.put_dropped.Given as goal

abbrev pub invariant-loop-at : goal.invariant-loop-at
invariant-loop-at l =
    (l.at ≤ length l.sheet) × (l.line ≤ l.at + 1)
    × Left l.initial.out 0 (dropped_text (dropped_of l.n l.sheet)) l.out l.a (dropped_text (dropped_at l.n (lines_of (drop l.at l.sheet)) l.line l.c (has l.seen)))

abbrev pub decreases-loop-at : goal.decreases-loop-at
decreases-loop-at l = length l.sheet - l.at
