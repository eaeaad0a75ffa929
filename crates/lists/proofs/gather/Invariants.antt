use Prim.Native.Nat.{◌≤◌, ◌+◌, ◌-◌}
use mathlib.Core.Path.{◌≡◌}
use lib.ListN.{length, drop}
use Rattle.lines.specs.Text.{lines_of}
use Rattle.lists.specs.Read.{most_entries, longest_text, no_rows, read_from, start}
use Rattle.lists.proofs.Fold.{Few}
use Rattle.lists.proofs.gather.Given as goal

abbrev pub invariant-loop-at : goal.invariant-loop-at
invariant-loop-at l =
    (l.at ≤ length l.text) × (length l.text ≤ longest_text) × (l.line ≤ l.at + 1) × Few most_entries l.at l.h × (length l.rows ≡ most_entries)
    × (read_from l.plain (lines_of (drop l.at l.text)) l.room l.line l.h l.rows ≡ read_from l.plain (lines_of l.text) l.room 1 start no_rows)

abbrev pub decreases-loop-at : goal.decreases-loop-at
decreases-loop-at l = length l.text - l.at
