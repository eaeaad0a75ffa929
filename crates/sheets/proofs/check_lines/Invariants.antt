use Rattle.std.specs.Prelude.{◌≡◌, ◌≤◌, ◌+◌, ◌-◌, length, drop, IfSome}
use Rattle.sets.specs.Set.{has}
use Rattle.clashes.specs.Matrix.{matrix}
use Rattle.lines.specs.Text.{lines_of}
use Rattle.lists.specs.Read.{most_entries, longest_text}
use Rattle.sheets.specs.Check.{no_colours, none, check_from, start}
use Rattle.sheets.specs.Sound.{Sound, Within}
use Rattle.sheets.proofs.check_lines.Given as goal

abbrev pub invariant-loop-at : goal.invariant-loop-at
invariant-loop-at l =
    (l.at ≤ length l.sheet) × (length l.sheet ≤ longest_text) × (l.line ≤ l.at + 1) × (length l.colours ≡ most_entries) × IfSome l.p Sound × Within l.n l.mates
    × (check_from (lines_of (drop l.at l.sheet)) l.n (matrix l.rows) l.line l.p (has l.mates) (has l.earlier) l.colours
    ≡ check_from (lines_of l.sheet) l.n (matrix l.rows) 1 start none none no_colours)

abbrev pub decreases-loop-at : goal.decreases-loop-at
decreases-loop-at l = length l.sheet - l.at
