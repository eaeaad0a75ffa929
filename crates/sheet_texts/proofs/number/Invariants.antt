use Rattle.std.specs.Prelude.{◌≡◌, ◌≤◌, drop}
use Rattle.sheet_texts.specs.Sheet.{number_from, numbering}
use Rattle.sheet_texts.proofs.number.Given as goal

abbrev pub invariant-loop-i : goal.invariant-loop-i
invariant-loop-i l = (l.used ≤ l.i) × (number_from l.used l.i (drop l.i l.colours) ≡ numbering l.colours)
