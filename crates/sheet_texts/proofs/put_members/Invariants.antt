use Rattle.std.specs.Prelude.{drop}
use Rattle.lines.proofs.Writing.{Left}
use Rattle.sheet_texts.specs.Sheet.{members_of, member_lines}
use Rattle.sheet_texts.proofs.put_members.Given as goal

abbrev pub invariant-loop-i : goal.invariant-loop-i
invariant-loop-i l = Left l.initial.out l.at (member_lines (members_of l.colours 0 l.g)) l.out l.a (member_lines (members_of (drop l.i l.colours) l.i l.g))
