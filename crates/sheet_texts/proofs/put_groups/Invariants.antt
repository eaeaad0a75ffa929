use Rattle.std.specs.Prelude.{◌-◌}
use Rattle.lines.proofs.Writing.{Left}
use Rattle.sheet_texts.specs.Sheet.{groups_text}
use Rattle.sheet_texts.proofs.put_groups.Given as goal

abbrev pub invariant-loop-g : goal.invariant-loop-g
invariant-loop-g l = Left l.initial.out l.at (groups_text l.colours 0 l.k) l.out l.a (groups_text l.colours l.g (l.k - l.g))
