use Rattle.clashes.specs.Matrix.{HasOneSided, NoRow}
use Rattle.clashes.proofs.Few.first_one_sided.Given as goal

abbrev pub invariant-loop-row : goal.invariant-loop-row
invariant-loop-row l = NoRow (HasOneSided l.self.rows.now) l.row
