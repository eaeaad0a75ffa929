use Rattle.clashes.specs.Matrix.{HasItself, NoRow}
use Rattle.clashes.proofs.Few.first_itself.Given as goal

abbrev pub invariant-loop-i : goal.invariant-loop-i
invariant-loop-i l = NoRow (HasItself l.self.rows.now) l.i
