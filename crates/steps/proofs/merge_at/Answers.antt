-- `steps::merge_at` meets its contract. Assumes nothing.
use native.Mathlib.Omega.{arith}
use Rattle.steps.proofs.Undoing.{form_few}
use Rattle.steps.proofs.merge_at.Goals as goal

pub overflow_cast-names : goal.overflow_cast-names
overflow_cast-names c = omega (arith, form_few c.requires.form)
