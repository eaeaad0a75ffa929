-- `steps::separate_at` meets its contract. Assumes nothing.
use native.Mathlib.Omega.{arith}
use Rattle.steps.proofs.Undoing.{form_few}
use Rattle.steps.proofs.separate_at.Goals as goal

pub overflow_mul-trail : goal.overflow_mul-trail
overflow_mul-trail c = omega (arith, form_few c.requires.form)

pub overflow_add-trail : goal.overflow_add-trail
overflow_add-trail c = omega (arith, form_few c.requires.form)

pub overflow_cast-trail : goal.overflow_cast-trail
overflow_cast-trail c = omega (arith, form_few c.requires.form)
