-- `undo::unseparate` meets its contract. Assumes nothing.
use Rattle.undo.proofs.BackLaws.{cut_is}
use Rattle.wide.specs.Form.{held}
use Rattle.undo.proofs.unseparate.Goals as goal

pub returns : goal.returns
returns c =
    let a = c.args in
    let one = c.unmark.ensures in
    let other = c.unmark-2.ensures in record { form_2 = other.form_2; cut = cut_is (held a.words a.rows.now) _ _ a.u a.v one.unmarked other.unmarked }
