-- `undo::separate` meets its contract. Assumes nothing.
use Prim.Native.Nat.{◌*◌}
use Rattle.undo.proofs.BackLaws.{separates_is}
use Rattle.wide.specs.Form.{held}
use Rattle.undo.proofs.separate.Goals as goal

pub returns : goal.returns
returns c =
    let a = c.args in
    let one = c.mark.ensures in
    let other = c.mark-2.ensures in record { form_2 = other.form_2; separates = separates_is (64 * a.words) (held a.words a.rows.now) _ _ a.u a.v one.marked other.marked }
