-- `undo::unmerge` meets its contract. Assumes nothing.
use mathlib.Core.Path.{sym, subst}
use mathlib.Core.List.{List}
use Prim.Native.Nat.{ℕ, ◌*◌, ◌<◌}
use Rattle.wide.specs.Words.{num}
use Rattle.wide.specs.Form.{held}
use Rattle.wide.proofs.RowLaws.{rows_long}
use Rattle.undo.specs.Back.{Undone}
use Rattle.undo.proofs.BackLaws.{undone_is}
use Rattle.undo.proofs.unmerge.Goals as goal

pub returns : goal.returns
returns c =
    let a = c.args in
    let rows = held a.words a.rows.now in
    let old = num a.undo.old in
    let near = num a.undo.near in
    let cut = c.unlink.ensures.unlinked in
    let put = c.put_row.ensures in
    let inside = subst (λ (k : ℕ). a.u < k) (sym (rows_long a.words (64 * a.words) a.rows.now)) c.requires.u_bound in record { form_2 = put.form_2; undone = subst (λ (l : List ℕ). Undone rows a.u old near l) (sym put.rows_after) (undone_is rows _ a.u old near inside cut) }
