-- `mending::mend_sheet` meets its contract: the list's own refusals, then the sheet. Assumes nothing.
use mathlib.Core.Path.{◌≡◌, sym}
use lib.ListN.{length}
use borrow.Author.Rules.{rules}
use Rattle.std.proofs.lemmas.Result.{err_from_is_err_and}
use Rattle.mending.proofs.Answers.{rows_of, rows_valid, promised, promised_unread}
use Rattle.mending.proofs.mend_sheet.Goals as goal

pub mend_lines-requires : goal.mend_lines-requires
mend_lines-requires c =
    let a = c.args in
    let f = c.in_ok-list.list in
    let z : length f.rows ≡ 64 = search rules in
    (rows_of a.plain a.list.now f (sym c.in_ok-list.ensures) z, rows_valid a.plain a.list.now f (sym c.in_ok-list.ensures))

pub returns-in_err-list : goal.returns-in_err-list
returns-in_err-list c =
    let a = c.args in
    let p = err_from_is_err_and c.from_residual.result c.from_residual.ensures.1 in
    rw (p.1, p.2) (promised_unread a.plain a.list.now _ (sym c.in_err-list.ensures) a.sheet.now a.out.now)

pub returns : goal.returns
returns c =
    let a = c.args in
    promised a.plain a.list.now c.in_ok-list.list (sym c.in_ok-list.ensures) a.sheet.now a.out.now _ _ c.mend_lines.ensures
