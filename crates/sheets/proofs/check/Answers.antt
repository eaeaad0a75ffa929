-- `sheets::check` meets its contract: the list's own refusals, then 5, then the sheet. Assumes nothing.
use Rattle.std.proofs.Common.{◌≡◌, ◌∙◌, sym, subst, arith, rules, length}
use Rattle.std.specs.Prelude.{Result}
use Rattle.lists.specs.Read.{most_entries, answer_in}
use Rattle.lists.specs.declared.Gathered.{Gathered}
use Rattle.lists.specs.declared.Unread.{Unread}
use Rattle.lists.proofs.Fold.{Bounded, read_few}
use Rattle.sheets.proofs.check.Goals as goal

pub check_lines-requires : goal.check_lines-requires
check_lines-requires c =
    let a = c.args in
    let h = subst (λ (r : Result Gathered Unread). Bounded most_entries (answer_in r)) (sym c.gather.ensures ∙ c.in_ok-found.was) (read_few a.plain a.list.now most_entries) in
    let z : length c.in_ok-found.found.rows ≡ 64 = search rules in
    (h, omega arith)
