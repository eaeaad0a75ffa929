-- `sheets::check_sheet` meets its contract: an accepted pair's entries fit the lent bytes. Assumes nothing.
use Rattle.std.proofs.Common.{◌≡◌, ◌∙◌, sym, subst, arith, rules, length}
use Rattle.std.proofs.lemmas.List.{length-take-le}
use Rattle.std.specs.Prelude.{Result, IfOk}
use Rattle.lists.specs.Read.{most_entries, longest_text}
use Rattle.sheets.specs.declared.Division.{Division}
use Rattle.sheets.specs.declared.Unchecked.{Unchecked}
use Rattle.sheets.proofs.Answers.{Fits, check_fits}
use Rattle.sheets.proofs.check_sheet.Goals as goal
use Rattle.sheets.proofs.check_sheet.Goals.{In_ok-found}

fits : (c : In_ok-found) → Fits most_entries (length c.args.colours.now) c.in_ok-found.found
fits c =
    let a = c.args in
    let n = length a.colours.now in
    subst (λ (r : Result Division Unchecked). IfOk r (Fits most_entries n)) (sym c.check.ensures ∙ c.in_ok-found.was)
    (check_fits most_entries n a.plain longest_text a.list.now a.sheet.now)

pub slice_bounds-copy_from_slice-end : goal.slice_bounds-copy_from_slice-end
slice_bounds-copy_from_slice-end c = (fits (goal.at.slice_bounds-copy_from_slice-end c).In_ok-found).fits

pub slice_bounds-copy_from_slice-end-2 : goal.slice_bounds-copy_from_slice-end-2
slice_bounds-copy_from_slice-end-2 c = let f = fits (goal.at.slice_bounds-copy_from_slice-end-2 c).In_ok-found in sym (length-take-le _ _ f.fits)

pub shared_ref_as_front-copy_from_slice : goal.shared_ref_as_front-copy_from_slice
shared_ref_as_front-copy_from_slice c = (fits (goal.at.shared_ref_as_front-copy_from_slice c).In_ok-found).few

pub copy_from_slice-requires : goal.copy_from_slice-requires
copy_from_slice-requires c =
    let f = fits (goal.at.copy_from_slice-requires c).In_ok-found in
    let z : length c.in_ok-found.found.colours ≡ 64 = search rules in
    length-take-le _ _ f.fits ∙ sym (length-take-le _ _ (omega (arith, f.few)))
