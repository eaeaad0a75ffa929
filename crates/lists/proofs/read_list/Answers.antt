-- `lists::read_list` copies as many rows as were gathered, which both sides have. Assumes nothing.
use mathlib.Core.Path.{◌≡◌, sym, ◌∙◌}
use native.Mathlib.Omega.{arith}
use lib.ListN.{length, take}
use lib.Seq.{length-take-le}
use Rattle.std.proofs.Common.{rules}
use Rattle.lists.proofs.Fold.{gathered_fits}
use Rattle.lists.proofs.read_list.Goals as goal
use Rattle.lists.proofs.read_list.Goals.{In_ok-n}

ours : (c : In_ok-n) → length (take c.in_ok-n.field-0.n c.args.rows.now) ≡ c.in_ok-n.field-0.n
ours c = length-take-le _ _ (gathered_fits c.args.plain c.args.text.now _ c.in_ok-n.field-0 (sym c.gather.ensures ∙ c.in_ok-n.was)).1

theirs : (c : In_ok-n) → length (take c.in_ok-n.field-0.n c.in_ok-n.field-0.rows) ≡ c.in_ok-n.field-0.n
theirs c =
    let z : length c.in_ok-n.field-0.rows ≡ 64 = search rules in
    length-take-le _ _ (omega (arith, (gathered_fits c.args.plain c.args.text.now _ c.in_ok-n.field-0 (sym c.gather.ensures ∙ c.in_ok-n.was)).0))

pub slice_bounds-copy_from_slice-end-2 : goal.slice_bounds-copy_from_slice-end-2
slice_bounds-copy_from_slice-end-2 c = sym (ours (goal.at.slice_bounds-copy_from_slice-end-2 c).In_ok-n)

pub slice_bounds-copy_from_slice-end-3 : goal.slice_bounds-copy_from_slice-end-3
slice_bounds-copy_from_slice-end-3 c = sym (theirs (goal.at.slice_bounds-copy_from_slice-end-3 c).In_ok-n)

pub copy_from_slice-requires : goal.copy_from_slice-requires
copy_from_slice-requires c = ours (goal.at.copy_from_slice-requires c).In_ok-n ∙ sym (theirs (goal.at.copy_from_slice-requires c).In_ok-n)
