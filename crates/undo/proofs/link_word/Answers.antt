-- `undo::link_word` meets its contract. The invariant: rows so far, with u in the rows of what is left, are the rows with u in the rows of all of s.
-- Assumes nothing.
use mathlib.Core.Path.{refl, sym, ◌∙◌}
use Prim.Native.Nat.{◌*◌}
use native.Mathlib.Omega.{arith}
use lib.ListN.{get_or}
use Rattle.sets.specs.Set.{has}
use Rattle.wide.specs.Form.{held}
use Rattle.wide.proofs.RowLaws.{rows_long}
use Rattle.wide.proofs.FormLaws.{form_long, words_few}
use Rattle.graphs.proofs.LoopLaws.{left_falls}
use Rattle.undo.proofs.LinkLaws.{linked_next, linked_done}
use Rattle.undo.proofs.link_word.Goals as goal

pub loop-left-init : goal.loop-left-init
loop-left-init c = (c.requires.form, λ x y. refl)

pub overflow_add-from : goal.overflow_add-from
overflow_add-from c =
    record { fits = omega (arith, c.requires.u_bound.1, c.lowest-x.ensures.below, words_few c.requires.form) }

pub mark-requires : goal.mark-requires
mark-requires c = record { form = c.loop-left.invariant.0; x_bound = (omega (arith, c.requires.u_bound.1, c.lowest-x.ensures.below), c.requires.u_bound.0) }

pub loop-left-smaller : goal.loop-left-smaller
loop-left-smaller c =
    let low = c.lowest-x in
    left_falls _ _ _ low.ensures (c.rest-left.ensures low.result low.ensures)

pub loop-left-preserved : goal.loop-left-preserved
loop-left-preserved c =
    let l = c.loop-left in
    let low = c.lowest-x in
    let rest = c.rest-left in
    let done = c.mark.ensures in
    let a = c.args in (
      done.form_2,
      λ x y.
          linked_next (held a.words l.rows) _ a.u l.left low.result rest.result a.from low.ensures.member
          (rest.ensures low.result low.ensures) done.marked x y ∙ l.invariant.1 x y,
    )

pub shape_of-rows : goal.shape_of-rows
shape_of-rows c = sym (form_long c.loop-left.invariant.0).0 ∙ (form_long c.requires.form).0

pub returns : goal.returns
returns c =
    let l = c.loop-left in
    let a = c.args in record {
      form_2 = l.invariant.0;
      linked_by = record {
        long = rows_long a.words (64 * a.words) l.rows ∙ sym (rows_long a.words (64 * a.words) a.rows.now);
        is = λ x y. linked_done (has (get_or (held a.words l.rows) x 0) y) l.left a.from x a.u y c.loop-left-test.false ∙ l.invariant.1 x y;
      };
    }
