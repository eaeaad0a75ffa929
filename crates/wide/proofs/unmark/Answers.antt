-- `wide::unmark` meets its contract: one word loses one place. Assumes nothing.
use native.Mathlib.Omega.{arith}
use borrow.Author.Rules.{rules}
use Rattle.wide.proofs.PlaceLaws.{Small}
use Rattle.wide.proofs.FormLaws.{place_in, place_few, form_written, unmarked_is}
use Rattle.wide.proofs.unmark.Goals as goal

pub overflow_mul-at : goal.overflow_mul-at
overflow_mul-at c =
    let a = c.args in
    record { fits = omega (arith, place_few a.x a.u c.requires.form c.requires.x_bound.0 c.requires.x_bound.1) }

pub overflow_add-at : goal.overflow_add-at
overflow_add-at c =
    let a = c.args in
    record { fits = omega (arith, place_few a.x a.u c.requires.form c.requires.x_bound.0 c.requires.x_bound.1) }

pub offset_bounds-rows-at : goal.offset_bounds-rows-at
offset_bounds-rows-at c =
    let a = c.args in
    record { fits = omega (arith, place_few a.x a.u c.requires.form c.requires.x_bound.0 c.requires.x_bound.1) }

pub bounds-rows-at : goal.bounds-rows-at
bounds-rows-at c = place_in c.args.x c.args.u c.requires.form c.requires.x_bound.0 c.requires.x_bound.1

pub offset_bounds-rows-at-2 : goal.offset_bounds-rows-at-2
offset_bounds-rows-at-2 c =
    let a = c.args in
    record { fits = omega (arith, place_few a.x a.u c.requires.form c.requires.x_bound.0 c.requires.x_bound.1) }

pub bounds-rows-at-2 : goal.bounds-rows-at-2
bounds-rows-at-2 c = place_in c.args.x c.args.u c.requires.form c.requires.x_bound.0 c.requires.x_bound.1

pub returns : goal.returns
returns c =
    let a = c.args in
    let small : Small a.rows.now = λ i. search rules in record { form_2 = form_written a.x a.u c.without-word.result c.requires.form small (search rules) c.requires.x_bound.0 c.requires.x_bound.1; unmarked = unmarked_is a.x a.u c.without-word.result c.requires.form small (search rules) c.requires.x_bound.0 c.requires.x_bound.1 c.without-word.ensures }
