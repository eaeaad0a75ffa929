-- `wide::put_row` meets its contract: a lent number is written, or the four words of the row. Assumes nothing.
use Prim.Native.Nat.{◌<◌}
use native.Mathlib.Omega.{arith}
use lib.ListN.{length, length-set}
use Rattle.wide.specs.Words.{num}
use Rattle.wide.proofs.FormLaws.{is_one, is_four, form_same, put_one, put_four}
use Rattle.wide.proofs.put_row.Goals as goal

pub bounds-rows-i : goal.bounds-rows-i
bounds-rows-i c =
    let o = is_one c.if-words-eq1.true c.requires.form in
    let z : c.args.i < length c.args.rows.now = omega (arith, o.words_one, o.long, c.requires.i_bound) in z

pub returns-then-words-eq1 : goal.returns-then-words-eq1
returns-then-words-eq1 c =
    let a = c.args in record { form_2 = form_same c.requires.form (length-set a.rows.now a.i a.s.a); rows_after = put_one a.words a.rows.now a.i a.s (is_one c.if-words-eq1.true c.requires.form) c.requires.fits }

pub put-requires : goal.put-requires
put-requires c =
    let f = is_four c.if-words-eq1.false c.requires.form in
    (f.long, omega (arith, f.words_four, c.requires.i_bound))

pub returns : goal.returns
returns c =
    let e = c.put.ensures in
    let p = put_four c.args.i (num c.args.s) (is_four c.if-words-eq1.false c.requires.form) e.0 e.1 in
    record { form_2 = p.0; rows_after = p.1 }
