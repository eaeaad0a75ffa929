-- `wide::row_of` meets its contract: a lent number, or the four words of the row. Assumes nothing.
use mathlib.Core.Path.{sym, ap, ◌∙◌, subst}
use Prim.Native.Nat.{ℕ, ◌*◌, ◌<◌, ◌^◌}
use native.Mathlib.Omega.{arith}
use lib.ListN.{length, get_or}
use borrow.Author.Rules.{rules}
use Rattle.wide.specs.Words.{num}
use Rattle.wide.specs.Form.{Fits}
use Rattle.wide.proofs.FormLaws.{is_one, is_four, held_one, held_four, lt_fits, four_fits}
use Rattle.wide.proofs.row_of.Goals as goal

pub bounds-rows-i : goal.bounds-rows-i
bounds-rows-i c =
    let o = is_one c.if-words-eq1.true c.requires.form in
    let z : c.args.i < length c.args.rows.now = omega (arith, o.words_one, o.long, c.requires.i_bound) in z

pub returns-then-words-eq1 : goal.returns-then-words-eq1
returns-then-words-eq1 c =
    let a = c.args in
    let l = a.rows.now in
    let o = is_one c.if-words-eq1.true c.requires.form in record {
      result_value = c.up.ensures ∙ ap (λ l. get_or l a.i 0) (sym (held_one a.words l o));
      fits = subst (λ (w : ℕ). Fits (64 * w) (num c.up.result)) (sym o.words_one)
          (lt_fits 64 (num c.up.result) (subst (λ (x : ℕ). x < 2 ^ 64) (sym c.up.ensures) (c.type_inv.rows a.i).fits));
    }

pub row-requires : goal.row-requires
row-requires c =
    let f = is_four c.if-words-eq1.false c.requires.form in
    (f.long, omega (arith, f.words_four, c.requires.i_bound))

pub returns : goal.returns
returns c =
    let a = c.args in
    let l = a.rows.now in
    let f = is_four c.if-words-eq1.false c.requires.form in record {
      result_value = c.row.ensures ∙ ap (λ l. get_or l a.i 0) (sym (held_four a.words l f));
      fits = subst (λ (w : ℕ). Fits (64 * w) (num c.row.result)) (sym f.words_four)
          (four_fits c.row.result (search rules) (search rules) (search rules) (search rules));
    }
