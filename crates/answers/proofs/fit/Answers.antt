-- `answers::fit` meets its contract. Assumes nothing.
use Prim.Native.Nat.{ℕ}
use mathlib.Core.Path.{◌≡◌, ap, subst, ◌∙◌}
use mathlib.Core.List.{List}
use native.Mathlib.Omega.{arith}
use lib.ListN.{length}
use Rattle.lines.specs.Numeral.{Put}
use Rattle.answers.proofs.Laws.{wrote, full}
use Rattle.answers.proofs.fit.Goals as goal

pub returns-then-out-text : goal.returns-then-out-text
returns-then-out-text c x t =
    let e : length c.as_slice-text.result.now ≡ length x = ap length (c.as_slice-text.ensures ∙ t.is) in
    full x c.args.out.now (omega (arith, e, c.if-out-text.true))

pub returns : goal.returns
returns c x t =
    let o = c.args.out.now in
    let q = c.as_slice-text.ensures ∙ t.is in
    let e : length c.as_slice-text.result.now ≡ length x = ap length q in
    wrote x o c.put_word.new.out c.put_word.result (omega (arith, e, c.if-out-text.false))
    (subst (λ (y : List ℕ). Put o 0 y c.put_word.new.out c.put_word.result) q c.put_word.ensures)
