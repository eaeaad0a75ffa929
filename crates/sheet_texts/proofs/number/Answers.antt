-- `sheet_texts::number` meets its contract: what is left of the bytes, numbered after so many, is what the whole is. Assumes nothing.
use Prim.Native.Nat.{◌≤◌, ◌+◌}
use mathlib.Core.Path.{◌≡◌, sym, refl, ◌∙◌}
use lib.ListN.{drop}
use native.Mathlib.Omega.{arith}
use Rattle.sheet_texts.specs.Sheet.{number_from, numbering}
use Rattle.sheet_texts.proofs.FirstUse.{number_wrong, number_new, number_old, number_end}
use Rattle.sheet_texts.proofs.number.Goals as goal
use Rattle.sheet_texts.proofs.number.Goals.{Joined-g-used, then-g-used, else-g-used}

stepped : (c : Joined-g-used) →
    let s = c.args.colours.now in
    let i = c.loop-i.i in
    (c.if-g-used.used ≤ i + 1) × (number_from c.if-g-used.used (i + 1) (drop (i + 1) s) ≡ numbering s)
stepped c =
    let s = c.args.colours.now in
    let b = c.loop-i in
    let l = c.loop-i-test.true in
    let g = c.from-g.ensures in
    elim c.if-g-used.branch [
      | then-g-used w ↦ (omega arith, rw w.used-is (sym (number_new s b.used b.i _ l g w.if-g-used.true) ∙ b.invariant.1))
      | else-g-used w ↦ (omega arith, rw w.used-is (sym (number_old s b.used b.i _ l g c.if-used-g.false w.if-g-used.false) ∙ b.invariant.1))
    ]

pub loop-i-init : goal.loop-i-init
loop-i-init c = (omega arith, refl)

pub returns-then-used-g : goal.returns-then-used-g
returns-then-used-g c =
    sym (number_wrong c.args.colours.now c.loop-i.used
    c.loop-i.i _ c.loop-i-test.true c.from-g.ensures c.if-used-g.true)
    ∙ c.loop-i.invariant.1

pub loop-i-preserved : goal.loop-i-preserved
loop-i-preserved c = stepped c

pub returns : goal.returns
returns c = sym (number_end c.args.colours.now c.loop-i.used c.loop-i.i c.loop-i-test.false) ∙ c.loop-i.invariant.1
