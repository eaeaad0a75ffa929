-- `removing::first_covered` meets its contract: nobody who was looked at is covered. Assumes nothing.
use mathlib.Core.Path.{sym, ap, ◌∙◌}
use mathlib.Core.Option.{Option, none, some}
use Prim.Native.Nat.{ℕ}
use lib.ListN.{length}
use Rattle.sets.specs.Set.{has}
use Rattle.clashes.specs.Matrix.{matrix}
use Rattle.shrink.specs.Rules.{choose}
use Rattle.graphs.proofs.LoopLaws.{left_falls}
use Rattle.removing.proofs.LookLaws.{looked_next, looked_found, looked_end, covered_none, covered_some, covered_noted}
use Rattle.removing.proofs.first_covered.Invariants.{test}
use Rattle.removing.proofs.first_covered.Goals as goal

pub returns-then-others-ne0 : goal.returns-then-others-ne0
returns-then-others-ne0 c =
    let a = c.args in
    let n = length a.rows.now in
    let l = c.loop-left in
    let low = c.lowest-v in
    let met = c.meet-near in
    let out = c.without in
    let cut = c.less in
    let others = c.sharing-others in
    let v = low.result in
    let here = (l.invariant.within v low.ensures.member).1 in
    ap some (covered_noted a.rows.now a.present c.requires v met.result out.result cut.result others.result here met.ensures
    out.ensures cut.ensures others.ensures 64 c.lowest.result c.lowest.ensures)
    ∙ ap (λ (o : Option ℕ). choose n (matrix a.rows.now) (has a.present) o none)
    (sym (looked_found n (has a.present) (test a.rows.now a.present) 64 l.left v l.invariant low.ensures
    (covered_some a.rows.now a.present c.requires v met.result out.result cut.result others.result here met.ensures
    out.ensures cut.ensures others.ensures 64 c.lowest.result c.lowest.ensures)))

pub loop-left-smaller : goal.loop-left-smaller
loop-left-smaller c =
    let low = c.lowest-v in
    let r = c.rest-left in
    left_falls c.loop-left.left low.result r.result low.ensures (r.ensures low.result low.ensures)

pub loop-left-preserved : goal.loop-left-preserved
loop-left-preserved c =
    let a = c.args in
    let l = c.loop-left in
    let low = c.lowest-v in
    let r = c.rest-left in
    let met = c.meet-near in
    let out = c.without in
    let cut = c.less in
    let others = c.sharing-others in
    let v = low.result in
    looked_next (length a.rows.now) (has a.present) (test a.rows.now a.present) 64 l.left v l.invariant
    low.ensures r.result (r.ensures v low.ensures)
    (covered_none a.rows.now a.present c.requires v met.result out.result cut.result others.result
    (l.invariant.within v low.ensures.member).1 met.ensures
    out.ensures cut.ensures others.ensures c.if-others-ne0.false)

pub returns : goal.returns
returns c =
    let a = c.args in
    let n = length a.rows.now in
    let l = c.loop-left in
    ap (λ (o : Option ℕ). choose n (matrix a.rows.now) (has a.present) o none)
    (sym (looked_end n (has a.present) (test a.rows.now a.present) l.left l.invariant c.loop-left-test.false))
