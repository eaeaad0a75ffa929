-- `restoring::packed` meets its contract: out has the places of those who are not left. Assumes nothing.
use mathlib.Core.Path.{◌≡◌, ◌∙◌}
use Prim.Native.Nat.{◌<◌}
use native.Mathlib.Decide.{ℕ_discrete}
use native.Mathlib.Omega.{arith}
use Rattle.clashes.specs.Labels.{place}
use Rattle.graphs.proofs.LoopLaws.{size_le, left_falls}
use Rattle.restoring.specs.Rows.{names}
use Rattle.restoring.proofs.TurnLaws.{packing_start, packing_next, packing_end, place_below}
use Rattle.restoring.proofs.packed.Goals as goal
use Rattle.restoring.proofs.packed.Goals.{After-from}

-- what stands in the array is the place of the lowest
placed : (c : After-from)
    → let w = c.lowest-w.result in
    (c.from.result ≡ place ℕ_discrete w (names 64 c.args.present)) × (c.from.result < 64)
placed c =
    let l = c.loop-left in
    let low = c.lowest-w in
    let here = (l.invariant.within low.result low.ensures.member).1 in
    let e = c.requires low.result low.ensures.below here in
    let p = c.from.ensures in
    (p ∙ e, omega (arith, p, e, place_below 64 c.args.present low.result low.ensures.below here, size_le 64 c.args.present))

pub loop-left-init : goal.loop-left-init
loop-left-init c = let a = c.args in packing_start 64 a.present a.row c.meet-left.result c.meet-left.ensures

pub with-out-requires : goal.with-out-requires
with-out-requires c = (placed (goal.at.with-out-requires c).After-from).1

pub loop-left-smaller : goal.loop-left-smaller
loop-left-smaller c =
    let low = c.lowest-w in
    let r = c.rest-left in
    left_falls c.loop-left.left low.result r.result low.ensures (r.ensures low.result low.ensures)

pub loop-left-preserved : goal.loop-left-preserved
loop-left-preserved c =
    let a = c.args in
    let l = c.loop-left in
    let low = c.lowest-w in
    let r = c.rest-left in
    packing_next 64 a.present a.row l.out l.left low.result r.result c.with-out.result c.from.result l.invariant low.ensures
    (r.ensures low.result low.ensures)
    (placed (goal.at.loop-left-preserved c).After-from).0 c.with-out.ensures

pub returns : goal.returns
returns c =
    let a = c.args in
    let l = c.loop-left in
    packing_end 64 a.present a.row l.out l.left l.invariant c.loop-left-test.false
