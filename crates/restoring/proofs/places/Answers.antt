-- `restoring::places` meets its contract: who is not left has its place noted, and i are gone through. Assumes nothing.
use native.Mathlib.Omega.{arith}
use Rattle.graphs.proofs.LoopLaws.{size_le}
use Rattle.restoring.proofs.TurnLaws.{placing_next, placing_end, turned_some}
use Rattle.restoring.proofs.places.Goals as goal

pub overflow_cast-out : goal.overflow_cast-out
overflow_cast-out c = omega (arith, c.size-i-end.ensures, size_le 64 c.args.present)

pub lowest-requires : goal.lowest-requires
lowest-requires c = let l = c.loop-i in turned_some 64 c.args.present l.left l.i l.invariant.turned (omega (arith, c.size-i-end.ensures))

pub loop-i-preserved : goal.loop-i-preserved
loop-i-preserved c =
    let l = c.loop-i in
    let low = c.lowest in
    placing_next 64 c.args.present l.out l.left l.i low.result c.rest-left.result l.invariant low.ensures (c.rest-left.ensures low.result low.ensures)

pub returns : goal.returns
returns c = let l = c.loop-i in placing_end 64 c.args.present l.out l.left l.i l.invariant (omega (arith, c.size-i-end.ensures))
