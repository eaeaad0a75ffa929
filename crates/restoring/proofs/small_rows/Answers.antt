-- `restoring::small_rows` meets its contract: the rows that are filled in are those of the shrunk list. Assumes nothing.
use Prim.Native.Nat.{ℕ}
use native.Mathlib.Omega.{arith}
use lib.ListN.{length-append, length-drop, length-take, length-replicate}
use Rattle.graphs.proofs.LoopLaws.{size_le}
use Rattle.restoring.proofs.TurnLaws.{filling_start, filling_next, filling_end, turned_some}
use Rattle.restoring.proofs.small_rows.Goals as goal

pub slice_bounds-out-end : goal.slice_bounds-out-end
slice_bounds-out-end c = omega (arith, c.size.ensures, size_le 64 c.args.present)

pub slice_bounds-small-items-end : goal.slice_bounds-small-items-end
slice_bounds-small-items-end c = omega (arith, length-take {A = ℕ}, length-replicate {A = ℕ}, c.size.ensures, size_le 64 c.args.present)

pub loop-small-init : goal.loop-small-init
loop-small-init c = filling_start 64 c.args.present c.args.rows.now _

pub lowest-requires : goal.lowest-requires
lowest-requires c = let l = c.loop-small in turned_some 64 c.args.present l.left l.small-index l.invariant.turned (omega (arith, length-take {A = ℕ}, length-replicate {A = ℕ}, c.size.ensures, size_le 64 c.args.present))

-- the lowest who is left is an entry
pub bounds-rows-lowest : goal.bounds-rows-lowest
bounds-rows-lowest c =
    let low = c.lowest in
    c.requires low.result (c.loop-small.invariant.turned.within low.result low.ensures.member)

pub loop-small-preserved : goal.loop-small-preserved
loop-small-preserved c =
    let a = c.args in
    let l = c.loop-small in
    let low = c.lowest in
    filling_next 64 a.present a.rows.now l.small-items l.left l.small-index low.result c.rest-left.result c.packed.result l.invariant low.ensures (c.rest-left.ensures low.result low.ensures)
    c.packed.ensures (omega arith)

pub returns : goal.returns
returns c =
    let a = c.args in
    let l = c.loop-small in
    filling_end 64 a.present a.rows.now l.small-items _ l.left l.small-index l.invariant (omega (arith, length-take {A = ℕ}, length-replicate {A = ℕ}, c.size.ensures, size_le 64 a.present))
    (simp (length-append, length-drop) (omega (arith, length-take {A = ℕ}, length-replicate {A = ℕ}, c.size.ensures, size_le 64 a.present)))
    (omega (arith, length-take {A = ℕ}, length-replicate {A = ℕ}, c.size.ensures, size_le 64 a.present))
