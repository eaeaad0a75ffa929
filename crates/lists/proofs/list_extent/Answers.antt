-- `lists::list_extent` meets its contract: what was counted and what is left make the whole. Assumes nothing.
use mathlib.Core.Path.{subst}
use lib.ListN.{length}
use Rattle.lists.specs.Edges.{edges as all}
use Rattle.lists.proofs.EdgeLaws.{edges_are, rows_end, Counted, count_all, count_row, count_none}
use native.Mathlib.Omega.{arith}
use Rattle.lists.proofs.list_extent.Goals as goal

pub loop-i-init : goal.loop-i-init
loop-i-init c = let s = c.args.rows.now in (omega arith, omega arith, subst (Counted (all s) 0 0) (edges_are s) (count_all (all s)))

pub loop-i-preserved : goal.loop-i-preserved
loop-i-preserved c =
    let s = c.args.rows.now in
    let b = c.loop-i in (
      omega arith,
      omega arith,
      count_row _ b.edges b.bytes (length s) s b.i c.loop-i-test.true b.invariant.2 _ _
          c.row_extent-e.ensures.0.0 c.row_extent-e.ensures.0.1,
    )

pub returns : goal.returns
returns c =
    let s = c.args.rows.now in
    let b = c.loop-i in
    (count_none _ b.edges b.bytes _ (rows_end (length s) s b.i c.loop-i-test.false) b.invariant.2, (omega arith, omega arith))
