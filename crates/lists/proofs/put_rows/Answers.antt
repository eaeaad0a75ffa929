-- `lists::put_rows` meets its contract: the rows that are left, put from here, are all of them put at the start (`Left`). Assumes nothing.
use Prim.Native.Nat.{◌+◌, ◌-◌}
use mathlib.Core.Path.{ap}
use lib.ListN.{length, drop, get_or}
use Rattle.lines.proofs.Writing.{left_begin, left_room, left_put, left_skip, left_none}
use Rattle.lists.specs.Edges.{edges, row_edges, edges_from}
use Rattle.lists.specs.Write.{edges_text}
use Rattle.lists.proofs.EdgeLaws.{edges_are, row_lines, rows_end}
use native.Mathlib.Omega.{arith}
use Rattle.lists.proofs.put_rows.Goals as goal

pub loop-i-init : goal.loop-i-init
loop-i-init c =
    let a = c.args in
    left_skip _ _ _ a.out.now a.at _ (left_begin a.out.now a.at (edges_text (edges a.rows.now)) c.requires.1) _ (ap edges_text (edges_are a.rows.now))

pub put_row-a-requires : goal.put_row-a-requires
put_row-a-requires c =
    let s = c.args.rows.now in
    let b = c.loop-i in (
      (omega arith, omega arith),
      left_room _ _ _ b.out b.a _ b.invariant (edges_text (row_edges (get_or s b.i 0) b.i (b.i + 1) (length s - (b.i + 1)))) _
          (row_lines (length s) s b.i c.loop-i-test.true),
    )

pub loop-i-preserved : goal.loop-i-preserved
loop-i-preserved c =
    let s = c.args.rows.now in
    let b = c.loop-i in
    left_put _ _ _ b.out b.a _ b.invariant (edges_text (row_edges (get_or s b.i 0) b.i (b.i + 1) (length s - (b.i + 1))))
    (edges_text (edges_from (length s) (drop (b.i + 1) s) (b.i + 1))) (row_lines (length s) s b.i c.loop-i-test.true) _ _ c.put_row-a.ensures

pub returns : goal.returns
returns c =
    let s = c.args.rows.now in
    let b = c.loop-i in
    left_none _ _ _ b.out b.a _ b.invariant (ap edges_text (rows_end (length s) s b.i c.loop-i-test.false))
