-- `mycielski::tie` meets its contract. The loop's invariant: the edges to what is done are laid. The measure: what is left. Assumes nothing.
use Rattle.graphs.proofs.LoopLaws.{left_falls}
use Rattle.mycielski.proofs.EdgeLoops.{tying_start_by, tying_again_by, tying_end_by}
use Rattle.mycielski.proofs.tie.Goals as goal

pub loop-left-init : goal.loop-left-init
loop-left-init g c =
    let b = g.S.Bits in
    let near = c.args.near.now in
    (c.put.ensures.0, tying_start_by (b.as_rows near) (b.as_num c.join.result) (g.met.S.Bits.rows_long near c.requires.near_len) c.put.ensures.1)

pub loop-left-smaller : goal.loop-left-smaller
loop-left-smaller g c = let low = c.lowest-y in left_falls _ _ _ low.ensures (c.rest-left.ensures low.result low.ensures)

pub loop-left-preserved : goal.loop-left-preserved
loop-left-preserved g c =
    let b = g.S.Bits in
    let low = c.lowest-y in
    let line = c.row-in-loop-left in
    let put = c.put-in-loop-left in (
      put.ensures.0,
      tying_again_by (b.as_num line.result) (b.as_num c.with.result) c.loop-left.invariant.1 low.ensures line.ensures c.with.ensures
          (c.rest-left.ensures low.result low.ensures) put.ensures.1,
    )

pub returns : goal.returns
returns g c =
    let b = g.S.Bits in
    let l = c.loop-left in
    let near = c.args.near.now in record {
      near_len_2 = l.invariant.0;
      ties = tying_end_by (b.as_rows near) (b.as_num c.row.result) (b.as_num c.join.result) (g.met.S.Bits.rows_long near c.requires.near_len)
          c.requires.u_bound c.row.ensures c.join.ensures l.invariant.1 c.put.ensures.1 (c.is_empty.ensures.0 c.loop-left-test.false);
    }
