-- `mycielski::whole` meets its contract. The loop's invariant: the edges of what is done are laid. The measure: what is left. Assumes nothing.
use mathlib.Core.Path.{sym, ap, ◌∙◌, subst}
use Prim.Native.Nat.{zero}
use lib.ListN.{length, length-replicate}
use Rattle.graphs.proofs.LoopLaws.{left_falls}
use Rattle.mycielski.proofs.EdgeLoops.{Joining, joining_start, joining_again, joining_end}
use Rattle.mycielski.proofs.whole.Goals as goal

pub loop-c-init : goal.loop-c-init
loop-c-init g c =
    let b = g.S.Bits in
    let zeros = ap b.as_rows c.requires ∙ g.met.S.Bits.rows_zero in (
      ap length c.requires ∙ length-replicate b.lent zero,
      subst (λ r. Joining b.cap (b.as_num c.args.c) r (b.as_num c.args.c)) (sym zeros) (joining_start b.cap (b.as_num c.args.c)),
    )

pub loop-c-smaller : goal.loop-c-smaller
loop-c-smaller g c = let low = c.lowest-v in left_falls _ _ _ low.ensures (c.rest-left.ensures low.result low.ensures)

pub loop-c-preserved : goal.loop-c-preserved
loop-c-preserved g c =
    let b = g.S.Bits in
    let l = c.loop-c in
    let low = c.lowest-v in
    let rest = c.rest-left in (
      c.put.ensures.0,
      subst (λ r. Joining b.cap (b.as_num c.args.c) r (b.as_num rest.result)) (sym c.put.ensures.1)
          (joining_again (b.as_num c.args.c) (b.as_rows l.near) (b.as_num l.left) low.result (b.as_num c.without.result) (b.as_num rest.result)
          l.invariant.1 low.ensures c.without.ensures (rest.ensures low.result low.ensures)),
    )

pub returns : goal.returns
returns g c =
    let b = g.S.Bits in
    let l = c.loop-c in
    let done = subst (λ r. Joining b.cap (b.as_num c.args.c) (b.as_rows l.near) r) (c.is_empty.ensures.0 c.loop-c-test.false) l.invariant.1 in
    record { near_len = l.invariant.0; near_after = joining_end (b.as_num c.args.c) (b.as_rows l.near) done }
