-- `mycielski::serving` meets its contract. The loop's invariant: s has the vertices that are adjacent to all that is done. The measure: what is left.
-- Assumes nothing.
use mathlib.Core.Path.{subst}
use Rattle.sets.specs.Set.{IsMeet}
use Rattle.graphs.proofs.LoopLaws.{left_falls}
use Rattle.graphs.specs.Held.{holding}
use Rattle.mycielski.proofs.SetLoops.{Serving, serving_start, serving_again, serving_end}
use Rattle.mycielski.proofs.serving.Goals as goal

pub loop-left-init : goal.loop-left-init
loop-left-init g c =
    let b = g.S.Bits in
    let a = c.args in
    λ m k i. serving_start (holding (b.as_num a.live) (b.as_rows a.rows.now) m) k (b.as_num a.near)

pub loop-left-smaller : goal.loop-left-smaller
loop-left-smaller g c = let low = c.lowest-y in left_falls _ _ _ low.ensures (c.rest-left.ensures low.result low.ensures)

pub loop-left-preserved : goal.loop-left-preserved
loop-left-preserved g c =
    let b = g.S.Bits in
    let a = c.args in
    let l = c.loop-left in
    let low = c.lowest-y in
    let s = subst (λ x. IsMeet (b.as_num l.s) x (b.as_num c.meet-s.result)) c.row.ensures c.meet-s.ensures in
    λ m k i.
    serving_again (holding (b.as_num a.live) (b.as_rows a.rows.now) m) k (b.as_num a.near) (b.as_num l.s) (b.as_num l.left) low.result
    (b.as_num c.meet-s.result) (b.as_num c.rest-left.result) i (l.invariant m k i) low.ensures s (c.rest-left.ensures low.result low.ensures)

pub returns : goal.returns
returns g c =
    let b = g.S.Bits in
    let a = c.args in
    let l = c.loop-left in
    λ m k.
    let h = holding (b.as_num a.live) (b.as_rows a.rows.now) m in
    serving_end h k (b.as_num a.near) (b.as_num l.s)
    (subst (λ r. Serving h k (b.as_num a.near) (b.as_num l.s) r) (c.is_empty.ensures.0 c.loop-left-test.false) (l.invariant m k c.requires.within))
