-- `mycielski::lacking` meets its contract. The loop's invariant: who lacks one, and two, of what is done. The measure: what is left. Assumes nothing.
use mathlib.Core.Path.{sym, subst}
use Rattle.sets.specs.Set.{IsLess}
use Rattle.graphs.proofs.LoopLaws.{left_falls}
use Rattle.mycielski.proofs.FirstLoops.{Lacking, lacking_start, lacking_again, lacking_end}
use Rattle.mycielski.proofs.lacking.Goals as goal

pub loop-live-init : goal.loop-live-init
loop-live-init g c =
    let b = g.S.Bits in
    let a = c.args in
    let live = b.as_num a.live in
    let rows = b.as_rows a.rows.now in
    subst (λ x. Lacking b.cap live rows (b.as_num a.c) (b.as_num c.none-once.result) x (b.as_num a.c)) (sym c.none-twice.ensures)
    (subst (λ x. Lacking b.cap live rows (b.as_num a.c) x 0 (b.as_num a.c)) (sym c.none-once.ensures) (lacking_start b.cap live rows (b.as_num a.c)))

pub loop-live-smaller : goal.loop-live-smaller
loop-live-smaller g c = let low = c.lowest-v in left_falls _ _ _ low.ensures (c.rest-left.ensures low.result low.ensures)

pub loop-live-preserved : goal.loop-live-preserved
loop-live-preserved g c =
    let b = g.S.Bits in
    let a = c.args in
    let l = c.loop-live in
    let low = c.lowest-v in
    let away = c.less-away in
    let without = subst (λ x. IsLess (b.as_num a.live) x (b.as_num away.result)) c.row.ensures away.ensures in
    lacking_again b.cap (b.as_num a.live) (b.as_rows a.rows.now) (b.as_num a.c) (b.as_num l.once) (b.as_num l.twice) (b.as_num l.left) low.result
    (b.as_num away.result) (b.as_num c.meet.result) (b.as_num c.join-twice.result) (b.as_num c.join-once.result) (b.as_num c.rest-left.result)
    l.invariant low.ensures without c.meet.ensures c.join-twice.ensures c.join-once.ensures (c.rest-left.ensures low.result low.ensures)

pub returns : goal.returns
returns g c =
    let b = g.S.Bits in
    let a = c.args in
    let l = c.loop-live in
    lacking_end b.cap (b.as_num a.live) (b.as_rows a.rows.now) (b.as_num a.c) (b.as_num l.once) (b.as_num l.twice)
    (subst (λ x. Lacking b.cap (b.as_num a.live) (b.as_rows a.rows.now) (b.as_num a.c) (b.as_num l.once) (b.as_num l.twice) x)
    (c.is_empty.ensures.0 c.loop-live-test.false) l.invariant)
