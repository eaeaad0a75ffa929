-- `mycielski::reached` meets its contract. The loop's invariant: r has the vertices that are adjacent to some that is done. The measure: what is
-- left. Assumes nothing.
use mathlib.Core.Path.{sym, subst}
use Rattle.sets.specs.Set.{IsJoin}
use Rattle.graphs.proofs.LoopLaws.{left_falls}
use Rattle.graphs.specs.Held.{holding}
use Rattle.mycielski.proofs.SetLoops.{Reached, reached_start, reached_again, reached_end}
use Rattle.mycielski.proofs.reached.Goals as goal

pub loop-left-init : goal.loop-left-init
loop-left-init g c =
    let b = g.S.Bits in
    let s = b.as_num c.args.s in
    λ live m k i.
    let h = holding live (b.as_rows c.args.rows.now) m in
    subst (λ r. Reached h k s r s) (sym c.none-r.ensures) (reached_start h k s)

pub loop-left-smaller : goal.loop-left-smaller
loop-left-smaller g c = let low = c.lowest-x in left_falls _ _ _ low.ensures (c.rest-left.ensures low.result low.ensures)

pub loop-left-preserved : goal.loop-left-preserved
loop-left-preserved g c =
    let b = g.S.Bits in
    let l = c.loop-left in
    let low = c.lowest-x in
    let r = subst (λ x. IsJoin (b.as_num l.r) x (b.as_num c.join-r.result)) c.row.ensures c.join-r.ensures in
    λ live m k i.
    reached_again (holding live (b.as_rows c.args.rows.now) m) k (b.as_num c.args.s) (b.as_num l.r) (b.as_num l.left) low.result
    (b.as_num c.join-r.result) (b.as_num c.rest-left.result) i (l.invariant live m k i) low.ensures r (c.rest-left.ensures low.result low.ensures)

pub returns : goal.returns
returns g c =
    let b = g.S.Bits in
    let s = b.as_num c.args.s in
    let l = c.loop-left in
    λ live i m k.
    let h = holding live (b.as_rows c.args.rows.now) m in
    reached_end h k s (b.as_num l.r) (subst (λ r. Reached h k s (b.as_num l.r) r) (c.is_empty.ensures.0 c.loop-left-test.false) (l.invariant live m k i))
