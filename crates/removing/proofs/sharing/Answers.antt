-- `removing::sharing` meets its contract: others has who of `among` clashes with each of near that is not left. Assumes nothing.
use Rattle.graphs.proofs.LoopLaws.{left_falls}
use Rattle.removing.proofs.ShareLaws.{shared_none, shared_next, shared_all, shared_nobody}
use Rattle.removing.proofs.sharing.Goals as goal

pub loop-left-init : goal.loop-left-init
loop-left-init c = let a = c.args in shared_none a.rows.now a.near a.among

pub returns-then-others-eq0 : goal.returns-then-others-eq0
returns-then-others-eq0 c =
    let a = c.args in
    let l = c.loop-left in
    shared_nobody a.rows.now a.near a.among l.others l.left l.invariant c.if-others-eq0.true

-- one of near is an entry
pub bounds-rows-w : goal.bounds-rows-w
bounds-rows-w c =
    let low = c.lowest-w in
    let l = c.loop-left in
    c.requires low.result (l.invariant.within low.result low.ensures.member)

pub loop-left-smaller : goal.loop-left-smaller
loop-left-smaller c =
    let l = c.loop-left in
    let low = c.lowest-w in
    let r = c.rest-left in
    left_falls l.left low.result r.result low.ensures (r.ensures low.result low.ensures)

pub loop-left-preserved : goal.loop-left-preserved
loop-left-preserved c =
    let a = c.args in
    let l = c.loop-left in
    let low = c.lowest-w in
    let r = c.rest-left in
    shared_next a.rows.now a.near a.among l.others l.left low.result c.meet-others.result r.result l.invariant low.ensures
    (r.ensures low.result low.ensures) c.meet-others.ensures

pub returns : goal.returns
returns c =
    let a = c.args in
    let l = c.loop-left in
    shared_all a.rows.now a.near a.among l.others l.left l.invariant c.loop-left-test.false
