-- `bounds::reaches` meets its contract. Assumes nothing.
use native.Mathlib.Omega.{arith}
use Rattle.graphs.specs.Held.{holding}
use Rattle.bounds.proofs.NodeLaws.{few_reach, climbs_reach}
use Rattle.bounds.proofs.reaches.Goals as goal

pub returns-then-size-best : goal.returns-then-size-best
returns-then-size-best c =
    let a = c.args in
    λ m held. few_reach (holding a.live a.rows.now m) held a.best (omega (arith, c.if-size-best.true, c.size.ensures))

pub returns : goal.returns
returns c =
    let a = c.args in
    λ m held. climbs_reach (holding a.live a.rows.now m) held a.best c.bound_among.result (c.bound_among.ensures m held)
