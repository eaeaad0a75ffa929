-- `bounds::reaches_wide` meets its contract, by the laws of `reaches`. Assumes nothing.
use native.Mathlib.Omega.{arith}
use Rattle.wide.specs.Words.{num, rows_of}
use Rattle.graphs.specs.Held.{holding}
use Rattle.bounds.proofs.NodeLaws.{few_reach, climbs_reach}
use Rattle.bounds.proofs.reaches_wide.Goals as goal

pub returns-then-size-best : goal.returns-then-size-best
returns-then-size-best c =
    let a = c.args in
    let if1 = c.if-size-best in
    let sized = c.size in
    λ m k. few_reach (holding (num a.live) (rows_of 4 256 a.rows.now) m) k a.best (omega (arith, if1.true, sized.ensures))

pub returns : goal.returns
returns c =
    let a = c.args in
    let boundamong = c.bound_among in
    λ m k. climbs_reach (holding (num a.live) (rows_of 4 256 a.rows.now) m) k a.best boundamong.result (boundamong.ensures m k)
