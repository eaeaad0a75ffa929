-- `counts::counted` meets its contract: what is counted, and the rows that are left, give what all rows give. Assumes nothing.
use mathlib.Core.Path.{ap}
use Prim.Native.Nat.{ℕ}
use native.Mathlib.Omega.{arith}
use Rattle.counts.specs.Counts.{held}
use Rattle.counts.proofs.CountLaws.{held_none, held_few}
use Rattle.counts.proofs.counted.Goals as goal

pub absorb-c-requires : goal.absorb-c-requires
absorb-c-requires c v =
    let a = c.args in
    omega (
      arith,
      c.loop-left.invariant v,
      c.pull-p.ensures.rest v,
      c.pull-q.ensures.rest v,
      c.pull-r.ensures.rest v,
      c.pull-s.ensures.rest v,
      held_few a.rows.now a.near v,
    )

pub returns : goal.returns
returns c v =
    let rows = c.args.rows.now in
    omega (arith, c.loop-left.invariant v, held_none rows v, ap (λ (s : ℕ). held rows s v) c.loop-left-test.false)
