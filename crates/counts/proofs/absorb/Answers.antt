-- `counts::absorb` meets its contract: at each number the digits of every slice add up, and nothing is carried out of the last. Assumes nothing.
use native.Mathlib.Omega.{arith}
use Rattle.counts.proofs.absorb.Goals as goal

pub returns : goal.returns
returns c v =
    omega (
      arith,
      c.requires v,
      c.add-x.ensures v,
      c.add-y.ensures v,
      c.add-z.ensures v,
      c.half-d2.ensures v,
      c.half-d3.ensures v,
      c.half-d4.ensures v,
      c.half-d5.ensures v,
      c.half-d6.ensures v,
    )
