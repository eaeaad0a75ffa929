-- `counts::at_least` meets its contract: what is taken from the count, digit by digit, is the whole. Assumes nothing.
use native.Mathlib.Omega.{arith}
use Rattle.sets.specs.Lists.{bit}
use Rattle.sets.proofs.SetLaws.{has_none}
use mathlib.Core.Path.{ap}
use Rattle.counts.proofs.LeastLaws.{least_is}
use Rattle.counts.proofs.at_least.Goals as goal

pub returns : goal.returns
returns c =
    let borrowed = c.borrowed-b in
    let borrowed2 = c.borrowed-b-2 in
    let borrowed3 = c.borrowed-b-3 in
    let borrowed4 = c.borrowed-b-4 in
    let borrowed5 = c.borrowed-b-5 in
    let borrowed6 = c.borrowed-b-6 in
    let borrowed7 = c.borrowed-b-7 in
    least_is c.args.c c.args.need c.args.among borrowed7.result c.less.result c.ranges.among.fits (λ v k.
    let z = ap bit (has_none v) in (
      omega (
        arith,
        z,
        (borrowed.ensures v k).0,
        (borrowed2.ensures v k).0,
        (borrowed3.ensures v k).0,
        (borrowed4.ensures v k).0,
        (borrowed5.ensures v k).0,
        (borrowed6.ensures v k).0,
        (borrowed7.ensures v k).0,
      ),
      omega (
        arith,
        z,
        (borrowed.ensures v k).1,
        (borrowed2.ensures v k).1,
        (borrowed3.ensures v k).1,
        (borrowed4.ensures v k).1,
        (borrowed5.ensures v k).1,
        (borrowed6.ensures v k).1,
        (borrowed7.ensures v k).1,
      ),
    )) c.less.ensures
