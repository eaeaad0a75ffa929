-- `mending::puts_len` meets its contract: the bytes so far, and those of the lines that are left, are those of all lines. Assumes nothing.
use mathlib.Core.Path.{ap}
use mathlib.Core.List.{List}
use native.Mathlib.Omega.{arith}
use lib.ListN.{length, length-append}
use Rattle.sets.specs.Lists.{members}
use Rattle.sets.specs.Set.{has}
use Rattle.sets.proofs.MemberLaws.{count_few}
use Rattle.mends.specs.Report.{entry_line, put_text}
use Rattle.mending.proofs.Placing.{rest_size, rest_within, none_left}
use Rattle.mending.proofs.Reports.{entry_length, puts_more}
use Rattle.mending.proofs.puts_len.Goals as goal

pub loop-left-init : goal.loop-left-init
loop-left-init c = (c.requires.0, omega arith, omega (arith, count_few (has c.args.again) 64))

pub bounds-colours-e : goal.bounds-colours-e
bounds-colours-e c = let b = c.loop-left in b.invariant.0 _ c.lowest-e.ensures.member

pub loop-left-smaller : goal.loop-left-smaller
loop-left-smaller c = omega (arith, rest_size 0 c.loop-left.left _ c.lowest-e.ensures _ (c.rest-left.ensures _ c.lowest-e.ensures))

pub loop-left-preserved : goal.loop-left-preserved
loop-left-preserved c =
    let b = c.loop-left in
    let w = c.lowest-e.ensures in
    let e = c.lowest-e.result in
    let o = c.rest-left.ensures _ w in
    let g = c.from in
    let m = puts_more c.args.colours.now b.left e c.rest-left.result g.result w o g.ensures in
    let x = c.number_len.ensures in
    let y = c.number_len-in-loop-left.ensures in
    let z = rest_size 0 b.left e w c.rest-left.result o in (
      rest_within (length c.args.colours.now) b.left e w c.rest-left.result o b.invariant.0,
      omega (
        arith,
        b.invariant.1,
        ap length m,
        length-append (entry_line e g.result) (put_text c.args.colours.now (members (has c.rest-left.result) 64)),
        entry_length e g.result,
        x.0,
        y.0,
      ),
      omega (arith, b.invariant.2, x.1, y.1, z),
    )

pub returns : goal.returns
returns c =
    let b = c.loop-left in
    let z = ap (λ (es : List _). length (put_text c.args.colours.now es)) (none_left b.left c.loop-left-test.false) in
    (omega (arith, b.invariant.1, z), omega (arith, b.invariant.2))
