-- `mending::put_puts` meets its contract: the lines that are left, put from here, are all of them put at the start (`Left`). Assumes nothing.
use mathlib.Core.Path.{ap}
use native.Mathlib.Omega.{arith}
use lib.ListN.{length}
use Rattle.lines.proofs.Writing.{left_put, left_none}
use Rattle.mends.specs.Report.{entry_line, put_text}
use Rattle.mending.proofs.Placing.{rest_size, rest_within, none_left}
use Rattle.mending.proofs.Reports.{puts_more, puts_room}
use Rattle.mending.proofs.put_puts.Goals as goal

pub put_entry-a-requires : goal.put_entry-a-requires
put_entry-a-requires c =
    let b = c.loop-left in
    let w = c.lowest-e.ensures in
    let e = c.lowest-e.result in (
      w.below,
      omega (arith, c.from.ensures, c.type_inv.colours e),
      puts_room c.args.colours.now b.left e c.from.result w c.from.ensures c.args.out.now c.args.at _ b.out b.a b.invariant.1,
    )

pub loop-left-smaller : goal.loop-left-smaller
loop-left-smaller c = omega (arith, rest_size 0 c.loop-left.left _ c.lowest-e.ensures _ (c.rest-left.ensures _ c.lowest-e.ensures))

pub loop-left-preserved : goal.loop-left-preserved
loop-left-preserved c =
    let b = c.loop-left in
    let w = c.lowest-e.ensures in
    let e = c.lowest-e.result in
    let o = c.rest-left.ensures _ w in
    let g = c.from in (
      rest_within (length c.args.colours.now) b.left e w c.rest-left.result o b.invariant.0,
      left_put c.args.out.now c.args.at _ b.out b.a _ b.invariant.1 (entry_line e g.result) _
          (puts_more c.args.colours.now b.left e c.rest-left.result g.result w o g.ensures) _ _ c.put_entry-a.ensures,
    )

pub returns : goal.returns
returns c =
    let b = c.loop-left in
    left_none c.args.out.now c.args.at _ b.out b.a _ b.invariant.1 (ap (put_text c.args.colours.now) (none_left b.left c.loop-left-test.false))
