-- `mending::put_output` meets its contract: three pieces. Assumes nothing.
use native.Mathlib.Omega.{arith}
use Rattle.sets.specs.Lists.{members}
use Rattle.sets.specs.Set.{has}
use Rattle.lines.proofs.Writing.{first_room, second_room, third_room, put_three}
use Rattle.mends.specs.Report.{dropped_text, put_text}
use Rattle.mending.specs.Held.{dropped_of}
use Rattle.mending.proofs.put_output.Goals as goal

pub put_dropped-a-requires : goal.put_dropped-a-requires
put_dropped-a-requires c = (
  c.requires.0,
  c.requires.1,
  omega (
    arith,
    first_room c.args.out.now 0 (dropped_text (dropped_of c.args.n c.args.sheet.now))
        (put_text c.args.colours.now (members (has c.args.again) 64)) c.args.text.now c.requires.4,
  ),
)

pub put_puts-b-requires : goal.put_puts-b-requires
put_puts-b-requires c = (
  c.requires.2,
  c.requires.3,
  second_room c.args.out.now 0 (dropped_text (dropped_of c.args.n c.args.sheet.now))
      (put_text c.args.colours.now (members (has c.args.again) 64)) c.args.text.now c.requires.4 _ _ c.put_dropped-a.ensures,
)

pub put_word-requires : goal.put_word-requires
put_word-requires c =
    third_room c.args.out.now 0 (dropped_text (dropped_of c.args.n c.args.sheet.now))
    (put_text c.args.colours.now (members (has c.args.again) 64)) c.args.text.now c.requires.4 _ _ c.put_dropped-a.ensures _ _
    c.put_puts-b.ensures

pub returns : goal.returns
returns c =
    put_three c.args.out.now 0 (dropped_text (dropped_of c.args.n c.args.sheet.now))
    (put_text c.args.colours.now (members (has c.args.again) 64)) c.args.text.now c.requires.4 _ _ c.put_dropped-a.ensures _ _
    c.put_puts-b.ensures _ _ c.put_word.ensures
