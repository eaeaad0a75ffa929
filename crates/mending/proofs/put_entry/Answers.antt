-- `mending::put_entry` meets its contract: three pieces, the last of them a line of one number. Assumes nothing.
use native.Mathlib.Omega.{arith}
use Prim.Native.Nat.{◌+◌}
use Rattle.lines.specs.Numeral.{numeral, one_line}
use Rattle.lines.proofs.Writing.{first_room, second_room, third_room, put_three}
use Rattle.mends.specs.Report.{put_word, group_word}
use Rattle.mending.proofs.put_entry.Goals as goal

pub put_word-a-requires : goal.put_word-a-requires
put_word-a-requires c = first_room c.args.out.now c.args.at put_word (numeral (c.args.e + 1)) (one_line group_word (c.args.g + 1)) c.requires.2

pub put_number-b-requires : goal.put_number-b-requires
put_number-b-requires c = (
  omega (arith, c.requires.0),
  second_room c.args.out.now c.args.at put_word (numeral (c.args.e + 1)) (one_line group_word (c.args.g + 1)) c.requires.2 _ _ c.put_word-a.ensures,
)

pub put_one-requires : goal.put_one-requires
put_one-requires c = (
  omega (arith, c.requires.1),
  third_room c.args.out.now c.args.at put_word (numeral (c.args.e + 1)) (one_line group_word (c.args.g + 1)) c.requires.2 _ _
      c.put_word-a.ensures _ _ c.put_number-b.ensures,
)

pub returns : goal.returns
returns c =
    put_three c.args.out.now c.args.at put_word (numeral (c.args.e + 1)) (one_line group_word (c.args.g + 1)) c.requires.2 _ _
    c.put_word-a.ensures _ _ c.put_number-b.ensures _ _ c.put_one.ensures
