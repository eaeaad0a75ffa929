-- `lines::put_two` meets its contract: three pieces, the last of them a line of one number. Assumes nothing.
use mathlib.Core.List.{[], ◌∷◌}
use Rattle.lines.specs.Numeral.{numeral, one_line}
use Rattle.lines.proofs.Writing.{first_room, second_room, third_room, put_three}
use Rattle.lines.proofs.put_two.Goals as goal

pub put_word-a-requires : goal.put_word-a-requires
put_word-a-requires c = let a = c.args in first_room a.out.now a.at a.w.now (numeral a.u) (one_line (32 ∷ []) a.v) c.requires.1

pub put_number-b-requires : goal.put_number-b-requires
put_number-b-requires c =
    let a = c.args in (
      c.requires.0.0,
      second_room a.out.now a.at a.w.now (numeral a.u) (one_line (32 ∷ []) a.v)
          c.requires.1 _ _ c.put_word-a.ensures,
    )

pub put_one-requires : goal.put_one-requires
put_one-requires c =
    let a = c.args in (
      c.requires.0.1,
      third_room a.out.now a.at a.w.now
          (numeral a.u) (one_line (32 ∷ []) a.v) c.requires.1 _ _
          c.put_word-a.ensures _ _ c.put_number-b.ensures,
    )

pub returns : goal.returns
returns c =
    let a = c.args in
    put_three a.out.now a.at a.w.now (numeral a.u) (one_line (32 ∷ []) a.v)
    c.requires.1 _ _
    c.put_word-a.ensures _ _
    c.put_number-b.ensures _ _ c.put_one.ensures
