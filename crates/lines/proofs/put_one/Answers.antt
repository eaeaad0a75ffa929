-- `lines::put_one` meets its contract: three pieces, one after the other. Assumes nothing.
use mathlib.Core.List.{[], ◌∷◌}
use Rattle.lines.specs.Numeral.{numeral}
use Rattle.lines.proofs.Writing.{first_room, second_room, third_room, put_three}
use Rattle.lines.proofs.put_one.Goals as goal

pub put_word-a-requires : goal.put_word-a-requires
put_word-a-requires c = let a = c.args in first_room a.out.now a.at a.w.now (numeral a.u) (10 ∷ []) c.requires.1

pub put_number-b-requires : goal.put_number-b-requires
put_number-b-requires c =
    let a = c.args in (
      c.requires.0,
      second_room a.out.now a.at a.w.now (numeral a.u) (10 ∷ [])
          c.requires.1 _ _ c.put_word-a.ensures,
    )

pub put_word-requires : goal.put_word-requires
put_word-requires c =
    let a = c.args in
    third_room a.out.now a.at a.w.now (numeral a.u) (10 ∷ [])
    c.requires.1 _ _
    c.put_word-a.ensures _ _ c.put_number-b.ensures

pub returns : goal.returns
returns c =
    let a = c.args in
    put_three a.out.now a.at a.w.now (numeral a.u) (10 ∷ [])
    c.requires.1 _ _
    c.put_word-a.ensures _ _
    c.put_number-b.ensures _ _ c.put_word.ensures
