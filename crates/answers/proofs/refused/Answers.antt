-- `answers::refused` meets its contract: three pieces, of which the whole fits. Assumes nothing.
use Prim.Native.Nat.{ℕ, ◌+◌, ◌≤◌}
use mathlib.Core.Path.{◌≡◌, refl, subst}
use mathlib.Core.List.{List}
use native.Mathlib.Omega.{arith}
use lib.ListN.{length, replicate, length-append}
use Rattle.lines.specs.Numeral.{numeral}
use Rattle.lines.proofs.Back.{numeral_length}
use Rattle.lines.proofs.Writing.{second_room, third_room, put_three}
use Rattle.sheet_texts.proofs.Writes.{composed}
use Rattle.answers.specs.Printed.{refused_word, place_text, refused_text, IsText}
use Rattle.answers.proofs.Laws.{number_small, place_length}
use Rattle.answers.proofs.refused.Goals as goal

-- the whole has at most 768 bytes, of which none is written yet
room : (r l c : ℕ) (o : List ℕ) → length o ≡ 768 → 0 + length (refused_text r l c) ≤ length o
room r l c o z = omega (arith, length-append (numeral r) (place_text l c), (numeral_length r).1, place_length l c)

pub put_number-b-requires : goal.put_number-b-requires
put_number-b-requires c =
    let r = c.number.result in (
      omega (arith, c.number.ensures, number_small c.args.why),
      second_room (replicate 768 0) 0 refused_word (numeral r) (place_text c.args.l c.args.c)
          (room r c.args.l c.args.c (replicate 768 0) refl) _ _ c.put_word-a.ensures,
    )

pub put_place-length-requires : goal.put_place-length-requires
put_place-length-requires c =
    let r = c.number.result in (
      (c.requires.0, c.requires.1),
      third_room (replicate 768 0) 0 refused_word (numeral r) (place_text c.args.l c.args.c)
          (room r c.args.l c.args.c (replicate 768 0) refl) _ _ c.put_word-a.ensures _ _ c.put_number-b.ensures,
    )

pub returns : goal.returns
returns c =
    let r = c.number.result in
    let m = room r c.args.l c.args.c (replicate 768 0) refl in
    let p = put_three (replicate 768 0) 0 refused_word (numeral r) (place_text c.args.l c.args.c) m _ _ c.put_word-a.ensures _ _ c.put_number-b.ensures _ _
    c.put_place-length.ensures in
    subst (λ (n : ℕ). IsText (refused_text n c.args.l c.args.c) (record { bytes = c.put_place-length.new.out; length = c.put_place-length.result }))
    c.number.ensures
    (record { fits = omega (arith, p.0, m); long = omega (arith, p.0); is = composed _ (refused_text r c.args.l c.args.c) _ _ p })
