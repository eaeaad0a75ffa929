-- `answers::put_place` meets its contract: a line of one number, or three pieces, the last of them such a line. Assumes nothing.
use Prim.Native.Nat.{ℕ, ◌+◌, ◌≤◌}
use mathlib.Core.Path.{◌≡◌, sym, subst}
use mathlib.Core.List.{List}
use lib.ListN.{length}
use Rattle.lines.specs.Numeral.{numeral, one_line, Put}
use Rattle.lines.proofs.Writing.{first_room, second_room, third_room, put_three}
use Rattle.answers.specs.Printed.{line_word, column_word, line_text, spot_text, place_text}
use Rattle.answers.proofs.Laws.{place_none, place_some}
use Rattle.answers.proofs.put_place.Goals as goal

-- there is room for what is put, whichever it is
room : (o x y : List ℕ) (at : ℕ) → x ≡ y → at + length x ≤ length o → at + length y ≤ length o
room o x y at e h = subst (λ (z : List ℕ). at + length z ≤ length o) e h

put_same : (o : List ℕ) (at : ℕ) (x y q : List ℕ) (m : ℕ) → x ≡ y → Put o at y q m → Put o at x q m
put_same o at x y q m e h = subst (λ (z : List ℕ). Put o at z q m) (sym e) h

pub put_one-requires : goal.put_one-requires
put_one-requires c =
    let a = c.args in
    let p = c.requires in (
      p.0.0,
      room a.out.now (place_text a.l a.c) (line_text a.l) a.at (place_none a.l a.c c.if-c-eq0.true)
          p.1,
    )

pub returns-then-c-eq0 : goal.returns-then-c-eq0
returns-then-c-eq0 c =
    let a = c.args in
    put_same a.out.now a.at (place_text a.l a.c) (line_text a.l) _ _
    (place_none a.l a.c c.if-c-eq0.true) c.put_one.ensures

pub put_word-a-requires : goal.put_word-a-requires
put_word-a-requires c =
    let a = c.args in
    let p = c.requires in
    first_room a.out.now a.at line_word (numeral a.l) (one_line column_word a.c)
    (room a.out.now (place_text a.l a.c) (spot_text a.l a.c) a.at (place_some a.l a.c c.if-c-eq0.false) p.1)

pub put_number-b-requires : goal.put_number-b-requires
put_number-b-requires c =
    let a = c.args in
    let p = c.requires in (
      p.0.0,
      second_room a.out.now a.at line_word (numeral a.l) (one_line column_word a.c)
          (room a.out.now (place_text a.l a.c) (spot_text a.l a.c) a.at
          (place_some a.l a.c c.if-c-eq0.false) p.1) _ _
          c.put_word-a.ensures,
    )

pub put_one-requires-2 : goal.put_one-requires-2
put_one-requires-2 c =
    let a = c.args in
    let p = c.requires in (
      p.0.1,
      third_room a.out.now a.at line_word (numeral a.l) (one_line column_word a.c)
          (room a.out.now (place_text a.l a.c) (spot_text a.l a.c) a.at
          (place_some a.l a.c c.if-c-eq0.false) p.1) _
          _ c.put_word-a.ensures _ _
          c.put_number-b.ensures,
    )

pub returns : goal.returns
returns c =
    let a = c.args in
    let p = c.requires in
    let e = place_some a.l a.c c.if-c-eq0.false in
    put_same a.out.now a.at (place_text a.l a.c) (spot_text a.l a.c) _ _ e
    (put_three a.out.now a.at line_word (numeral a.l) (one_line column_word a.c)
    (room a.out.now (place_text a.l a.c) (spot_text a.l a.c) a.at e p.1) _ _
    c.put_word-a.ensures _ _
    c.put_number-b.ensures _ _ c.put_one-2.ensures)
