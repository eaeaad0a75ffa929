-- The text of a list, put piece by piece.
use Prim.Native.Nat.{ℕ, ◌+◌, ◌≤◌}
use mathlib.Core.Path.{◌≡◌, subst}
use mathlib.Core.List.{List, ◌++◌}
use native.Mathlib.Omega.{arith}
use lib.ListN.{length, length-append}
use Rattle.lines.specs.Numeral.{numeral, two_line, Put}
use Rattle.lines.proofs.Writing.{two_length, put_length, put_then}
use Rattle.lists.specs.Shape.{p_word}
use Rattle.lists.specs.Edges.{edges}
use Rattle.lists.specs.Write.{edges_text, text_of}

pub text_length : (rows : List ℕ) → length (text_of rows) ≡ length (numeral (length rows)) + length (numeral (length (edges rows))) + 9 + length (edges_text (edges rows))
text_length rows =
    let n = length rows in
    let m = length (edges rows) in
    omega (arith, length-append (two_line p_word n m) (edges_text (edges rows)), two_length p_word n m)

-- the p line, and then the e lines
module _ (rows o : List ℕ) (m : ℕ) (e : m ≡ length (edges rows)) (h : length (text_of rows) ≤ length o) where
  text_split : length (text_of rows) ≡ length (two_line p_word (length rows) m) + length (edges_text (edges rows))
  text_split = rw e (length-append (two_line p_word (length rows) (length (edges rows))) (edges_text (edges rows)))

  pub head_room : 0 + length (two_line p_word (length rows) m) ≤ length o
  head_room = omega (arith, text_split)

  module _ (o₁ : List ℕ) (a₁ : ℕ) (p : Put o 0 (two_line p_word (length rows) m) o₁ a₁) where
    pub rows_room : a₁ + length (edges_text (edges rows)) ≤ length o₁
    rows_room = omega (arith, text_split, p.0, put_length o 0 (two_line p_word (length rows) m) o₁ a₁ head_room p)

    pub list_put : (o₂ : List ℕ) (a₂ : ℕ) → Put o₁ a₁ (edges_text (edges rows)) o₂ a₂ → Put o 0 (text_of rows) o₂ a₂
    list_put o₂ a₂ q =
        subst (λ (x : ℕ). Put o 0 (two_line p_word (length rows) x ++ edges_text (edges rows)) o₂ a₂) e
        (put_then o 0 (two_line p_word (length rows) m) o₁ a₁ (edges_text (edges rows)) o₂ a₂ (omega (arith, text_split)) p q)
