-- The meaning of a line of a clash text (document 01, "Texts", with comments as document 02 has them, Ask 2).
--
--   shape_with c l : the word c, which comments begin with, and anything; "p edge N M"; "e U V"; or no permitted line
--   shape_of l     : the same, with "c" for c
--   shape_at t k   : the shape of line k of the lines t, counted from 1; there is no line 0
--   is_p s, is_e s : s is that of a p line, of an e line
--
-- Assumes nothing.
use Rattle.std.specs.Prelude.{ℕ, zero, suc, List, [], ◌∷◌, Bool, true, false, Option, None, Some, cond, drop}
use Rattle.lines.specs.Text.{Text, line_no_lem}
use Rattle.lines.specs.Words.{starts, pair_of}
use Rattle.lists.specs.declared.Shape.{Shape}
use Rattle.lists.specs.declared.Shape.TheVariants.{Comment, P, E}

-- the words that a line begins with: "c", of a comment, and with their spaces "p edge " and "e "
abbrev pub c_word : List ℕ
c_word = 99 ∷ []

abbrev pub p_word : List ℕ
p_word = 112 ∷ 32 ∷ 101 ∷ 100 ∷ 103 ∷ 101 ∷ 32 ∷ []

abbrev pub e_word : List ℕ
e_word = 101 ∷ 32 ∷ []

abbrev pub as_p : Option (ℕ × ℕ) → Option Shape
as_p (Some x) = Some (P x.0 x.1)
as_p None = None

abbrev pub as_e : Option (ℕ × ℕ) → Option Shape
as_e (Some x) = Some (E x.0 x.1)
as_e None = None

abbrev pub shape_with : List ℕ → List ℕ → Option Shape
shape_with c l =
    cond (starts c l) (Some Comment)
    (cond (starts p_word l) (as_p (pair_of (drop 7 l)))
    (cond (starts e_word l) (as_e (pair_of (drop 2 l)))
    None))

abbrev pub shape_of : List ℕ → Option Shape
shape_of l = shape_with c_word l

abbrev pub shape_at : Text → ℕ → Option Shape
shape_at t zero = None
shape_at t (suc i) = shape_of (line_no_lem t i)

abbrev pub is_p : Option Shape → Bool
is_p (Some (P n m)) = true
is_p (Some (E u v)) = false
is_p (Some Comment) = false
is_p None = false

abbrev pub is_e : Option Shape → Bool
is_e (Some (E u v)) = true
is_e (Some (P n m)) = false
is_e (Some Comment) = false
is_e None = false
