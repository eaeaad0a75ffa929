-- What a line is made of: a word at its front, then one number or two.
--
--   starts w s : s begins with the word w
--   alone_of s : the number that s is, if it is one and nothing else
--   pair_of s  : the two numbers that s is, if it is two with one space between, and nothing else
--
-- Assumes nothing.
use Rattle.std.specs.Prelude.{ℕ, ◌+◌, List, [], ◌∷◌, Bool, true, false, Option, None, Some, cond, length, drop, get_or, eqb}
use Rattle.lines.specs.Number.{number_of}

abbrev pub starts : List ℕ → List ℕ → Bool
starts [] s = true
starts (w ∷ ws) [] = false
starts (w ∷ ws) (b ∷ s) = cond (eqb w b) (starts ws s) false

-- the number at the front is all there is
abbrev pub whole : List ℕ → Option (ℕ × ℕ) → Option ℕ
whole s None = None
whole s (Some n) = cond (eqb n.1 (length s)) (Some n.0) None

abbrev pub alone_of : List ℕ → Option ℕ
alone_of s = whole s (number_of s)

abbrev pub besides : ℕ → Option ℕ → Option (ℕ × ℕ)
besides u (Some v) = Some (u, v)
besides u None = None

-- after the number at the front: a space, and the second number
abbrev pub second : List ℕ → Option (ℕ × ℕ) → Option (ℕ × ℕ)
second s None = None
second s (Some n) = cond (eqb (get_or s n.1 0) 32) (besides n.0 (alone_of (drop (n.1 + 1) s))) None

abbrev pub pair_of : List ℕ → Option (ℕ × ℕ)
pair_of s = second s (number_of s)
