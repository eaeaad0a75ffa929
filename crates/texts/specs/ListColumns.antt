-- Where a line of a clash text went bad, in document 02's words (Ask 1), over the permitted lines (lists' specs/Expect.antt): `Astray permitted l c` is that
-- the bytes of l before column c begin a permitted line and with the byte at c they do not, or the line stops there; `Due permitted x g` that behind the
-- bytes x a permitted line expects g.
--
--   line_at t k     : line k of the lines t, counted from 1
--   word_due g d   : a letter of a word is expected
--   digit_due g d  : a digit is expected, and d, whether one stands there, is against it: a number must start and none stands, or no digit more may come
--                    and one stands
--   gap_due g d    : a space or the line's end could have followed a word or a number, and something else stands there, or the line stops
--   Went t k q     : line k is of no permitted shape, and where it went bad what is expected, and what stands, pass q
--   shape_faults   : the numbers that have a column
--   ColumnOf t f k c : c is the column told with the number f and the line k
--
-- Assumes nothing.
use Rattle.std.specs.Prelude.{ℕ, zero, suc, ◌-◌, ◌≡◌, List, [], ◌∷◌, Bool, true, false, None, cond, T, eqb, take, drop}
use Rattle.sets.specs.Lists.{some?}
use Rattle.refusals.specs.Table.{number_of, If}
use Rattle.refusals.specs.declared.Refusal.TheVariants.{Line, Digit, Space, Unended}
use Rattle.lines.specs.Text.{Text, line_no_lem}
use Rattle.lists.specs.Expect.{letter, space, number, more, anything, Pieces, Due, Astray, digit_at, permitted}
use Rattle.texts.specs.Listed.{At}

abbrev pub line_at : Text → ℕ → List ℕ
line_at t zero = []
line_at t (suc i) = line_no_lem t i

-- ---- what was expected, and what stands there

abbrev pub word_due : Pieces → Bool → Bool
word_due [] d = false
word_due (letter x ∷ g) d = true
word_due (space ∷ g) d = false
word_due (number ∷ g) d = false
word_due (more k ∷ g) d = false
word_due (anything ∷ g) d = false

-- within a number it went bad because of a digit only where none may follow
abbrev pub digit_due : Pieces → Bool → Bool
digit_due [] d = false
digit_due (letter x ∷ g) d = false
digit_due (space ∷ g) d = false
digit_due (number ∷ g) d = true
digit_due (more k ∷ g) d = d
digit_due (anything ∷ g) d = false

abbrev pub gap_due : Pieces → Bool → Bool
gap_due [] d = true
gap_due (letter x ∷ g) d = false
gap_due (space ∷ g) d = true
gap_due (number ∷ g) d = false
gap_due (more k ∷ g) d = cond d false true
gap_due (anything ∷ g) d = true

-- ---- the line, and its column

pub record Went (t : Text) (k : ℕ) (q : Pieces → Bool → Bool) : Type 0 where
  pub bad : At t k None
  pub column : ℕ
  pub astray : Astray permitted (line_at t k) column
  pub expected : Pieces
  pub due : Due permitted (take (column - 1) (line_at t k)) expected
  pub kind : T (q expected (digit_at (drop (column - 1) (line_at t k))))

abbrev pub shape_faults : List ℕ
shape_faults = number_of Line ∷ number_of Digit ∷ number_of Space ∷ number_of Unended ∷ []

-- 0 for every other refusal
abbrev pub ColumnOf : Text → ℕ → ℕ → ℕ → Type 0
ColumnOf t f k c = If (some? (eqb f) shape_faults) (Astray permitted (line_at t k) c) (c ≡ 0)
