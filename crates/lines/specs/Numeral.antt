-- Numbers and words, written.
--
--   decimal f n    : the digits of n, at most f of them, without leading zero
--   numeral n      : a number below 10,000,000, as it is written
--   one_line w u   : a line of the word w and one number, with its line feed
--   two_line w u v : a line of the word w and two numbers with a space between, with its line feed
--   over o a x     : the bytes o with x put over them from place a on
--   Put o a x p b  : x was put over the bytes o from place a on, which left p, and b is the place after it
--
-- Assumes nothing.
use Rattle.std.specs.Prelude.{ℕ, zero, suc, ◌+◌, ◌/◌, ◌%◌, ◌≡◌, List, [], ◌∷◌, ◌++◌, cond, length, take, drop, leb}

abbrev pub decimal : ℕ → ℕ → List ℕ
decimal zero n = []
decimal (suc f) n = cond (leb 10 n) (decimal f (n / 10) ++ (48 + n % 10) ∷ []) ((48 + n) ∷ [])

unfoldable pub numeral : ℕ → List ℕ
numeral n = decimal 7 n

abbrev pub one_line : List ℕ → ℕ → List ℕ
one_line w u = w ++ (numeral u ++ 10 ∷ [])

abbrev pub two_line : List ℕ → ℕ → ℕ → List ℕ
two_line w u v = w ++ (numeral u ++ one_line (32 ∷ []) v)

abbrev pub over : List ℕ → ℕ → List ℕ → List ℕ
over o a x = take a o ++ x ++ drop (a + length x) o

abbrev pub Put : List ℕ → ℕ → List ℕ → List ℕ → ℕ → Type 0
Put o a x p b = (b ≡ a + length x) × (p ≡ over o a x)
