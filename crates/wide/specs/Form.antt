-- Rows that are lent in one word each, 64 of them, or in four, 256 of them. What is said of them is said of the numbers that they are.
--
--   held words rows     : the rows, as numbers: 64 of them a word
--   One words rows      : one word, and 64 numbers are lent
--   Four words rows     : four words, and 1,024 numbers are lent
--   Form words rows     : one of the two
--   Fits cap s          : each member of s is below cap
--   Marked rows x u r   : r are as many rows, these, with u in row x
--   Unmarked rows x u r : r are as many rows, these, without u in row x
--
-- Assumes nothing.
use Rattle.std.specs.Prelude.{◌≡◌, not, ◌&&◌, ◌||◌, ◌⊎◌, List, ℕ, zero, ◌*◌, ◌<◌, T, eqb, length, get_or}
use Rattle.sets.specs.Set.{has}
use Rattle.wide.specs.Words.{rows_of}

abbrev pub held : ℕ → List ℕ → List ℕ
held words rows = rows_of words (64 * words) rows

pub record One (words : ℕ) (rows : List ℕ) : Type 0 where
  pub words_one : words ≡ 1
  pub long : length rows ≡ 64

pub record Four (words : ℕ) (rows : List ℕ) : Type 0 where
  pub words_four : words ≡ 4
  pub long : length rows ≡ 1024

abbrev pub Form : ℕ → List ℕ → Type 0
Form words rows = One words rows ⊎ Four words rows

abbrev pub Fits : ℕ → ℕ → Type 0
Fits cap s = (i : ℕ) → T (has s i) → i < cap

pub record Marked (rows : List ℕ) (x u : ℕ) (r : List ℕ) : Type 0 where
  pub long : length r ≡ length rows
  pub is : (a b : ℕ) → has (get_or r a zero) b ≡ (has (get_or rows a zero) b || (eqb x a && eqb u b))

pub record Unmarked (rows : List ℕ) (x u : ℕ) (r : List ℕ) : Type 0 where
  pub long : length r ≡ length rows
  pub is : (a b : ℕ) → has (get_or r a zero) b ≡ (has (get_or rows a zero) b && not (eqb x a && eqb u b))
