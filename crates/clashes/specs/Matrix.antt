-- The lent matrix (document 01, "The matrix"): row i is a number, bit j of it says that i and j clash; n is the count of rows. And what the
-- answer to "is it valid?" has to be (document 01's numbers 1 to 4, in their order, each over all rows before the next).
--
--   matrix rows x y    : x and y clash, by row x
--   Valid n clash      : no entry clashes with itself, and clashes go both ways
--   HasStray rows i    : row i has a bit at n or above
--   HasItself rows i   : row i has bit i
--   HasOneSided rows i : row i has a bit j, and row j lacks bit i
--   LowestRow P n i    : i is the lowest row below n of which P holds
--   NoRow P n          : P holds of no row below n
--   FirstRow P n i     : i is the lowest row below n of which P holds, or n where there is none
--   Lowest P n r       : r is the lowest row below n of which P holds, or none where there is none
--   Sound rows         : no fault at all: not too many rows, no stray bit, no row with its own bit, every clash returned
--   numbers a          : an answer in the numbers of document 01's table (crate refusals)
--   Unsound rows r i   : what the refusal with the number r and the row i says is so
--   Judged rows a      : a is the answer for these rows: what its numbers say is so
--   judge rows         : the answer, computed
--
-- Each is stated for lists of up to `most` entries (`SoundUpTo most`, ..), a row being a natural number, and is then named for today's 64.
-- Assumes nothing.
use Rattle.std.specs.Prelude.{Bool, not, ◌&&◌, cond, List, ℕ, zero, ◌≤◌, ◌<◌, ◌^◌, T, leb, ltb, eqb, length, get_or, Option, Some, None, Result, Ok, Err}
use Rattle.std.proofs.Math.Option.{Option as MathOption, none, some}
use Rattle.refusals.specs.Table.{Told, told, fine, accepted, number_of, If}
use Rattle.refusals.specs.declared.Refusal.TheVariants as refusal
use Rattle.refusals.specs.declared.Invalid.{Invalid}
use Rattle.refusals.specs.declared.Invalid.TheVariants.{Many, Stray, Itself, OneSided}
use Rattle.sets.specs.Lists.{any, lowest}
use Rattle.sets.specs.Set.{has}

abbrev pub matrix : List ℕ → ℕ → ℕ → Bool
matrix rows x y = has (get_or rows x zero) y

pub record Valid (n : ℕ) (clash : ℕ → ℕ → Bool) : Type 0 where
  pub no_self : (x : ℕ) → x < n → ¬ T (clash x x)
  pub both_ways : (x y : ℕ) → x < n → y < n → T (clash x y) → T (clash y x)

abbrev pub HasStray : List ℕ → ℕ → Type 0
HasStray rows i = (j : ℕ) × (length rows ≤ j) × T (matrix rows i j)

abbrev pub HasItself : List ℕ → ℕ → Type 0
HasItself rows i = T (matrix rows i i)

abbrev pub HasOneSided : List ℕ → ℕ → Type 0
HasOneSided rows i = (j : ℕ) × (j < length rows) × T (matrix rows i j) × ¬ T (matrix rows j i)

pub record LowestRow (P : ℕ → Type 0) (n i : ℕ) : Type 0 where
  pub below : i < n
  pub here : P i
  pub before : (j : ℕ) → j < i → ¬ P j

abbrev pub NoRow : (ℕ → Type 0) → ℕ → Type 0
NoRow P n = (i : ℕ) → i < n → ¬ P i

pub record FirstRow (P : ℕ → Type 0) (n i : ℕ) : Type 0 where
  pub most : i ≤ n
  pub here : i < n → P i
  pub earlier : (j : ℕ) → j < i → ¬ P j

abbrev pub Lowest : (ℕ → Type 0) → ℕ → Option ℕ → Type 0
Lowest P n (Some i) = LowestRow P n i
Lowest P n None = NoRow P n

-- document 01's numbers
abbrev pub numbers : Result Unit Invalid → Told
numbers (Ok u) = fine
numbers (Err Many) = told refusal.Many 0
numbers (Err (Stray i)) = told refusal.Stray i
numbers (Err (Itself i)) = told refusal.Itself i
numbers (Err (OneSided i)) = told refusal.OneSided i

module _ (most : ℕ) where
  -- not too many rows, and no stray bit
  pub record InsideUpTo (rows : List ℕ) : Type 0 where
    pub few : length rows ≤ most
    pub no_stray : NoRow (HasStray rows) (length rows)

  -- and no row with its own bit
  pub record ApartUpTo (rows : List ℕ) : Type 0 where
    pub inside : InsideUpTo rows
    pub no_itself : NoRow (HasItself rows) (length rows)

  -- and no row whose clash is not returned
  pub record SoundUpTo (rows : List ℕ) : Type 0 where
    pub apart : ApartUpTo rows
    pub no_one_sided : NoRow (HasOneSided rows) (length rows)

  -- what a refusal of the rows says, by its number in the table and the row beside it
  abbrev pub UnsoundUpTo : List ℕ → ℕ → ℕ → Type 0
  UnsoundUpTo rows number i =
      If (eqb number (number_of refusal.Many)) (most < length rows)
      (If (eqb number (number_of refusal.Stray)) ((length rows ≤ most) × LowestRow (HasStray rows) (length rows) i)
      (If (eqb number (number_of refusal.Itself)) (InsideUpTo rows × LowestRow (HasItself rows) (length rows) i)
      (If (eqb number (number_of refusal.OneSided)) (ApartUpTo rows × LowestRow (HasOneSided rows) (length rows) i)
      ⊥)))

  abbrev pub JudgedUpTo : List ℕ → Result Unit Invalid → Type 0
  JudgedUpTo rows a = If (eqb (numbers a).number accepted) (SoundUpTo rows) (UnsoundUpTo rows (numbers a).number (numbers a).row)

-- ---- computed

abbrev pub stray_at : List ℕ → ℕ → Bool
stray_at rows i = leb (2 ^ length rows) (get_or rows i zero)

abbrev pub itself_at : List ℕ → ℕ → Bool
itself_at rows i = matrix rows i i

abbrev pub one_sided_at : List ℕ → ℕ → Bool
one_sided_at rows i = any (length rows) (λ j. matrix rows i j && not (matrix rows j i))

-- the refusal at the lowest row, or what comes next
abbrev pub refuse : MathOption ℕ → (ℕ → Invalid) → Result Unit Invalid → Result Unit Invalid
refuse none f next = next
refuse (some i) f next = Err (f i)

abbrev pub judge_up_to : ℕ → List ℕ → Result Unit Invalid
judge_up_to most rows =
    cond (ltb most (length rows)) (Err Many)
    (refuse (lowest (stray_at rows) (length rows)) Stray
    (refuse (lowest (itself_at rows) (length rows)) Itself
    (refuse (lowest (one_sided_at rows) (length rows)) OneSided (Ok tt))))

-- ---- up to 64 entries

abbrev pub Inside : List ℕ → Type 0
Inside rows = InsideUpTo 64 rows

abbrev pub Apart : List ℕ → Type 0
Apart rows = ApartUpTo 64 rows

abbrev pub Sound : List ℕ → Type 0
Sound rows = SoundUpTo 64 rows

abbrev pub Judged : List ℕ → Result Unit Invalid → Type 0
Judged rows a = JudgedUpTo 64 rows a

abbrev pub judge : List ℕ → Result Unit Invalid
judge rows = judge_up_to 64 rows
