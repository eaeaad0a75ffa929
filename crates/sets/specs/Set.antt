-- A natural number as a set of numbers, of any width: i is a member of s where digit i of s, from the lowest, is 1.
--
--   has s i          : i is a member of s
--   size n s         : how many members below n the set s has
--   subset n s t     : each member of s below n is one of t
--   IsWith s i r     : r is s with i
--   IsWithout s i r  : r is s without i
--   IsJoin s t r     : r has what s or t has
--   IsMeet s t r     : r has what s and t have
--   IsLess s t r     : r has what s has and t does not
--   IsBelow n r      : r has the numbers below n, and no others
--   IsLowest n s w   : w is the lowest member of s, and is below n
--   IsRest n s r     : r is s without its lowest member, where that is below n
--
-- Two numbers with the same members are equal (`same_members` of proofs/SetLaws.antt), so each of these leaves one r. Assumes nothing.
use Rattle.std.specs.Prelude.{◌≡◌, Bool, not, ◌&&◌, ◌||◌, ℕ, ◌/◌, ◌%◌, ◌^◌, ◌<◌, T, eqb, ltb}
use Rattle.sets.specs.Lists.{count, all, upto}

abbrev pub has : ℕ → ℕ → Bool
has s i = eqb (s / 2 ^ i % 2) 1

abbrev pub size : ℕ → ℕ → ℕ
size n s = count (has s) (upto n)

unfoldable pub subset : ℕ → ℕ → ℕ → Bool
subset n s t = all n (λ j. not (has s j) || has t j)

abbrev pub IsWith : ℕ → ℕ → ℕ → Type 0
IsWith s i r = (j : ℕ) → has r j ≡ (has s j || eqb i j)

abbrev pub IsWithout : ℕ → ℕ → ℕ → Type 0
IsWithout s i r = (j : ℕ) → has r j ≡ (has s j && not (eqb i j))

abbrev pub IsJoin : ℕ → ℕ → ℕ → Type 0
IsJoin s t r = (j : ℕ) → has r j ≡ (has s j || has t j)

abbrev pub IsMeet : ℕ → ℕ → ℕ → Type 0
IsMeet s t r = (j : ℕ) → has r j ≡ (has s j && has t j)

abbrev pub IsLess : ℕ → ℕ → ℕ → Type 0
IsLess s t r = (j : ℕ) → has r j ≡ (has s j && not (has t j))

abbrev pub IsBelow : ℕ → ℕ → Type 0
IsBelow n r = (j : ℕ) → has r j ≡ ltb j n

pub record IsLowest (n s w : ℕ) : Type 0 where
  pub below : w < n
  pub member : T (has s w)
  pub least : (j : ℕ) → j < w → ¬ T (has s j)

abbrev pub IsRest : ℕ → ℕ → ℕ → Type 0
IsRest n s r = (w : ℕ) → IsLowest n s w → IsWithout s w r
