-- In how many rows a number is, for all numbers at once. Of one word by nature: a slice has 64 numbers, and seven slices hold counts to 64.
--
--   held rows near v    : how many members of near have v in their row
--   number slices v     : the number whose digits, from the lowest, say whether v is in these slices
--   value c v           : the count that c holds at v
--   Counted rows near c : c holds at each v how many members of near have v in their row
--   Most c apart v      : v is in apart, and c holds at no member of apart more than at v
--   IsMost c apart r    : r has just these, and someone where apart has
--   IsAtLeast c need among r : r has those of a set at which c holds that count or more
--
-- Assumes nothing.
use Rattle.std.specs.Prelude.{◌≡◌, ◌&&◌, List, [], ◌∷◌, ℕ, zero, ◌+◌, ◌*◌, ◌≤◌, T, leb, get_or}
use Rattle.sets.specs.Lists.{bit, count, upto}
use Rattle.sets.specs.Set.{has}
use Rattle.counts.specs.declared.Counts.{Counts}

abbrev pub held : List ℕ → ℕ → ℕ → ℕ
held rows near v = count (λ w. has near w && has (get_or rows w zero) v) (upto 64)

abbrev pub number : List ℕ → ℕ → ℕ
number [] v = zero
number (s ∷ slices) v = bit (has s v) + 2 * number slices v

abbrev pub value : Counts → ℕ → ℕ
value c v = number (c.s0 ∷ c.s1 ∷ c.s2 ∷ c.s3 ∷ c.s4 ∷ c.s5 ∷ c.s6 ∷ []) v

abbrev pub Counted : List ℕ → ℕ → Counts → Type 0
Counted rows near c = (v : ℕ) → value c v ≡ held rows near v

pub record Most (c : Counts) (apart v : ℕ) : Type 0 where
  pub member : T (has apart v)
  pub greatest : (w : ℕ) → T (has apart w) → value c w ≤ value c v

pub record IsMost (c : Counts) (apart r : ℕ) : Type 0 where
  pub most : (v : ℕ) → T (has r v) → Most c apart v
  pub all : (v : ℕ) → Most c apart v → T (has r v)
  pub some : ¬ (apart ≡ 0) → ¬ (r ≡ 0)

abbrev pub IsAtLeast : Counts → ℕ → ℕ → ℕ → Type 0
IsAtLeast c need among r = (v : ℕ) → has r v ≡ (has among v && leb need (value c v))
