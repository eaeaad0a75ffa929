-- What the inner functions promise: sums of digits at each number, one row more, four rows more, one slice lower. Of one word, as Counts.antt.
--
--   IsHalf a b r, IsSum a b c r : r has at each number the sum of its digits in two, in three, words
--   IsPulled rows left r  : r has the row of a member of left, and the other members; of none an empty row
--   four p q r s v      : how many of four rows have v
--   Fits c p q r s      : four rows more leave every count below 128
--   Absorbed c p q r s d : d has at each number what c has, and how many of four rows have it
--   Leads f apart gap top m : m has who is greatest by f in apart, with top; all others are behind by the gap at the least
--   Ahead f apart gap m : the same, with whatever the greatest have
--   IsNarrowed m slice r : with any weight for those in a slice, r has who is greatest, where m had
--   IsBorrowed slice digit b r : at each number below 64, r has whether digit and what b has, taken from the slice, borrow from the next
--
-- Assumes nothing.
use Rattle.std.specs.Prelude.{◌≡◌, List, ℕ, ◌+◌, ◌*◌, ◌≤◌, ◌<◌, T}
use Rattle.sets.specs.Lists.{bit}
use Rattle.sets.specs.Set.{has, size}
use Rattle.counts.specs.Counts.{held, value}
use Rattle.counts.specs.declared.Counts.{Counts}
use Rattle.counts.specs.declared.Pulled.{Pulled}
use Rattle.counts.specs.declared.Sum.{Sum}

abbrev pub IsHalf : ℕ → ℕ → Sum → Type 0
IsHalf a b r = (v : ℕ) → bit (has r.ones v) + 2 * bit (has r.twos v) ≡ bit (has a v) + bit (has b v)

abbrev pub IsSum : ℕ → ℕ → ℕ → Sum → Type 0
IsSum a b c r = (v : ℕ) → bit (has r.ones v) + 2 * bit (has r.twos v) ≡ bit (has a v) + bit (has b v) + bit (has c v)

pub record IsPulled (rows : List ℕ) (left : ℕ) (r : Pulled) : Type 0 where
  pub rest : (v : ℕ) → held rows left v ≡ bit (has r.row v) + held rows r.left v
  pub within : size 64 r.left ≤ size 64 left
  pub fewer : ¬ (left ≡ 0) → size 64 r.left < size 64 left

abbrev pub four : ℕ → ℕ → ℕ → ℕ → ℕ → ℕ
four p q r s v = bit (has p v) + bit (has q v) + bit (has r v) + bit (has s v)

abbrev pub Fits : Counts → ℕ → ℕ → ℕ → ℕ → Type 0
Fits c p q r s = (v : ℕ) → value c v + four p q r s v < 128

abbrev pub Absorbed : Counts → ℕ → ℕ → ℕ → ℕ → Counts → Type 0
Absorbed c p q r s d = (v : ℕ) → value d v ≡ value c v + four p q r s v

pub record Leads (f : ℕ → ℕ) (apart gap top m : ℕ) : Type 0 where
  pub within : (v : ℕ) → T (has m v) → T (has apart v)
  pub same : (v : ℕ) → T (has m v) → f v ≡ top
  pub behind : (v : ℕ) → T (has apart v) → ¬ T (has m v) → f v + gap ≤ top
  pub some : ¬ (apart ≡ 0) → ¬ (m ≡ 0)

pub record Ahead (f : ℕ → ℕ) (apart gap m : ℕ) : Type 0 where
  pub top : ℕ
  pub leads : Leads f apart gap top m

abbrev pub IsNarrowed : ℕ → ℕ → ℕ → Type 0
IsNarrowed m slice r =
    (f : ℕ → ℕ) (apart weight : ℕ) → Ahead f apart (2 * weight) m → Ahead (λ v. f v + weight * bit (has slice v)) apart weight r

abbrev pub IsBorrowed : ℕ → ℕ → ℕ → ℕ → Type 0
IsBorrowed slice digit b r =
    (v : ℕ) → v < 64 → (digit + bit (has b v) ≤ bit (has slice v) + 2 * bit (has r v)) × (bit (has slice v) + 2 * bit (has r v) ≤ digit + bit (has b v) + 1)
