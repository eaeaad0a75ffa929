-- A number as a set, of any width: what joins, meets, differences and single members say of `has`; sizes; the lowest member. No 64 stands here.
-- Assumes nothing.
use mathlib.Core.Path.{◌≡◌, refl, sym, ap, ap₂, ◌∙◌, subst}
use mathlib.Core.Logic.{◌≢◌}
use mathlib.Core.Bool.{Bool, true, false, not, ◌&&◌, ◌||◌, cond}
use mathlib.Core.List.{◌∷◌}
use mathlib.Core.Option.{some}
use Prim.Native.Nat.{ℕ, zero, suc, ◌+◌, ◌*◌, ◌-◌, ◌/◌, ◌%◌, ◌^◌, ◌≤◌, ◌<◌, max, min}
use native.Mathlib.Nat.{div-one, div-eq_of_lt, not-suc-le-zero, le_of_suc-le-suc, lt_of_lt_of_le, sub-zero, suc-sub-suc}
use native.Mathlib.Decide.{dec_lt}
use native.Mathlib.Omega.{arith}
use lib.Arith.{lt-one, bin_ind}
use lib.Bits.{bitwise, bitwise_step, bit_and, bit_or, and_step, or_step, and_zero_l, block_half, block_odd}
use lib.Count.{ones, ones_step, count_trailing_zeros, under}
use lib.Dec.{T, eqb, ltb, eqb→eq, eqb-zero-suc, eqb-suc-zero, eqb-suc-suc, leb-zero, leb-suc-zero, leb-suc-suc}
use lib.Pow.{shr-shr, pow_mono, pow_pos}
use borrow.Author.Tests.{eq-eqb, ne_eqb}
use Rattle.sets.specs.Lists.{bit, count, table, upto, members, lowest}
use Rattle.sets.specs.Set.{has, size, subset, IsWith, IsWithout, IsJoin, IsMeet, IsLess, IsBelow, IsLowest, IsRest}
use Rattle.sets.proofs.TestLaws.{and_r, and_true, T→false, T-ext, eqb_same, all_get, all_make}
use Rattle.sets.proofs.ListLaws.{count_iff}
use Rattle.sets.proofs.MemberLaws.{count_out, members_lowest, lowest_is}

-- ---- digits

abbrev odd : ℕ → Bool
odd x = eqb (x % 2) 1

has_zero : (s : ℕ) → has s 0 ≡ odd s
has_zero s = ap odd (div-one s)

pub has_suc : (s i : ℕ) → has s (suc i) ≡ has (s / 2) i
has_suc s i = ap odd (ap (λ (k : ℕ). s / 2 ^ k) e ∙ sym (shr-shr s 1 i))
  where
    e : suc i ≡ 1 + i
    e = omega arith

-- what holds of the four pairs of digits holds of any two
two_digits : (P : ℕ → ℕ → Type 0) → P 0 0 → P 0 1 → P 1 0 → P 1 1 → (x y : ℕ) → x < 2 → y < 2 → P x y
two_digits P a b c d zero zero h k = a
two_digits P a b c d zero (suc zero) h k = b
two_digits P a b c d zero (suc (suc y)) h k = absurd (omega arith)
two_digits P a b c d (suc zero) zero h k = c
two_digits P a b c d (suc zero) (suc zero) h k = d
two_digits P a b c d (suc zero) (suc (suc y)) h k = absurd (omega arith)
two_digits P a b c d (suc (suc x)) y h k = absurd (omega arith)

-- f on digits is g on tests
abbrev Digits : (ℕ → ℕ → ℕ) → (Bool → Bool → Bool) → ℕ → ℕ → Type 0
Digits f g x y = (f x y < 2) × (eqb (f x y) 1 ≡ g (eqb x 1) (eqb y 1))

-- one law for every operation that goes digit by digit
module _ (op f : ℕ → ℕ → ℕ) (g : Bool → Bool → Bool) (step : (a b : ℕ) → op a b ≡ op (a / 2) (b / 2) * 2 + f (a % 2) (b % 2))
    (small : (x y : ℕ) → x < 2 → y < 2 → Digits f g x y) where
  has_op : (j a b : ℕ) → has (op a b) j ≡ g (has a j) (has b j)
  has_op zero a b =
      let s = small (a % 2) (b % 2) (omega arith) (omega arith) in
      let m : op a b % 2 ≡ f (a % 2) (b % 2) = omega (arith, step a b, s.0) in
      has_zero (op a b) ∙ ap (λ (x : ℕ). eqb x 1) m ∙ s.1 ∙ ap₂ g (sym (has_zero a)) (sym (has_zero b))
  has_op (suc j) a b =
      let s = small (a % 2) (b % 2) (omega arith) (omega arith) in
      let h : op a b / 2 ≡ op (a / 2) (b / 2) = omega (arith, step a b, s.0) in
      has_suc (op a b) j ∙ ap (λ (x : ℕ). has x j) h ∙ has_op j (a / 2) (b / 2) ∙ ap₂ g (sym (has_suc a j)) (sym (has_suc b j))

-- ---- membership after each operation

pub join_is : (s t : ℕ) → IsJoin s t (bit_or s t)
join_is s t j =
    has_op bit_or max (λ a b. a || b) or_step
    (two_digits (Digits max (λ a b. a || b)) (omega arith, refl) (omega arith, refl) (omega arith, refl) (omega arith, refl)) j s t

pub meet_is : (s t : ℕ) → IsMeet s t (bit_and s t)
meet_is s t j =
    has_op bit_and min (λ a b. a && b) and_step
    (two_digits (Digits min (λ a b. a && b)) (omega arith, refl) (omega arith, refl) (omega arith, refl) (omega arith, refl)) j s t

-- the difference, digit by digit
bit_diff : ℕ → ℕ → ℕ
bit_diff = bitwise (λ b. zero) (λ x y. x - y)

diff_step : (a b : ℕ) → bit_diff a b ≡ bit_diff (a / 2) (b / 2) * 2 + (a % 2 - b % 2)
unfolding bit_diff
diff_step = bitwise_step (λ b. zero) (λ x y. x - y) (λ b. omega arith)

diff_zero : (b : ℕ) → bit_diff zero b ≡ zero
unfolding bit_diff
diff_zero b = refl

diff_and : (a b : ℕ) → bit_diff a b + bit_and a b ≡ a
diff_and a =
    bin_ind (λ (n : ℕ). (b : ℕ) → bit_diff n b + bit_and n b ≡ n) (λ b. omega (arith, diff_zero b, and_zero_l b))
    (λ n ih b. omega (arith, diff_step n b, and_step n b, ih (b / 2))) a

pub less_is : (s t : ℕ) → IsLess s t (s - bit_and s t)
less_is s t j =
    ap (λ (x : ℕ). has x j) e
    ∙ has_op bit_diff (λ x y. x - y) (λ a b. a && not b) diff_step
    (two_digits (Digits (λ x y. x - y) (λ a b. a && not b)) (omega arith, refl) (omega arith, refl) (omega arith, refl) (omega arith, refl)) j s t
  where
    e : s - bit_and s t ≡ bit_diff s t
    e = omega (arith, diff_and s t)

pub has_none : (i : ℕ) → has 0 i ≡ false
has_none zero = refl
has_none (suc i) = has_suc 0 i ∙ has_none i

-- the set of k alone
pub has_one : (k i : ℕ) → has (2 ^ k) i ≡ eqb k i
has_one zero zero = refl
has_one zero (suc i) = has_suc 1 i ∙ has_none i ∙ sym (eqb-zero-suc i)
has_one (suc k) zero = has_zero (2 ^ suc k) ∙ ap (λ (m : ℕ). eqb m 1) e ∙ sym (eqb-suc-zero k)
  where
    e : 2 ^ suc k % 2 ≡ 0
    e = omega arith
has_one (suc k) (suc i) = has_suc (2 ^ suc k) i ∙ ap (λ (m : ℕ). has m i) e ∙ has_one k i ∙ sym (eqb-suc-suc k i)
  where
    e : 2 ^ suc k / 2 ≡ 2 ^ k
    e = omega arith

pub with_is : (s i : ℕ) → IsWith s i (bit_or s (2 ^ i))
with_is s i j = join_is s (2 ^ i) j ∙ ap (λ (b : Bool). has s j || b) (has_one i j)

pub without_is : (s i : ℕ) → IsWithout s i (s - bit_and s (2 ^ i))
without_is s i j = less_is s (2 ^ i) j ∙ ap (λ (b : Bool). has s j && not b) (has_one i j)

-- the numbers below n
pub below_is : (n : ℕ) → IsBelow n (2 ^ n - 1)
below_is zero j = has_none j ∙ sym (leb-suc-zero j)
below_is (suc n) zero = has_zero (2 ^ suc n - 1) ∙ eq-eqb ((2 ^ suc n - 1) % 2) 1 (omega (arith, pow_pos n)) ∙ sym (leb-suc-suc 0 n ∙ leb-zero n)
below_is (suc n) (suc j) = has_suc (2 ^ suc n - 1) j ∙ ap (λ (m : ℕ). has m j) e ∙ below_is n j ∙ sym (leb-suc-suc (suc j) n)
  where
    e : (2 ^ suc n - 1) / 2 ≡ 2 ^ n - 1
    e = omega (arith, pow_pos n)

-- a set of width n has no member from n on
pub has_beyond : (n s i : ℕ) → s < 2 ^ n → n ≤ i → has s i ≡ false
has_beyond n s i a b = ap odd (div-eq_of_lt (lt_of_lt_of_le a (pow_mono b)))

-- the members from n on, counted from n
pub has_shifted : (n s i : ℕ) → has (s / 2 ^ n) i ≡ has s (n + i)
has_shifted n s i = ap odd (shr-shr s n i)

-- a set of two parts, as a row of several words: w has the members below k, r those from k on
pub has_cat : (k r w i : ℕ) → w < 2 ^ k → has (r * 2 ^ k + w) i ≡ cond (ltb i k) (has w i) (has r (i - k))
has_cat zero r w i a =
    ap (λ (m : ℕ). has m i) e ∙ ap (λ (j : ℕ). has r j) (sym (sub-zero i)) ∙ sym (ap (λ (t : Bool). cond t (has w i) (has r (i - 0))) (leb-suc-zero i))
  where
    e : r * 2 ^ 0 + w ≡ r
    e = omega (arith, lt-one a)
has_cat (suc k) r w zero a =
    has_zero (r * 2 ^ suc k + w) ∙ ap (λ (m : ℕ). eqb m 1) (block_odd r k w) ∙ sym (has_zero w)
    ∙ sym (ap (λ (t : Bool). cond t (has w 0) (has r (0 - suc k))) (leb-suc-suc 0 k ∙ leb-zero k))
has_cat (suc k) r w (suc i) a =
    has_suc (r * 2 ^ suc k + w) i ∙ ap (λ (m : ℕ). has m i) (block_half r k w) ∙ has_cat k r (w / 2) i (omega arith)
    ∙ ap₂ (λ (x y : Bool). cond (ltb i k) x y) (sym (has_suc w i)) (ap (λ (j : ℕ). has r j) (sym (suc-sub-suc i k)))
    ∙ sym (ap (λ (t : Bool). cond t (has w (suc i)) (has r (suc i - suc k))) (leb-suc-suc (suc i) k))

-- ---- two sets with the same members are equal

digit_value : (x : ℕ) → x < 2 → bit (eqb x 1) ≡ x
digit_value zero b = refl
digit_value (suc zero) b = refl
digit_value (suc (suc x)) b = absurd (omega arith)

digit_same : (a b : ℕ) → has a 0 ≡ has b 0 → a % 2 ≡ b % 2
digit_same a b e =
    sym (digit_value (a % 2) (omega arith)) ∙ ap bit (sym (has_zero a) ∙ e ∙ has_zero b) ∙ digit_value (b % 2) (omega arith)

-- at a width, the members below it are enough
pub same_below : (n a b : ℕ) → a < 2 ^ n → b < 2 ^ n → ((i : ℕ) → i < n → has a i ≡ has b i) → a ≡ b
same_below zero a b p q h = lt-one p ∙ sym (lt-one q)
same_below (suc n) a b p q h =
    omega (
      arith,
      digit_same a b (h 0 (omega arith)),
      same_below n (a / 2) (b / 2) (omega arith) (omega arith) (λ i l. sym (has_suc a i) ∙ h (suc i) (omega arith) ∙ has_suc b i),
    )

pub same_members : (a b : ℕ) → ((i : ℕ) → has a i ≡ has b i) → a ≡ b
same_members =
    bin_ind (λ (a : ℕ). (b : ℕ) → ((i : ℕ) → has a i ≡ has b i) → a ≡ b)
    (bin_ind (λ (b : ℕ). ((i : ℕ) → has 0 i ≡ has b i) → 0 ≡ b) (λ h. refl)
    (λ b ih h. omega (arith, digit_same 0 b (h 0), ih (λ i. has_none i ∙ sym (has_none (suc i)) ∙ h (suc i) ∙ has_suc b i))))
    (λ a ih b h. omega (arith, digit_same a b (h 0), ih (b / 2) (λ i. sym (has_suc a i) ∙ h (suc i) ∙ has_suc b i)))

-- a set with no member is 0
pub no_members : (s : ℕ) → ((i : ℕ) → ¬ T (has s i)) → s ≡ 0
no_members s h = same_members s 0 (λ i. T→false (has s i) (h i) ∙ sym (has_none i))

-- a set that is not 0 has a member
pub some_member : (s : ℕ) → s ≢ 0 → (i : ℕ) × T (has s i)
some_member =
    bin_ind (λ (s : ℕ). s ≢ 0 → (i : ℕ) × T (has s i)) (λ q. absurd (q refl)) (λ s ih q. go s q (s % 2) refl ih)
  where
    go : (s : ℕ) → s ≢ 0 → (d : ℕ) → s % 2 ≡ d → (s / 2 ≢ 0 → (i : ℕ) × T (has (s / 2) i)) → (i : ℕ) × T (has s i)
    go s q zero e r = let m = r (λ z. q (omega arith)) in (suc m.0, subst T (sym (has_suc s m.0)) m.1)
    go s q (suc d) e r = (0, subst T (sym (has_zero s ∙ eq-eqb (s % 2) 1 (omega arith))) tt)

-- ---- sizes

-- the count of ones is the number of members
pub ones_size : (n s : ℕ) → s < 2 ^ n → ones s ≡ size n s
unfolding ones upto
ones_size zero s a = ap ones (lt-one a)
ones_size (suc n) s a = omega (arith, ones_step s, digit, rest, ones_size n (s / 2) (omega arith))
  where
    digit : bit (has s 0) ≡ s % 2
    digit = ap bit (has_zero s) ∙ digit_value (s % 2) (omega arith)

    shifted : (n : ℕ) (h : ℕ → ℕ) → count (has s) (table (λ i. suc (h i)) n) ≡ count (λ i. has s (suc i)) (table h n)
    shifted zero h = refl
    shifted (suc n) h = ap (λ (k : ℕ). bit (has s (suc (h 0))) + k) (shifted n (λ i. h (suc i)))

    rest : count (has s) (table suc n) ≡ count (has (s / 2)) (upto n)
    rest = shifted n (λ i. i) ∙ count_iff (λ i. has s (suc i)) (has (s / 2)) (upto n) (λ i. ap bit (has_suc s i))

-- taking a member out lowers the size by one
pub size_without : (n s i r : ℕ) → i < n → T (has s i) → IsWithout s i r → suc (size n r) ≡ size n s
size_without n s i r a t w = count_out n (has s) (has r) i a t out same
  where
    out : ¬ T (has r i)
    out u = subst (λ (b : Bool). T (not b)) (eqb_same i) (and_r (has s i) (not (eqb i i)) (subst T (w i) u))

    same : (j : ℕ) → j ≢ i → has r j ≡ has s j
    same j d = w j ∙ ap (λ (b : Bool). has s j && not b) (ne_eqb i j (λ e. d (sym e))) ∙ and_true (has s j)

-- ---- the lowest member

-- the trailing zeros of a set that is not empty are its lowest member
pub trailing_lowest : (n s : ℕ) → s < 2 ^ n → s ≢ 0 → IsLowest n s (count_trailing_zeros n s)
unfolding count_trailing_zeros
trailing_lowest zero s a q = absurd (q (lt-one a))
trailing_lowest (suc n) s a q = go (s % 2) refl (trailing_lowest n (s / 2) (omega arith))
  where
    go : (d : ℕ) → s % 2 ≡ d → (s / 2 ≢ 0 → IsLowest n (s / 2) (count_trailing_zeros n (s / 2)))
        → IsLowest (suc n) s (under d (count_trailing_zeros n (s / 2)))
    go (suc d) e r = record {
      below = omega arith;
      member = subst T (sym (has_zero s ∙ eq-eqb (s % 2) 1 (omega arith))) tt;
      least = λ j b. absurd (not-suc-le-zero b);
    }
    go zero e r = record {
      below = omega (arith, h.below);
      member = subst T (sym (has_suc s (count_trailing_zeros n (s / 2)))) h.member;
      least = lower;
    }
      where
        h : IsLowest n (s / 2) (count_trailing_zeros n (s / 2))
        h = r (λ z. q (omega arith))

        lower : (j : ℕ) → j < suc (count_trailing_zeros n (s / 2)) → ¬ T (has s j)
        lower zero b t = subst T (has_zero s ∙ ap (λ (x : ℕ). eqb x 1) e) t
        lower (suc j) b t = h.least j (le_of_suc-le-suc b) (subst T (has_suc s j) t)

-- it is the first of the members
pub lowest_member : (n s w : ℕ) → IsLowest n s w → lowest (has s) n ≡ some w
lowest_member n s w l = lowest_is (has s) n w l.below l.member l.least

-- the lowest member and then the others
pub members_cons : (n s w r : ℕ) → IsLowest n s w → IsWithout s w r → members (has s) n ≡ w ∷ members (has r) n
members_cons n s w r l h = members_lowest n (has s) (has r) w l.below l.member l.least out same
  where
    out : ¬ T (has r w)
    out u = subst (λ (b : Bool). T (not b)) (eqb_same w) (and_r (has s w) (not (eqb w w)) (subst T (h w) u))

    same : (j : ℕ) → j ≢ w → has r j ≡ has s j
    same j d = h j ∙ ap (λ (b : Bool). has s j && not b) (ne_eqb w j (λ e. d (sym e))) ∙ and_true (has s j)

-- one less ends in other digits from the lowest member down
one_less : (w s : ℕ) → T (has s w) → ((j : ℕ) → j < w → ¬ T (has s j)) → (j : ℕ) → (has s j && has (s - 1) j) ≡ (has s j && not (eqb w j))
one_less zero s t f zero =
    let e : s % 2 ≡ 1 = eqb→eq (s % 2) 1 (subst T (has_zero s) t) in
    ap (λ (b : Bool). has s 0 && b) (has_zero (s - 1) ∙ ne_eqb ((s - 1) % 2) 1 (λ q. absurd (omega arith)))
one_less zero s t f (suc j) =
    let e : s % 2 ≡ 1 = eqb→eq (s % 2) 1 (subst T (has_zero s) t) in
    let h : (s - 1) / 2 ≡ s / 2 = omega arith in
    ap (λ (b : Bool). has s (suc j) && b) (has_suc (s - 1) j ∙ ap (λ (x : ℕ). has x j) h ∙ sym (has_suc s j)) ∙ and_same (has s (suc j))
    ∙ ap (λ (b : Bool). has s (suc j) && not b) (sym (eqb-zero-suc j))
  where
    and_same : (a : Bool) → (a && a) ≡ (a && true)
    and_same true = refl
    and_same false = refl
one_less (suc w) s t f zero =
    let e : has s 0 ≡ false = T→false (has s 0) (f 0 (omega arith)) in
    ap (λ (b : Bool). b && has (s - 1) 0) e ∙ sym (ap (λ (b : Bool). b && not (eqb (suc w) 0)) e)
one_less (suc w) s t f (suc j) =
    let q : s % 2 ≢ 1 = λ e. f 0 (omega arith) (subst T (sym (has_zero s ∙ eq-eqb (s % 2) 1 e)) tt) in
    let h : (s - 1) / 2 ≡ s / 2 - 1 = omega arith in
    ap₂ (λ (a b : Bool). a && b) (has_suc s j) (has_suc (s - 1) j ∙ ap (λ (x : ℕ). has x j) h)
    ∙ one_less w (s / 2) (subst T (has_suc s w) t) (λ i b u. f (suc i) (omega arith) (subst T (sym (has_suc s i)) u)) j
    ∙ ap₂ (λ (a b : Bool). a && not b) (sym (has_suc s j)) (sym (eqb-suc-suc w j))

pub rest_is : (n s : ℕ) → IsRest n s (bit_and s (s - 1))
rest_is n s w l j = meet_is s (s - 1) j ∙ one_less w s l.member l.least j

-- ---- subsets

-- each member of s is one of t just where the meet is s itself
pub subset_meet : (n s t : ℕ) → s < 2 ^ n → eqb (bit_and s t) s ≡ subset n s t
unfolding subset
subset_meet n s t a = T-ext (eqb (bit_and s t) s) (subset n s t) into out
  where
    into : T (eqb (bit_and s t) s) → T (subset n s t)
    into e = all_make n (λ j. not (has s j) || has t j) (λ j l. one j (has s j) (has t j) (sym (ap (λ (x : ℕ). has x j) (eqb→eq (bit_and s t) s e)) ∙ meet_is s t j))
      where
        one : (j : ℕ) (x y : Bool) → x ≡ (x && y) → T (not x || y)
        one j true true h = tt
        one j true false h = absurd (subst T h tt)
        one j false y h = tt

    out : T (subset n s t) → T (eqb (bit_and s t) s)
    out u = subst T (sym (eq-eqb (bit_and s t) s (same_members (bit_and s t) s member))) tt
      where
        both : (x y : Bool) → T (not x || y) → (x && y) ≡ x
        both true true h = refl
        both true false h = absurd h
        both false y h = refl

        member : (j : ℕ) → has (bit_and s t) j ≡ has s j
        member j = meet_is s t j ∙ go (dec_lt j n)
          where
            go : Dec (j < n) → (has s j && has t j) ≡ has s j
            go (yes l) = both (has s j) (has t j) (all_get n (λ j. not (has s j) || has t j) u j l)
            go (no q) = ap (λ (b : Bool). b && has t j) f ∙ sym f
              where
                f : has s j ≡ false
                f = has_beyond n s j a (omega arith)
