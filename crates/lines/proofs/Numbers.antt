-- The digits of a number, one at a time, and the cases of `proper`.
use Prim.Native.Nat.{ℕ, zero, suc, ◌+◌, ◌-◌, ◌*◌, ◌^◌, ◌≤◌, ◌<◌, zero-le, suc-le-suc}
use mathlib.Core.Path.{◌≡◌, refl, sym, ap, subst, ◌∙◌}
use mathlib.Core.List.{List, [], ◌∷◌}
use mathlib.Core.Bool.{Bool, true, false, cond, ◌&&◌}
use native.Mathlib.Numerals.{add-one}
use native.Mathlib.Nat.{pow-suc, pow-le-pow_right, le_of_suc-le-suc, not-suc-le-zero}
use native.Mathlib.Omega.{arith}
use borrow.Author.Tests.{eq-eqb, ne_eqb, le-leb, lt-leb, leb-true}
use lib.ListN.{length, take, drop, get_or, drop_of_length-le}
use lib.Dec.{T, leb, lit<}
use Rattle.std.specs.Prelude.{None, Some, take_while}
use Rattle.std.specs.Char.{is_ascii_digit}
use Rattle.std.proofs.lemmas.List.Sums.{take_while-cons}
use Rattle.lines.specs.Number.{digit, digits, value, proper, number_of}
use Rattle.lines.proofs.Basics.{cond_cases, from}

digit_is : (b : ℕ) → is_ascii_digit b ≡ digit b
digit_is b = go (leb 48 b)
  where
    go : (x : Bool) → (x && leb b 57) ≡ cond x (leb b 57) false
    go true = refl
    go false = refl

-- the digits at the front are the bytes that pass as digits
pub digits_while : (s : List ℕ) → take_while is_ascii_digit s ≡ digits s
digits_while [] = refl
digits_while (b ∷ s) = take_while-cons is_ascii_digit b s ∙ ap (λ (x : Bool). cond x (b ∷ take_while is_ascii_digit s) []) (digit_is b) ∙ ap (λ (l : List ℕ). cond (digit b) (b ∷ l) []) (digits_while s)

-- and as long as they are, what stands at the front
pub digits_take : (s : List ℕ) → take (length (digits s)) s ≡ digits s
digits_take [] = refl
digits_take (b ∷ s) =
    cond_cases (λ (l : List ℕ). take (length l) (b ∷ s) ≡ l) (digit b) (b ∷ digits s) [] (λ _. ap (λ (l : List ℕ). b ∷ l) (digits_take s)) (λ _. refl)

pub digits_le : (s : List ℕ) → length (digits s) ≤ length s
digits_le [] = zero-le
digits_le (b ∷ s) = cond_cases (λ (l : List ℕ). length l ≤ suc (length s)) (digit b) (b ∷ digits s) [] (λ _. suc-le-suc (digits_le s)) (λ _. zero-le)

-- each of them is one
pub digits_are : (s : List ℕ) (i : ℕ) → i < length (digits s) → (48 ≤ get_or (digits s) i 0) × (get_or (digits s) i 0 ≤ 57)
digits_are [] i = λ h. absurd (not-suc-le-zero h)
digits_are (b ∷ s) i = go (digit b) refl (digits_are s) i
  where
    passed : digit b ≡ true → (48 ≤ b) × (b ≤ 57)
    passed e = both (leb 48 b) refl e
      where
        both : (x : Bool) → leb 48 b ≡ x → cond x (leb b 57) false ≡ true → (48 ≤ b) × (b ≤ 57)
        both true f e = (leb-true 48 b f, leb-true b 57 e)
        both false f e = absurd (subst T (sym e) tt)

    go : (x : Bool) → digit b ≡ x → ((i : ℕ) → i < length (digits s) → (48 ≤ get_or (digits s) i 0) × (get_or (digits s) i 0 ≤ 57))
        → (i : ℕ) → i < length (cond x (b ∷ digits s) []) → (48 ≤ get_or (cond x (b ∷ digits s) []) i 0) × (get_or (cond x (b ∷ digits s) []) i 0 ≤ 57)
    go true e r zero h = passed e
    go true e r (suc i) h = r i (le_of_suc-le-suc h)
    go false e r i h = absurd (not-suc-le-zero h)

-- of the first n bytes: digits that end before n are all that stand at the front
digits_within : (n : ℕ) (s : List ℕ) → length (digits (take n s)) < n → digits (take n s) ≡ digits s
digits_within zero s h = absurd (not-suc-le-zero h)
digits_within (suc n) [] h = refl
digits_within (suc n) (b ∷ s) h = go (digit b) (digits_within n s) h
  where
    go : (x : Bool) → (length (digits (take n s)) < n → digits (take n s) ≡ digits s) → length (cond x (b ∷ digits (take n s)) []) < suc n
        → cond x (b ∷ digits (take n s)) [] ≡ cond x (b ∷ digits s) []
    go true r h = ap (λ (l : List ℕ). b ∷ l) (r (le_of_suc-le-suc h))
    go false r h = refl

-- and n of them are no more than stand there
digits_reach : (n : ℕ) (s : List ℕ) → n ≤ length (digits (take n s)) → n ≤ length (digits s)
digits_reach zero s h = zero-le
digits_reach (suc n) [] h = h
digits_reach (suc n) (b ∷ s) h = go (digit b) (digits_reach n s) h
  where
    go : (x : Bool) → (n ≤ length (digits (take n s)) → n ≤ length (digits s)) → suc n ≤ length (cond x (b ∷ digits (take n s)) [])
        → suc n ≤ length (cond x (b ∷ digits s) [])
    go true r h = suc-le-suc (r (le_of_suc-le-suc h))
    go false r h = h

-- k of the first 8 bytes pass as digits: where k is at most 7, all that stand at the front; else at least 8 do
module _ (s : List ℕ) (k : ℕ) (e : k ≡ length (take_while is_ascii_digit (take 8 s))) where
  counted : k ≡ length (digits (take 8 s))
  counted = e ∙ ap length (digits_while (take 8 s))

  pub digits_few : k ≤ 7 → k ≡ length (take_while is_ascii_digit s)
  digits_few h = counted ∙ ap length (digits_within 8 s (omega (arith, counted))) ∙ sym (ap length (digits_while s))

  pub digits_many : 7 < k → 7 < length (digits s)
  digits_many h = digits_reach 8 s (omega (arith, counted))

-- k bytes that pass as digits, at the front
module _ (s : List ℕ) (k : ℕ) (e : k ≡ length (take_while is_ascii_digit s)) where
  pub digits_count : length (digits s) ≡ k
  digits_count = sym (e ∙ ap length (digits_while s))

  digits_front : take k s ≡ digits s
  digits_front = rw (← digits_count) (digits_take s)

  module _ (i : ℕ) (h : i < length (take k s)) where
    pub digit_before : i < k
    digit_before = omega (arith, ap length digits_front, digits_count)

    pub digit_at : (48 ≤ get_or (take k s) i 0) × (get_or (take k s) i 0 ≤ 57)
    digit_at = rw digits_front (digits_are s i (omega (arith, digit_before, digits_count)))

    -- read, what is left has the value that it had before
    pub digit_read : (v : ℕ) → value (v * 10 + (get_or (take k s) i 0 - 48)) (drop (i + 1) (digits s)) ≡ value v (drop i (digits s))
    digit_read v = rw (digits_front, from (digits s) i (omega (arith, digit_before, digits_count))) refl

  pub digits_read : (i v : ℕ) → length (take k s) ≤ i → value v (drop i (digits s)) ≡ value 0 (digits s) → value 0 (digits s) ≡ v
  digits_read i v h e = sym e ∙ ap (value v) (drop_of_length-le (digits s) (omega (arith, ap length digits_front)))

-- 10 ^ i: one digit more, and at most seven
pub ten_more : (i : ℕ) → 10 ^ (i + 1) ≡ 10 ^ i * 10
ten_more i = rw (add-one, pow-suc)

pub ten_cap : (i : ℕ) → i ≤ 7 → 10 ^ i ≤ 10000000
ten_cap i h = pow-le-pow_right (lit< tt) h

pub number_is : (s : List ℕ) (k v : ℕ) → length (digits s) ≡ k → value 0 (digits s) ≡ v → proper k (get_or s 0 0) ≡ true → number_of s ≡ Some (v, k)
number_is s k v e f g = rw (e, f, g)

pub number_not : (s : List ℕ) (k : ℕ) → length (digits s) ≡ k → proper k (get_or s 0 0) ≡ false → number_of s ≡ None
number_not s k e g = rw (e, g)

-- the cases of `proper`
pub proper_none : (k d : ℕ) → k < 1 → proper k d ≡ false
proper_none k d h = rw (lt-leb 1 k h)

pub proper_long : (k d : ℕ) → 7 < k → proper k d ≡ false
proper_long k d h = rw (le-leb 1 k (omega arith), lt-leb k 7 h)

pub proper_zero : (k d : ℕ) → 1 ≤ k → k ≤ 1 → d ≡ 48 → proper k d ≡ true
proper_zero k d l h e = rw (le-leb 1 k l, le-leb k 7 (omega arith), eq-eqb d 48 e, le-leb k 1 h)

pub proper_zeros : (k d : ℕ) → k ≤ 7 → 1 < k → d ≡ 48 → proper k d ≡ false
proper_zeros k d l h e = rw (le-leb 1 k (omega arith), le-leb k 7 l, eq-eqb d 48 e, lt-leb k 1 h)

pub proper_other : (k d : ℕ) → 1 ≤ k → k ≤ 7 → (d ≡ 48 → ⊥) → proper k d ≡ true
proper_other k d l h e = rw (le-leb 1 k l, le-leb k 7 h, ne_eqb d 48 e)
