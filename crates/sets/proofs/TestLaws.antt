-- Laws of tests: what passes, what fails, and tests over 0 to n - 1. Assumes nothing.
use mathlib.Core.Path.{◌≡◌, refl, sym, subst}
use mathlib.Core.Logic.{◌⊎◌, inl, inr}
use mathlib.Core.Bool.{Bool, true, false, not, ◌&&◌, ◌||◌}
use Prim.Native.Nat.{ℕ, zero, suc, ◌+◌, ◌≤◌, ◌<◌}
use native.Mathlib.Nat.{not-suc-le-zero}
use native.Mathlib.Decide.{ℕ_discrete}
use native.Mathlib.Omega.{arith}
use lib.Dec.{T, eqb, eqb_refl, eqb→eq}
use borrow.Author.Tests.{eq-eqb}
use Rattle.sets.specs.Lists.{bit, all, any}

pub and_l : (a b : Bool) → T (a && b) → T a
and_l true b t = tt
and_l false b t = t

pub and_r : (a b : Bool) → T (a && b) → T b
and_r true b t = t
and_r false b t = absurd t

pub and_t : (a b : Bool) → T a → T b → T (a && b)
and_t true b t u = u
and_t false b t u = t

pub and_true : (a : Bool) → (a && true) ≡ a
and_true true = refl
and_true false = refl

pub and_turn : (a b : Bool) → (a && b) ≡ (b && a)
and_turn true b = sym (and_true b)
and_turn false true = refl
and_turn false false = refl

pub or_false : (a : Bool) → (a || false) ≡ a
or_false true = refl
or_false false = refl

pub or_turn : (a b : Bool) → (a || b) ≡ (b || a)
or_turn true true = refl
or_turn true false = refl
or_turn false b = sym (or_false b)

pub or_assoc : (a b c : Bool) → (a || (b || c)) ≡ ((a || b) || c)
or_assoc true b c = refl
or_assoc false b c = refl

pub or_l : (a b : Bool) → T a → T (a || b)
or_l true b t = tt
or_l false b t = absurd t

pub or_r : (a b : Bool) → T b → T (a || b)
or_r true b t = tt
or_r false b t = t

pub or_cases : (a b : Bool) → T (a || b) → T a ⊎ T b
or_cases true b t = inl tt
or_cases false b t = inr t

pub not_t : (a : Bool) → ¬ T a → T (not a)
not_t true f = absurd (f tt)
not_t false f = tt

pub t_not : (a : Bool) → T (not a) → ¬ T a
t_not true t u = t
t_not false t u = u

-- a test that passes is true, one that fails is false
pub T→true : (b : Bool) → T b → b ≡ true
T→true true t = refl
T→true false t = absurd t

pub T→false : (b : Bool) → ¬ T b → b ≡ false
T→false true f = absurd (f tt)
T→false false f = refl

-- two tests that say the same are equal
pub T-ext : (a b : Bool) → (T a → T b) → (T b → T a) → a ≡ b
T-ext true true f g = refl
T-ext true false f g = absurd (f tt)
T-ext false true f g = absurd (g tt)
T-ext false false f g = refl

pub eqb_of : (m k : ℕ) → m ≡ k → T (eqb m k)
eqb_of m k e = subst (λ (x : ℕ). T (eqb m x)) e (eqb_refl m)

pub eqb_same : (x : ℕ) → eqb x x ≡ true
eqb_same x = eq-eqb x x refl

pub eqb_turn : (m k : ℕ) → eqb m k ≡ eqb k m
eqb_turn m k = T-ext (eqb m k) (eqb k m) (λ t. eqb_of k m (sym (eqb→eq m k t))) (λ t. eqb_of m k (sym (eqb→eq k m t)))

pub bit_few : (b : Bool) → bit b ≤ 1
bit_few true = omega arith
bit_few false = omega arith

pub bit_one : (b : Bool) → T b → bit b ≡ 1
bit_one true t = refl
bit_one false t = absurd t

pub bit_zero : (b : Bool) → ¬ T b → bit b ≡ 0
bit_zero true t = absurd (t tt)
bit_zero false t = refl

pub T? : (b : Bool) → Dec (T b)
T? true = yes tt
T? false = no (λ t. t)

-- two tests that say the same count the same
pub bit_iff : (a b : Bool) → (T a → T b) → (T b → T a) → bit a ≡ bit b
bit_iff true true f g = refl
bit_iff true false f g = absurd (f tt)
bit_iff false true f g = absurd (g tt)
bit_iff false false f g = refl

-- a test that passes just where one of two passes, which never pass together
pub bit_split : (a b c : Bool) → (T b → T a) → (T c → T a) → (T b → T c → ⊥) → (T a → T b ⊎ T c) → bit a ≡ bit b + bit c
bit_split true true true f g x s = absurd (x tt tt)
bit_split true true false f g x s = refl
bit_split true false true f g x s = refl
bit_split true false false f g x s = elim (s tt) [ inl t ↦ absurd t | inr t ↦ absurd t ]
bit_split false true c f g x s = absurd (f tt)
bit_split false false true f g x s = absurd (g tt)
bit_split false false false f g x s = refl

pub all_get : (n : ℕ) (p : ℕ → Bool) → T (all n p) → (i : ℕ) → i < n → T (p i)
all_get zero p t i h = absurd (not-suc-le-zero h)
all_get (suc n) p t i h = go (ℕ_discrete i n) (λ k. all_get n p (and_l (all n p) (p n) t) i k)
  where
    go : Dec (i ≡ n) → (i < n → T (p i)) → T (p i)
    go (yes e) k = rw e (and_r (all n p) (p n) t)
    go (no q) k = k (omega arith)

pub all_make : (n : ℕ) (p : ℕ → Bool) → ((i : ℕ) → i < n → T (p i)) → T (all n p)
all_make zero p f = tt
all_make (suc n) p f = and_t (all n p) (p n) (all_make n p (λ i h. f i (omega arith))) (f n (omega arith))

-- what `any` says
pub any_make : (n : ℕ) (p : ℕ → Bool) (i : ℕ) → i < n → T (p i) → T (any n p)
any_make zero p i h t = absurd (not-suc-le-zero h)
any_make (suc n) p i h t = go (ℕ_discrete i n) (λ l. any_make n p i l t)
  where
    go : Dec (i ≡ n) → (i < n → T (any n p)) → T (any n p || p n)
    go (yes e) r = or_r (any n p) (p n) (subst (λ (z : ℕ). T (p z)) e t)
    go (no d) r = or_l (any n p) (p n) (r (omega arith))

pub any_get : (n : ℕ) (p : ℕ → Bool) → T (any n p) → (i : ℕ) × (i < n) × T (p i)
any_get zero p t = absurd t
any_get (suc n) p t = go (or_cases (any n p) (p n) t) (any_get n p)
  where
    go : T (any n p) ⊎ T (p n) → (T (any n p) → (i : ℕ) × (i < n) × T (p i)) → (i : ℕ) × (i < suc n) × T (p i)
    go (inl t) r = let x = r t in (x.0, omega arith, x.2)
    go (inr t) r = (n, omega arith, t)
