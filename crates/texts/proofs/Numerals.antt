-- Reading undone: a number that is read is the number's numeral, and a line the word and the numeral. (Laws of `lines` and `sheets`.)
use Prim.Native.Nat.{ℕ, zero, suc, ◌+◌, ◌-◌, ◌*◌, ◌/◌, ◌%◌, ◌≤◌}
use mathlib.Core.Path.{◌≡◌, refl, sym, ap, subst, ◌∙◌}
use mathlib.Core.List.{List, [], ◌∷◌, ◌++◌}
use mathlib.Core.Bool.{Bool, true, false, cond}
use native.Mathlib.Omega.{arith}
use borrow.Author.Tests.{le-leb, lt-leb, leb-true, eqb-true, eqb-false}
use lib.Dec.{T, leb, eqb}
use lib.ListN.{length, get_or, drop, length-append}
use Rattle.std.specs.Prelude.{None, Some}
use Rattle.lines.specs.Number.{digits, value, proper}
use Rattle.lines.specs.Words.{starts, whole, alone_of}
use Rattle.lines.specs.Numeral.{decimal, numeral}
use Rattle.sheets.specs.Check.{behind_of}

-- ---- numbers

abbrev Digits : List ℕ → Type 0
Digits [] = Unit {0}
Digits (b ∷ s) = (48 ≤ b) × (b ≤ 57) × Digits s

-- digits all along
all_digits : (s : List ℕ) → length (digits s) ≡ length s → (digits s ≡ s) × Digits s
all_digits [] h = (refl, tt)
all_digits (b ∷ s) h = go (leb 48 b) refl (leb b 57) refl h (all_digits s)
  where
    go : (x : Bool) → leb 48 b ≡ x → (y : Bool) → leb b 57 ≡ y → length (cond (cond x y false) (b ∷ digits s) []) ≡ suc (length s)
        → (length (digits s) ≡ length s → (digits s ≡ s) × Digits s)
        → (cond (cond x y false) (b ∷ digits s) [] ≡ b ∷ s) × Digits (b ∷ s)
    go true e true f h i = let r = i (omega arith) in (ap (λ (l : List ℕ). b ∷ l) r.0, (leb-true 48 b e, leb-true b 57 f, r.1))
    go true e false f h i = absurd (omega arith)
    go false e y f h i = absurd (omega arith)

value_snoc : (v : ℕ) (xs : List ℕ) (d : ℕ) → value v (xs ++ d ∷ []) ≡ value v xs * 10 + (d - 48)
value_snoc v [] d = refl
value_snoc v (x ∷ xs) d = value_snoc (v * 10 + (x - 48)) xs d

value_least : (v : ℕ) (xs : List ℕ) → v ≤ value v xs
value_least v [] = omega arith
value_least v (x ∷ xs) = let h = value_least (v * 10 + (x - 48)) xs in omega arith

record Snoc (l : List ℕ) : Type 0 where
  front : List ℕ
  last : ℕ
  whole : l ≡ front ++ last ∷ []

snoc : (x : ℕ) (l : List ℕ) → Snoc (x ∷ l)
snoc x [] = record { front = []; last = x; whole = refl }
snoc x (y ∷ l) = let r = snoc y l in record { front = x ∷ r.front; last = r.last; whole = ap (λ (k : List ℕ). x ∷ k) r.whole }

digits_front : (xs : List ℕ) (d : ℕ) → Digits (xs ++ d ∷ []) → Digits xs × (48 ≤ d) × (d ≤ 57)
digits_front [] d h = (tt, h.0, h.1)
digits_front (x ∷ xs) d h = let r = digits_front xs d h.2 in ((h.0, h.1, r.0), r.1, r.2)

-- the first of two digits or more is not 0
abbrev Led : List ℕ → Type 0
Led [] = Unit {0}
Led (x ∷ []) = Unit {0}
Led (x ∷ (y ∷ l)) = 49 ≤ x

led_front : (xs : List ℕ) (d : ℕ) → Led (xs ++ d ∷ []) → Led xs
led_front [] d h = tt
led_front (x ∷ []) d h = tt
led_front (x ∷ (y ∷ xs)) d h = h

decimal_of : (f : ℕ) (s : List ℕ) → 1 ≤ length s → length s ≤ f → Digits s → Led s → decimal f (value 0 s) ≡ s
decimal_of zero s l h d g = absurd (omega arith)
decimal_of (suc f) [] l h d g = absurd (omega arith)
decimal_of (suc f) (x ∷ s) l h d g =
    let r = snoc x s in
    subst (λ (k : List ℕ). decimal (suc f) (value 0 k) ≡ k) (sym r.whole)
    (go r.front r.last (subst Digits r.whole d) (subst Led r.whole g) (subst (λ (k : List ℕ). length k ≤ suc f) r.whole h) (decimal_of f r.front))
  where
    go : (xs : List ℕ) (d : ℕ) → Digits (xs ++ d ∷ []) → Led (xs ++ d ∷ []) → length (xs ++ d ∷ []) ≤ suc f
        → (1 ≤ length xs → length xs ≤ f → Digits xs → Led xs → decimal f (value 0 xs) ≡ xs)
        → decimal (suc f) (value 0 (xs ++ d ∷ [])) ≡ xs ++ d ∷ []
    go [] d a b h r = let z : 48 + (0 * 10 + (d - 48)) ≡ d = omega (arith, a.0) in rw (lt-leb 10 (0 * 10 + (d - 48)) (omega (arith, a.1)), z)
    go (y ∷ ys) d a b h r =
        let q = digits_front (y ∷ ys) d a in
        let lo = q.1 in
        let hi = q.2 in
        let v = value 0 (y ∷ ys) in
        let e : value 0 ((y ∷ ys) ++ d ∷ []) ≡ v * 10 + (d - 48) = value_snoc 0 (y ∷ ys) d in
        let big : 1 ≤ v = let m = value_least (0 * 10 + (y - 48)) ys in omega (arith, head ys y d b) in
        let c : (v * 10 + (d - 48)) / 10 ≡ v = omega arith in
        let m : 48 + (v * 10 + (d - 48)) % 10 ≡ d = omega arith in
        let i = r (omega arith) (omega (arith, length-append (y ∷ ys) (d ∷ []))) q.0 (led_front (y ∷ ys) d b) in
        ap (decimal (suc f)) e ∙ rw (le-leb 10 (v * 10 + (d - 48)) (omega arith), c, m, i)
      where
        head : (ys : List ℕ) (y d : ℕ) → Led (y ∷ (ys ++ d ∷ [])) → 49 ≤ y
        head [] y d h = h
        head (z ∷ ys) y d h = h

above : {x : ℕ} → 48 ≤ x → (x ≡ 48 → ⊥) → 49 ≤ x
above l h = omega arith

proper_led : (s : List ℕ) → proper (length s) (get_or s 0 0) ≡ true → Digits s → (1 ≤ length s) × (length s ≤ 7) × Led s
proper_led [] e d = absurd (subst T (sym e) tt)
proper_led (x ∷ []) e d = (omega arith, omega arith, tt)
proper_led (x ∷ (y ∷ s)) e d =
    let k = suc (suc (length s)) in
    go (leb 1 k) (leb k 7) refl (eqb x 48) refl (leb k 1) (lt-leb k 1 (omega arith)) e
  where
    go : (z a : Bool) → leb (suc (suc (length s))) 7 ≡ a → (b : Bool) → eqb x 48 ≡ b → (c : Bool) → c ≡ false → cond z (cond a (cond b c true) false) false ≡ true
        → (1 ≤ suc (suc (length s))) × (suc (suc (length s)) ≤ 7) × (49 ≤ x)
    go true true e true f c g h = absurd (subst T (sym h ∙ g) tt)
    go true true e false f c g h = (omega arith, leb-true _ _ e, above d.0 (eqb-false x 48 f))
    go true false e b f c g h = absurd (subst T (sym h) tt)
    go false a e b f c g h = absurd (subst T (sym h) tt)

-- what is a number and nothing else is the number's numeral
pub alone_numeral : (s : List ℕ) (v : ℕ) → alone_of s ≡ Some v → s ≡ numeral v
unfolding numeral
alone_numeral s v e = go (proper (length (digits s)) (get_or s 0 0)) refl e
  where
    lone : (u k : ℕ) → (b : Bool) → eqb k (length s) ≡ b → cond b (Some u) None ≡ Some v → (u ≡ v) × (k ≡ length s)
    lone u k true f e = (cc, eqb-true k (length s) f)
    lone u k false f e = let z : ◌≡◌ {A = ℕ} 0 1 = cc in absurd (omega arith)

    go : (b : Bool) → proper (length (digits s)) (get_or s 0 0) ≡ b → whole s (cond b (Some (value 0 (digits s), length (digits s))) None) ≡ Some v → s ≡ decimal 7 v
    go true p e =
        let a = lone (value 0 (digits s)) (length (digits s)) (eqb (length (digits s)) (length s)) refl e in
        let d = all_digits s a.1 in
        let q = proper_led s (subst (λ (k : ℕ). proper k (get_or s 0 0) ≡ true) a.1 p) d.1 in
        sym (ap (decimal 7) (sym a.0 ∙ ap (value 0) d.0) ∙ decimal_of 7 s q.0 q.1 d.1 q.2)
    go false p e = let z : ◌≡◌ {A = ℕ} 0 1 = cc in absurd (omega arith)

starts_is : (w s : List ℕ) → starts w s ≡ true → s ≡ w ++ drop (length w) s
starts_is [] s e = refl
starts_is (x ∷ w) [] e = absurd (subst T (sym e) tt)
starts_is (x ∷ w) (b ∷ s) e = go (eqb x b) refl e (starts_is w s)
  where
    go : (y : Bool) → eqb x b ≡ y → cond y (starts w s) false ≡ true → (starts w s ≡ true → s ≡ w ++ drop (length w) s) → b ∷ s ≡ x ∷ (w ++ drop (length w) s)
    go true f h i = let z : b ≡ x = sym (eqb-true x b f) in ap (λ (y : ℕ). y ∷ s) z ∙ ap (λ (l : List ℕ). x ∷ l) (i h)
    go false f h i = absurd (subst T (sym h) tt)

-- a word and a number are the word and the number's numeral
pub behind_numeral : (w l : List ℕ) (v : ℕ) → behind_of w l ≡ Some v → l ≡ w ++ numeral v
behind_numeral w l v e = go (starts w l) refl e
  where
    go : (b : Bool) → starts w l ≡ b → cond b (alone_of (drop (length w) l)) None ≡ Some v → l ≡ w ++ numeral v
    go true f h = starts_is w l f ∙ ap (λ (k : List ℕ). w ++ k) (alone_numeral (drop (length w) l) v h)
    go false f h = let z : ◌≡◌ {A = ℕ} 0 1 = cc in absurd (omega arith)
