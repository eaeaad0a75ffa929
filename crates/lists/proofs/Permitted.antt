-- The permitted lines are those whose shape is not bad (`permits_shaped`, for any comment word). So a line that is ended has a fault of shape exactly where
-- its shape is bad, and what is found in a permitted line is only that it lacks its line feed (`spot_whole` of Columns.antt).
--
--   shaped s : s is the shape of a permitted line
--
-- Assumes nothing.
use Prim.Native.Nat.{ℕ, zero, suc, ◌+◌, ◌≤◌, zero-le, suc-le-suc}
use mathlib.Core.Path.{◌≡◌, refl, sym, ap, subst, ◌∙◌}
use mathlib.Core.List.{List, [], ◌∷◌}
use mathlib.Core.Bool.{Bool, true, false, cond, ◌||◌}
use mathlib.Core.Logic.{◌↔◌}
use mathlib.Core.Option.{none, some}
use native.Mathlib.Nat.{le_of_suc-le-suc, not-suc-le-zero}
use native.Mathlib.Omega.{arith}
use borrow.Author.Tests.{le-leb, lt-leb, leb-true, leb-false, eqb-true, eqb-false, ne_eqb}
use lib.Dec.{T, leb, eqb, eqb→eq}
use lib.ListN.{length, drop, get_or}
use lib.Seq.{drop-drop}
use Rattle.sets.proofs.TestLaws.{T-ext, eqb_of}
use Rattle.std.specs.Prelude.{Option, None, Some, is_some}
use Rattle.lines.specs.Number.{digit, digits, value, proper}
use Rattle.lines.specs.Words.{starts, whole, alone_of, besides, second, pair_of}
use Rattle.lists.specs.Shape.{c_word, p_word, e_word, as_p, as_e, shape_with, shape_of}
use Rattle.lists.specs.declared.Shape.{Shape}
use Rattle.lists.specs.declared.Shape.TheVariants.{Comment}
use Rattle.lists.specs.Expect.{letter, space, number, more, anything, Pieces, next, ends?, onward, takes, permits, spelled, two_numbers, clash_lines, permitted}

abbrev pub shaped : Option Shape → Bool
shaped s = is_some s

-- ---- a word

next_spelled : (x : ℕ) (g : Pieces) (b : ℕ) → next (cond (eqb x 32) space (letter x) ∷ g) b ≡ cond (eqb x b) (some g) none
next_spelled x g b = go (eqb x 32) refl
  where
    go : (y : Bool) → eqb x 32 ≡ y → next (cond y space (letter x) ∷ g) b ≡ cond (eqb x b) (some g) none
    go true e = ap (λ (z : ℕ). cond (eqb z b) (some g) none) (sym (eqb-true x 32 e))
    go false e = refl

ends_spelled : (x : ℕ) (g : Pieces) → ends? (cond (eqb x 32) space (letter x) ∷ g) ≡ false
ends_spelled x g = go (eqb x 32)
  where
    go : (y : Bool) → ends? (cond y space (letter x) ∷ g) ≡ false
    go true = refl
    go false = refl

takes_spelled : (w : List ℕ) (l : List ℕ) (g : Pieces) → takes l (spelled w g) ≡ cond (starts w l) (takes (drop (length w) l) g) false
takes_spelled [] l g = refl
takes_spelled (x ∷ w) [] g = ends_spelled x (spelled w g)
takes_spelled (x ∷ w) (b ∷ l) g = ap (onward false (takes l)) (next_spelled x (spelled w g) b) ∙ go (eqb x b) (takes_spelled w l g)
  where
    go : (y : Bool) → takes l (spelled w g) ≡ cond (starts w l) (takes (drop (length w) l) g) false
        → onward false (takes l) (cond y (some (spelled w g)) none) ≡ cond (cond y (starts w l) false) (takes (drop (length w) l) g) false
    go true r = r
    go false r = refl

-- ---- a number

leb_suc : (a b : ℕ) → leb (suc a) (suc b) ≡ leb a b
leb_suc a b = go (leb a b) refl
  where
    go : (y : Bool) → leb a b ≡ y → leb (suc a) (suc b) ≡ y
    go true e = le-leb (suc a) (suc b) (suc-le-suc (leb-true a b e))
    go false e = lt-leb (suc a) (suc b) (suc-le-suc (leb-false a b e))

takes_more : (l : List ℕ) (k : ℕ) (g : Pieces) → takes l (more k ∷ g) ≡ cond (leb (length (digits l)) k) (takes (drop (length (digits l)) l) g) false
takes_more [] k g = rw (le-leb 0 k zero-le)
takes_more (b ∷ l) zero g = go (digit b)
  where
    go : (d : Bool) → onward false (takes l) (cond d none (next g b))
        ≡ cond (leb (length (cond d (b ∷ digits l) [])) 0) (takes (drop (length (cond d (b ∷ digits l) [])) (b ∷ l)) g) false
    go true = rw (lt-leb (suc (length (digits l))) 0 (suc-le-suc zero-le))
    go false = refl
takes_more (b ∷ l) (suc k) g = go (digit b) (takes_more l k g)
  where
    go : (d : Bool) → takes l (more k ∷ g) ≡ cond (leb (length (digits l)) k) (takes (drop (length (digits l)) l) g) false
        → onward false (takes l) (cond d (some (more k ∷ g)) (next g b))
        ≡ cond (leb (length (cond d (b ∷ digits l) [])) (suc k)) (takes (drop (length (cond d (b ∷ digits l) [])) (b ∷ l)) g) false
    go true r = rw (leb_suc (length (digits l)) k) r
    go false r = rw (le-leb 0 (suc k) zero-le)

proper_is : (n b : ℕ) → leb n (cond (eqb b 48) 0 6) ≡ proper (suc n) b
proper_is n b = rw (le-leb 1 (suc n) (suc-le-suc zero-le)) (go (eqb b 48))
  where
    low : leb n 0 ≡ cond (leb (suc n) 7) (leb (suc n) 1) false
    low = tidy (leb n 0) refl
      where
        tidy : (y : Bool) → leb n 0 ≡ y → y ≡ cond (leb (suc n) 7) (leb (suc n) 1) false
        tidy true e = let h = leb-true n 0 e in sym (rw (le-leb (suc n) 7 (omega arith), le-leb (suc n) 1 (omega arith)))
        tidy false e = let h = leb-false n 0 e in sym (rw (lt-leb (suc n) 1 (omega arith)) (same (leb (suc n) 7)))
          where
            same : (z : Bool) → cond z false false ≡ false
            same true = refl
            same false = refl

    go : (y : Bool) → leb n (cond y 0 6) ≡ cond (leb (suc n) 7) (cond y (leb (suc n) 1) true) false
    go true = low
    go false = sym (leb_suc n 6) ∙ back (leb (suc n) 7)
      where
        back : (z : Bool) → z ≡ cond z true false
        back true = refl
        back false = refl

takes_number : (l : List ℕ) (g : Pieces) → takes l (number ∷ g) ≡ cond (proper (length (digits l)) (get_or l 0 0))
    (takes (drop (length (digits l)) l) g) false
takes_number [] g = refl
takes_number (b ∷ l) g = go (digit b)
  where
    go : (d : Bool) → onward false (takes l) (cond d (some (more (cond (eqb b 48) 0 6) ∷ g)) none)
        ≡ cond (proper (length (cond d (b ∷ digits l) [])) b) (takes (drop (length (cond d (b ∷ digits l) [])) (b ∷ l)) g) false
    go true =
        takes_more l (cond (eqb b 48) 0 6) g ∙ ap (λ (y : Bool). cond y (takes (drop (length (digits l)) l) g) false)
        (proper_is (length (digits l)) b)
    go false = refl

-- ---- one number, and two

digits_le : (l : List ℕ) → length (digits l) ≤ length l
digits_le [] = zero-le
digits_le (b ∷ l) = go (digit b) (digits_le l)
  where
    go : (d : Bool) → length (digits l) ≤ length l → length (cond d (b ∷ digits l) []) ≤ suc (length l)
    go true r = suc-le-suc r
    go false r = zero-le

takes_end : (n : ℕ) (l : List ℕ) → n ≤ length l → takes (drop n l) [] ≡ eqb n (length l)
takes_end zero [] h = refl
takes_end zero (b ∷ l) h = sym (ne_eqb 0 (suc (length l)) (λ e. omega arith))
takes_end (suc n) [] h = absurd (not-suc-le-zero h)
takes_end (suc n) (b ∷ l) h =
    takes_end n l (le_of_suc-le-suc h) ∙ T-ext (eqb n (length l)) (eqb (suc n) (suc (length l)))
    (λ t. eqb_of (suc n) (suc (length l)) (ap suc (eqb→eq n (length l) t))) (λ t. let e = eqb→eq (suc n) (suc (length l)) t in
    eqb_of n (length l) (omega arith))

takes_alone : (l : List ℕ) → takes l (number ∷ []) ≡ is_some (alone_of l)
takes_alone l = takes_number l [] ∙ go (proper (length (digits l)) (get_or l 0 0))
  where
    lone : (y : Bool) → y ≡ is_some (cond y (Some (value 0 (digits l))) None)
    lone true = refl
    lone false = refl

    go : (y : Bool) → cond y (takes (drop (length (digits l)) l) []) false ≡ is_some (whole l (cond y (Some (value 0 (digits l), length (digits l))) None))
    go true = takes_end (length (digits l)) l (digits_le l) ∙ lone (eqb (length (digits l)) (length l))
    go false = refl

space_at : (n : ℕ) (l : List ℕ) → starts (32 ∷ []) (drop n l) ≡ eqb (get_or l n 0) 32
space_at zero [] = refl
space_at zero (b ∷ l) = go (eqb b 32) refl
  where
    go : (y : Bool) → eqb b 32 ≡ y → cond (eqb 32 b) true false ≡ y
    go true e = rw (eqb-true b 32 e)
    go false e = rw (ne_eqb 32 b (λ z. eqb-false b 32 e (sym z)))
space_at (suc n) [] = refl
space_at (suc n) (b ∷ l) = space_at n l

takes_pair : (l : List ℕ) → takes l two_numbers ≡ is_some (pair_of l)
takes_pair l = takes_number l (space ∷ number ∷ []) ∙ go (proper (length (digits l)) (get_or l 0 0))
  where
    k : ℕ
    k = length (digits l)

    beside : (u : ℕ) (a : Option ℕ) → is_some a ≡ is_some (besides u a)
    beside u (Some v) = refl
    beside u None = refl

    gap : (y : Bool) (u : ℕ) (x : List ℕ) → cond y (takes x (number ∷ [])) false ≡ is_some (cond y (besides u (alone_of x)) None)
    gap true u x = takes_alone x ∙ beside u (alone_of x)
    gap false u x = refl

    go : (y : Bool) → cond y (takes (drop (length (digits l)) l) (space ∷ number ∷ [])) false ≡ is_some
        (second l (cond y (Some (value 0 (digits l), length (digits l))) None))
    go true =
        takes_spelled (32 ∷ []) (drop (length (digits l)) l) (number ∷ [])
        ∙ ap (λ (x : List ℕ). cond (starts (32 ∷ []) (drop (length (digits l)) l)) (takes x (number ∷ [])) false) (drop-drop 1 (length (digits l)) l)
        ∙ ap (λ (y : Bool). cond y (takes (drop (length (digits l) + 1) l) (number ∷ [])) false) (space_at (length (digits l)) l)
        ∙ gap (eqb (get_or l (length (digits l)) 0) 32) (value 0 (digits l)) (drop (length (digits l) + 1) l)
    go false = refl

-- ---- the lines of a clash text

takes_anything : (l : List ℕ) → takes l (anything ∷ []) ≡ true
takes_anything [] = refl
takes_anything (b ∷ l) = takes_anything l

p_not_e : (l : List ℕ) → starts p_word l ≡ true → starts e_word l ≡ false
p_not_e [] h = refl
p_not_e (b ∷ l) h = go (eqb 112 b) refl h
  where
    go : (y : Bool) → eqb 112 b ≡ y → cond y (starts (32 ∷ 101 ∷ 100 ∷ 103 ∷ 101 ∷ 32 ∷ []) l) false ≡ true
        → cond (eqb 101 b) (starts (32 ∷ []) l) false ≡ false
    go true e h = rw (← eqb-true 112 b e)
    go false e h = absurd (subst T (sym h) tt)

pub permits_shaped : (c l : List ℕ) → permits (clash_lines c) l ≡ shaped (shape_with c l)
permits_shaped c l =
    ap (λ (y : Bool). y || (takes l (spelled p_word two_numbers) || (takes l (spelled e_word two_numbers) || false)))
    (takes_spelled c l (anything ∷ []) ∙ ap (λ (y : Bool). cond (starts c l) y false) (takes_anything (drop (length c) l)))
    ∙ ap (λ (y : Bool). cond (starts c l) true false || (y || (takes l (spelled e_word two_numbers) || false)))
    (takes_spelled p_word l two_numbers ∙ ap (λ (y : Bool). cond (starts p_word l) y false) (takes_pair (drop 7 l)))
    ∙ ap (λ (y : Bool). cond (starts c l) true false || (cond (starts p_word l) (is_some (pair_of (drop 7 l))) false || (y || false)))
    (takes_spelled e_word l two_numbers ∙ ap (λ (y : Bool). cond (starts e_word l) y false) (takes_pair (drop 2 l)))
    ∙ go (starts c l) (starts p_word l) (starts e_word l) (p_not_e l) (pair_of (drop 7 l)) (pair_of (drop 2 l))
  where
    go : (x y z : Bool) → (y ≡ true → z ≡ false) → (p q : Option (ℕ × ℕ))
        → (cond x true false || (cond y (is_some p) false || (cond z (is_some q) false || false))) ≡ shaped
        (cond x (Some Comment) (cond y (as_p p) (cond z (as_e q) None)))
    go true y z h p q = refl
    go false true z h (Some x) q = refl
    go false true z h None q = ap (λ (w : Bool). cond w (is_some q) false || false) (h refl)
    go false false true h p (Some x) = refl
    go false false true h p None = refl
    go false false false h p q = refl

pub permitted_shaped : (l : List ℕ) → permits permitted l ≡ shaped (shape_of l)
permitted_shaped = permits_shaped c_word

-- a line is of a permitted shape or of none, and so permitted or not
pub permitted_bad : (l : List ℕ) → (permits permitted l ≡ false) ↔ (shape_of l ≡ None)
permitted_bad l = (λ e. bad (shape_of l) (sym (permitted_shaped l) ∙ e), λ e. permitted_shaped l ∙ ap shaped e)
  where
    bad : (s : Option Shape) → shaped s ≡ false → s ≡ None
    bad None e = refl
    bad (Some s) e = absurd (subst T e tt)
