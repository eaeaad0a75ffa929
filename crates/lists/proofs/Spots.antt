-- The spot of a line is that along the one pattern which its first byte begins; a line that begins none is at fault at its first byte. Assumes nothing.
use Prim.Native.Nat.{ℕ, ◌+◌, ◌≤◌, ◌<◌}
use mathlib.Core.Path.{◌≡◌, refl, sym, ap, subst, ◌∙◌}
use mathlib.Core.List.{List, [], ◌∷◌}
use mathlib.Core.Bool.{Bool, true, false, cond, ◌||◌}
use mathlib.Core.Option.{Option, some}
use native.Mathlib.Omega.{arith}
use borrow.Author.Tests.{le-leb, lt-leb, eqb-true}
use lib.Dec.{T, eqb}
use Rattle.sets.specs.Lists.{greatest, better}
use Rattle.lines.specs.Words.{starts}
use Rattle.lists.specs.Shape.{c_word, p_word, e_word}
use Rattle.lists.specs.Expect.{Pieces, anything, takes, reach, permits, furthest, fault_in, spot_in, spelled, two_numbers, permitted, spot_of}
use Rattle.lists.specs.Pattern.{spot_from}
use Rattle.lists.specs.declared.Fault.TheVariants.{Line, Unended}
use Rattle.lists.proofs.PatternLaws.{spot_stuck}

-- the lines of a clash text
abbrev c_line : Pieces
c_line = spelled c_word (anything ∷ [])

abbrev p_line : Pieces
p_line = spelled p_word two_numbers

abbrev e_line : Pieces
e_line = spelled e_word two_numbers

-- a line that is not taken at all
abbrev Dead : List ℕ → Pieces → Type 0
Dead l g = (reach l g ≡ 0) × (takes l g ≡ false)

-- the line g is what the grammar gs sees in l
record Sees (gs : List Pieces) (l : List ℕ) (g : Pieces) : Type 0 where
  taken : permits gs l ≡ takes l g
  best : greatest (reach l) gs ≡ some g
  far : furthest gs l ≡ reach l g

sees_spot : (gs : List Pieces) (l : List ℕ) (g : Pieces) → Sees gs l g → spot_from 0 l g ≡ spot_in gs l
unfolding spot_from
sees_spot gs l g s =
    let z : 0 + reach l g + 1 ≡ furthest gs l + 1 = omega (arith, s.far) in
    ap (λ (k : ℕ). record { fault = cond (takes l g) Unended (fault_in (some g) l); column = k }) z
    ∙ ap (λ (o : Option Pieces). record { fault = cond (takes l g) Unended (fault_in o l); column = furthest gs l + 1 }) (sym s.best)
    ∙ ap (λ (b : Bool). record { fault = cond b Unended (fault_in (greatest (reach l) gs) l); column = furthest gs l + 1 }) (sym s.taken)

or_none : (b : Bool) → (b || (false || (false || false))) ≡ b
or_none true = refl
or_none false = refl

pick_one : (l : List ℕ) (g h : Pieces) → reach l h ≤ reach l g → better (reach l) g (some h) ≡ some g
pick_one l g h p = rw (le-leb (reach l h) (reach l g) p)

pick_other : (l : List ℕ) (g h : Pieces) → reach l g < reach l h → better (reach l) g (some h) ≡ some h
pick_other l g h p = rw (lt-leb (reach l h) (reach l g) p)

-- only one of three
module _ (g h i : Pieces) (l : List ℕ) where
  sees_first : Dead l h → Dead l i → Sees (g ∷ h ∷ i ∷ []) l g
  sees_first a b = record {
    taken = rw (a.1, b.1) (or_none (takes l g));
    best = ap (better (reach l) g) (pick_one l h i (omega (arith, a.0, b.0))) ∙ pick_one l g h (omega (arith, a.0));
    far = omega (arith, a.0, b.0);
  }

  sees_second : Dead l g → Dead l i → 0 < reach l h → Sees (g ∷ h ∷ i ∷ []) l h
  sees_second a b p = record {
    taken = rw (a.1, b.1) (or_none (takes l h));
    best = ap (better (reach l) g) (pick_one l h i (omega (arith, b.0))) ∙ pick_other l g h (omega (arith, a.0));
    far = omega (arith, a.0, b.0);
  }

  sees_third : Dead l g → Dead l h → 0 < reach l i → Sees (g ∷ h ∷ i ∷ []) l i
  sees_third a b p = record {
    taken = rw (a.1, b.1) (or_none (takes l i));
    best = ap (better (reach l) g) (pick_other l h i (omega (arith, b.0))) ∙ pick_other l g i (omega (arith, a.0));
    far = omega (arith, a.0, b.0);
  }

first_is : (x : ℕ) (l : List ℕ) → starts (x ∷ []) l ≡ true → (m : List ℕ) × (l ≡ x ∷ m)
first_is x [] e = absurd (subst T (sym e) tt)
first_is x (b ∷ l) e = go (eqb x b) refl e
  where
    go : (y : Bool) → eqb x b ≡ y → cond y true false ≡ true → (m : List ℕ) × (b ∷ l ≡ x ∷ m)
    go true d e = (l, ap (λ (z : ℕ). z ∷ l) (sym (eqb-true x b d)))
    go false d e = absurd (subst T (sym e) tt)

-- ---- by the first byte

pub spot_c : (l : List ℕ) → starts (99 ∷ []) l ≡ true → spot_from 0 l c_line ≡ spot_of l
unfolding spot_of
spot_c l e =
    let m = first_is 99 l e in
    subst (λ (x : List ℕ). spot_from 0 x c_line ≡ spot_in permitted x) (sym m.1)
    (sees_spot permitted (99 ∷ m.0) c_line (sees_first c_line p_line e_line (99 ∷ m.0) (refl, refl) (refl, refl)))

pub spot_p : (l : List ℕ) → starts (112 ∷ []) l ≡ true → spot_from 0 l p_line ≡ spot_of l
unfolding spot_of
spot_p l e =
    let m = first_is 112 l e in
    subst (λ (x : List ℕ). spot_from 0 x p_line ≡ spot_in permitted x) (sym m.1)
    (sees_spot permitted (112 ∷ m.0) p_line (sees_second c_line p_line e_line (112 ∷ m.0) (refl, refl) (refl, refl) (omega arith)))

pub spot_e : (l : List ℕ) → starts (101 ∷ []) l ≡ true → spot_from 0 l e_line ≡ spot_of l
unfolding spot_of
spot_e l e =
    let m = first_is 101 l e in
    subst (λ (x : List ℕ). spot_from 0 x e_line ≡ spot_in permitted x) (sym m.1)
    (sees_spot permitted (101 ∷ m.0) e_line (sees_third c_line p_line e_line (101 ∷ m.0) (refl, refl) (refl, refl) (omega arith)))

pub spot_none : (l : List ℕ) → starts (99 ∷ []) l ≡ false → starts (112 ∷ []) l ≡ false → starts (101 ∷ []) l ≡ false
    → spot_of l ≡ record { fault = Line; column = 1 }
unfolding spot_of
spot_none [] a b c = refl
spot_none (x ∷ l) a b c =
    let p = off 112 b in
    let e = off 101 c in
    sym (sees_spot permitted (x ∷ l) c_line (sees_first c_line p_line e_line (x ∷ l) (rw p, rw p) (rw e, rw e)))
    ∙ spot_stuck 0 x l c_line (rw (off 99 a))
  where
    off : (y : ℕ) → cond (eqb y x) true false ≡ false → eqb y x ≡ false
    off y = go (eqb y x)
      where
        go : (t : Bool) → cond t true false ≡ false → t ≡ false
        go true e = absurd (subst T e tt)
        go false e = refl
