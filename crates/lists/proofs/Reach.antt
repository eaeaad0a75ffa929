-- How far a line can be followed: so far it begins a line that is expected, and no further.
--
--   Fit g       : behind a number comes a space or the end; so that what is expected can always be met
--   finishing g : bytes that meet g
use Prim.Native.Nat.{ℕ, zero, suc, ◌≤◌, ◌<◌, zero-le, suc-le-suc}
use mathlib.Core.Path.{◌≡◌, refl, sym, ap, subst, ◌∙◌}
use mathlib.Core.List.{List, [], ◌∷◌, ◌++◌}
use mathlib.Core.Bool.{Bool, true, false, cond}
use mathlib.Core.Option.{Option, none, some}
use native.Mathlib.Nat.{le_of_suc-le-suc, not-suc-le-zero}
use native.Mathlib.Omega.{arith}
use lib.Dec.{T, eqb}
use lib.ListN.{length, take, get_or}
use Rattle.sets.proofs.TestLaws.{eqb_same}
use Rattle.lines.specs.Number.{digit}
use Rattle.lists.specs.Expect.{letter, space, number, more, anything, Pieces, next, ends?, onward, takes, follow, reach, left}

abbrev Closed : Pieces → Type 0
Closed [] = Unit {0}
Closed (letter x ∷ g) = ⊥
Closed (space ∷ g) = Unit {0}
Closed (number ∷ g) = ⊥
Closed (more k ∷ g) = ⊥
Closed (anything ∷ g) = ⊥

abbrev pub Fit : Pieces → Type 0
Fit [] = Unit {0}
Fit (letter x ∷ g) = Fit g
Fit (space ∷ g) = Fit g
Fit (number ∷ g) = Closed g × Fit g
Fit (more k ∷ g) = Closed g × Fit g
Fit (anything ∷ g) = Unit {0}

abbrev finishing : Pieces → List ℕ
finishing [] = []
finishing (letter x ∷ g) = x ∷ finishing g
finishing (space ∷ g) = 32 ∷ finishing g
finishing (number ∷ g) = 48 ∷ finishing g
finishing (more k ∷ g) = finishing g
finishing (anything ∷ g) = []

closed_takes : (g : Pieces) (k : ℕ) → Closed g → T (takes (finishing g) g) → T (takes (finishing g) (more k ∷ g))
closed_takes [] k c h = h
closed_takes (letter x ∷ g) k c h = absurd c
closed_takes (space ∷ g) zero c h = h
closed_takes (space ∷ g) (suc k) c h = h
closed_takes (number ∷ g) k c h = absurd c
closed_takes (more j ∷ g) k c h = absurd c
closed_takes (anything ∷ g) k c h = absurd c

finished : (g : Pieces) → Fit g → T (takes (finishing g) g)
finished [] f = tt
finished (letter x ∷ g) f = rw (eqb_same x) (finished g f)
finished (space ∷ g) f = finished g f
finished (number ∷ g) f = closed_takes g 0 f.0 (finished g f.1)
finished (more k ∷ g) f = closed_takes g k f.0 (finished g f.1)
finished (anything ∷ g) f = tt

abbrev FitNext : Option Pieces → Type 0
FitNext none = Unit {0}
FitNext (some g) = Fit g

next_fit : (g : Pieces) (b : ℕ) → Fit g → FitNext (next g b)
next_fit [] b f = tt
next_fit (letter x ∷ g) b f = go (eqb x b)
  where
    go : (y : Bool) → FitNext (cond y (some g) none)
    go true = f
    go false = tt
next_fit (space ∷ g) b f = go (eqb 32 b)
  where
    go : (y : Bool) → FitNext (cond y (some g) none)
    go true = f
    go false = tt
next_fit (number ∷ g) b f = go (digit b)
  where
    go : (y : Bool) → FitNext (cond y (some (more (cond (eqb b 48) 0 6) ∷ g)) none)
    go true = f
    go false = tt
next_fit (more zero ∷ g) b f = go (digit b) (next_fit g b f.1)
  where
    go : (y : Bool) → FitNext (next g b) → FitNext (cond y none (next g b))
    go true r = tt
    go false r = r
next_fit (more (suc k) ∷ g) b f = go (digit b) (next_fit g b f.1)
  where
    go : (y : Bool) → FitNext (next g b) → FitNext (cond y (some (more k ∷ g)) (next g b))
    go true r = f
    go false r = r
next_fit (anything ∷ g) b f = f

pub reach_le : (l : List ℕ) (g : Pieces) → reach l g ≤ length l
reach_le [] g = zero-le
reach_le (b ∷ l) g = go (next g b) (reach_le l)
  where
    go : (o : Option Pieces) → ((h : Pieces) → reach l h ≤ length l) → onward 0 (λ h. suc (reach l h)) o ≤ suc (length l)
    go none r = zero-le
    go (some h) r = suc-le-suc (r h)

-- so far it begins what is expected
pub reach_begins : (l : List ℕ) (g : Pieces) → Fit g → (y : List ℕ) × T (takes (take (reach l g) l ++ y) g)
reach_begins [] g f = (finishing g, finished g f)
reach_begins (b ∷ l) g f = go (next g b) refl (next_fit g b f) (reach_begins l)
  where
    go : (o : Option Pieces) → next g b ≡ o → FitNext o → ((h : Pieces) → Fit h → (y : List ℕ) × T (takes (take (reach l h) l ++ y) h))
        → (y : List ℕ) × T (takes (take (onward 0 (λ h. suc (reach l h)) o) (b ∷ l) ++ y) g)
    go none e i r = (finishing g, finished g f)
    go (some h) e i r =
        let q = r h i in
        (q.0, subst (λ (o : Option Pieces). T (onward false (takes (take (reach l h) l ++ q.0)) o)) (sym e) q.1)

-- and no further
pub reach_most : (l : List ℕ) (k : ℕ) (y : List ℕ) (g : Pieces) → k ≤ length l → T (takes (take k l ++ y) g) → k ≤ reach l g
reach_most l zero y g h t = zero-le
reach_most [] (suc k) y g h t = absurd (not-suc-le-zero h)
reach_most (b ∷ l) (suc k) y g h t = go (next g b) t (λ i. reach_most l k y i (le_of_suc-le-suc h))
  where
    go : (o : Option Pieces) → T (onward false (takes (take k l ++ y)) o) → ((i : Pieces) → T (takes (take k l ++ y) i) → k ≤ reach l i)
        → suc k ≤ onward 0 (λ h. suc (reach l h)) o
    go none t r = absurd t
    go (some i) t r = suc-le-suc (r i t)

-- what is expected there is what following them leaves
pub reach_follow : (l : List ℕ) (g : Pieces) → follow (take (reach l g) l) g ≡ some (left l g)
reach_follow [] g = refl
reach_follow (b ∷ l) g = go (next g b) refl (reach_follow l)
  where
    go : (o : Option Pieces) → next g b ≡ o → ((h : Pieces) → follow (take (reach l h) l) h ≡ some (left l h))
        → follow (take (onward 0 (λ h. suc (reach l h)) o) (b ∷ l)) g ≡ some (onward g (left l) o)
    go none e r = refl
    go (some h) e r = ap (onward none (follow (take (reach l h) l))) e ∙ r h

-- all of a line that is taken
pub takes_reach : (l : List ℕ) (g : Pieces) → T (takes l g) → reach l g ≡ length l
takes_reach [] g t = refl
takes_reach (b ∷ l) g t = go (next g b) t (takes_reach l)
  where
    go : (o : Option Pieces) → T (onward false (takes l) o) → ((i : Pieces) → T (takes l i) → reach l i ≡ length l)
        → onward 0 (λ h. suc (reach l h)) o ≡ suc (length l)
    go none t r = absurd t
    go (some i) t r = ap suc (r i t)

-- what is expected behind some bytes is just what may follow them
pub follow_takes : (x y : List ℕ) (g h : Pieces) → follow x g ≡ some h → takes (x ++ y) g ≡ takes y h
follow_takes [] y g h e = let z : g ≡ h = cc in ap (takes y) z
follow_takes (b ∷ x) y g h e = go (next g b) e (λ i. follow_takes x y i h)
  where
    go : (o : Option Pieces) → onward none (follow x) o ≡ some h → ((i : Pieces) → follow x i ≡ some h → takes (x ++ y) i ≡ takes y h)
        → onward false (takes (x ++ y)) o ≡ takes y h
    go none e r = let z : ◌≡◌ {A = ℕ} 0 1 = cc in absurd (omega arith)
    go (some i) e r = r i e

-- the byte there is none that may follow
pub left_stuck : (l : List ℕ) (g : Pieces) → reach l g < length l → next (left l g) (get_or l (reach l g) 0) ≡ none
left_stuck [] g h = absurd (not-suc-le-zero h)
left_stuck (b ∷ l) g h = go (next g b) refl h (left_stuck l)
  where
    go : (o : Option Pieces) → next g b ≡ o → onward 0 (λ i. suc (reach l i)) o < suc (length l)
        → ((i : Pieces) → reach l i < length l → next (left l i) (get_or l (reach l i) 0) ≡ none)
        → next (onward g (left l) o) (get_or (b ∷ l) (onward 0 (λ i. suc (reach l i)) o) 0) ≡ none
    go none e h r = e
    go (some i) e h r = r i (le_of_suc-le-suc h)

-- a line that stopped early: what is expected is not the end
pub left_short : (l : List ℕ) (g : Pieces) → reach l g ≡ length l → takes l g ≡ ends? (left l g)
left_short [] g h = refl
left_short (b ∷ l) g h = go (next g b) h (left_short l)
  where
    go : (o : Option Pieces) → onward 0 (λ i. suc (reach l i)) o ≡ suc (length l)
        → ((i : Pieces) → reach l i ≡ length l → takes l i ≡ ends? (left l i))
        → onward false (takes l) o ≡ ends? (onward g (left l) o)
    go none h r = absurd (omega arith)
    go (some i) h r = r i (omega arith)
