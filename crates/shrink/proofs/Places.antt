-- Laws of the places of a list of numbers in which none stands twice: what stands at a place, and the place of what stands there. Assumes nothing.
use mathlib.Core.Path.{◌≡◌, refl, sym, ap, subst}
use mathlib.Core.Logic.{inl, inr}
use mathlib.Core.List.{List, [], ◌∷◌}
use Prim.Native.Nat.{ℕ, zero, suc, ◌<◌}
use native.Mathlib.Nat.{le_of_suc-le-suc, not-suc-le-zero}
use native.Mathlib.Decide.{ℕ_discrete}
use lib.ListN.{length}
use Rattle.sets.specs.Lists.{In, NoDup}
use Rattle.clashes.specs.Labels.{place}
use Rattle.clashes.specs.Divisions.{at}
use Rattle.clashes.proofs.NumberLaws.{place_in, place_at}

pub at-In : (l : List ℕ) (i : ℕ) → i < length l → In (at l i) l
at-In [] i b = absurd (not-suc-le-zero b)
at-In (x ∷ l) zero b = inl refl
at-In (x ∷ l) (suc i) b = inr (at-In l i (le_of_suc-le-suc b))

pub at_once : (l : List ℕ) → NoDup l → (i j : ℕ) → i < length l → j < length l → at l i ≡ at l j → i ≡ j
at_once [] d i j a b e = absurd (not-suc-le-zero a)
at_once (x ∷ l) d zero zero a b e = refl
at_once (x ∷ l) d zero (suc j) a b e = absurd (d.0 (subst (λ (z : ℕ). In z l) (sym e) (at-In l j (le_of_suc-le-suc b))))
at_once (x ∷ l) d (suc i) zero a b e = absurd (d.0 (subst (λ (z : ℕ). In z l) e (at-In l i (le_of_suc-le-suc a))))
at_once (x ∷ l) d (suc i) (suc j) a b e = ap suc (at_once l d.1 i j (le_of_suc-le-suc a) (le_of_suc-le-suc b) e)

pub place_of : (l : List ℕ) → NoDup l → (i : ℕ) → i < length l → place ℕ_discrete (at l i) l ≡ i
place_of l d i b =
    let h = at-In l i b in
    at_once l d (place ℕ_discrete (at l i) l) i (place_in ℕ_discrete (at l i) l h) b (place_at ℕ_discrete (at l i) 0 l h)
