-- Separated pairs on a trail, and the rows without them. Assumes nothing.
use mathlib.Core.Path.{◌≡◌, refl, sym, ap, ap₂, ◌∙◌}
use mathlib.Core.Bool.{Bool, true, false, not, ◌&&◌, ◌||◌}
use mathlib.Core.List.{List, [], ◌∷◌, ◌++◌}
use Prim.Native.Nat.{ℕ, zero, suc, ◌+◌, ◌*◌, ◌/◌, ◌%◌, ◌≤◌, ◌<◌}
use native.Mathlib.Nat.{mod-eq_of_lt}
use native.Mathlib.Omega.{arith}
use lib.ListN.{length, get_or, take}
use Rattle.sets.specs.Set.{has}
use Rattle.sets.proofs.TestLaws.{and_true}
use Rattle.undo.specs.Back.{hit, Cut, is_met, Restored}
use Rattle.undo.proofs.BackLaws.{rows_same}

-- what is restored in the same way is the same
pub restored_same : (cap : ℕ) (trail : List ℕ) (at k : ℕ) (rows a b : List ℕ) → Restored cap trail at k rows a → Restored cap trail at k rows b → a ≡ b
restored_same cap trail at k rows a b p q = rows_same a b (p.long ∙ sym q.long) (λ x y. p.is x y ∙ sym (q.is x y))

-- pairs of which the trail's places are the same are the same
pub met_same : (cap : ℕ) (a b : List ℕ) (at k x y : ℕ) → ((j : ℕ) → j < at + k → get_or a j zero ≡ get_or b j zero) → is_met cap a at k x y ≡ is_met cap b at k x y
met_same cap a b at zero x y f = refl
met_same cap a b at (suc k) x y f =
    ap₂ (λ (s : Bool) (e : ℕ). s || hit (e / 256 % cap) (e % 256 % cap) x y) (met_same cap a b at k x y (λ j h. f j (omega arith))) (f (at + k) (omega arith))

pub restored_none : (cap : ℕ) (trail : List ℕ) (at : ℕ) (rows : List ℕ) → Restored cap trail at 0 rows rows
restored_none cap trail at rows = record { long = refl; is = λ x y. sym (and_true (has (get_or rows x zero) y)) }

-- one pair more: the separated rows, restored, are what the rows were
pub restored_more : (cap : ℕ) (trail : List ℕ) (at k u v : ℕ) (rows new r : List ℕ) → Restored cap trail at k rows r → Cut new u v rows
    → get_or trail (at + k) zero / 256 % cap ≡ u → get_or trail (at + k) zero % 256 % cap ≡ v → Restored cap trail at (suc k) new r
restored_more cap trail at k u v rows new r p c e f = record {
  long = p.long ∙ c.long;
  is = λ x y.
      p.is x y ∙ ap (λ (t : Bool). t && not (is_met cap trail at k x y)) (c.is x y) ∙ swap (has (get_or new x zero) y) (hit u v x y) (is_met cap trail at k x y)
      ∙ ap₂ (λ (a b : ℕ). has (get_or new x zero) y && not (is_met cap trail at k x y || hit a b x y)) (sym e) (sym f);
}
  where
    swap : (a b c : Bool) → ((a && not b) && not c) ≡ (a && not (c || b))
    swap true true true = refl
    swap true true false = refl
    swap true false true = refl
    swap true false false = refl
    swap false b c = refl

-- a pair is put on the trail
pub restored_next : (cap : ℕ) (old trail : List ℕ) (at k u v : ℕ) (rows new r : List ℕ) → cap ≤ 256 → Restored cap old at k rows r → Cut new u v rows
    → ((j : ℕ) → j < at + k → get_or trail j zero ≡ get_or old j zero) → get_or trail (at + k) zero ≡ u * 256 + v → u < cap → v < cap → Restored cap trail at (suc k) new r
restored_next cap old trail at k u v rows new r few p c s e a b =
    restored_more cap trail at k u v rows new r
    (record { long = p.long; is = λ x y. p.is x y ∙ ap (λ (t : Bool). has (get_or rows x zero) y && not t) (sym (met_same cap trail old at k x y s)) }) c
    (ap (λ (m : ℕ). m % cap) (let z : get_or trail (at + k) zero / 256 ≡ u = omega (arith, e) in z) ∙ mod-eq_of_lt a)
    (ap (λ (m : ℕ). m % cap) (let z : get_or trail (at + k) zero % 256 ≡ v = omega (arith, e) in z) ∙ mod-eq_of_lt b)

-- the last of a list that another begins with, and the list without it
pub taken_back : (s xs : List ℕ) (x : ℕ) → xs ++ x ∷ [] ≡ take (length (xs ++ x ∷ [])) s → (xs ≡ take (length xs) s) × (x ≡ get_or s (length xs) zero)
taken_back [] [] x e = absurd (let z : ⊥ = cc in z)
taken_back [] (z ∷ xs) x e = absurd (let z : ⊥ = cc in z)
taken_back (y ∷ s) [] x e = (refl, cc)
taken_back (y ∷ s) (z ∷ xs) x e =
    let h : xs ++ x ∷ [] ≡ take (length (xs ++ x ∷ [])) s = cc in
    let t = taken_back s xs x h in
    let a : z ≡ y = cc in
    (ap₂ (λ (b : ℕ) (l : List ℕ). b ∷ l) a t.0, t.1)
