-- Who is absent does not count: where two seatings agree on who is present, so they do when the others are put back. Assumes nothing.
use mathlib.Core.Path.{◌≡◌, refl, sym, ap, ap₂, ◌∙◌}
use mathlib.Core.Bool.{Bool, true, false, not, ◌&&◌}
use mathlib.Core.List.{List, [], ◌∷◌}
use Prim.Native.Nat.{ℕ, zero, suc, ◌≤◌, ◌<◌, max}
use native.Mathlib.Decide.{ℕ_discrete}
use native.Mathlib.Omega.{arith}
use lib.Dec.{T, eqb}
use lib.ListN.{length}
use lib.Seq.{get_or-set_same, get_or-set_other}
use Rattle.sets.specs.Lists.{all, table, first, lowest}
use Rattle.sets.proofs.MemberLaws.{members_agree}
use Rattle.clashes.specs.Labels.{number}
use Rattle.clashes.specs.Matrix.{Valid}
use Rattle.clashes.specs.Divisions.{at, division}
use Rattle.shrink.specs.Rules.{Removal, covered, few, entry, without, or_else, left}
use Rattle.shrink.specs.Back.{Seating, into, admits, home, put, back}
use Rattle.shrink.specs.Steps.{Allowed, Steps, Fits}
use Rattle.shrink.proofs.RuleLaws.{without_in}
use Rattle.shrink.proofs.BackLaws.{back_fits}

all_agree : (n : ℕ) (p q : ℕ → Bool) → ((i : ℕ) → i < n → p i ≡ q i) → all n p ≡ all n q
all_agree zero p q h = refl
all_agree (suc n) p q h = ap₂ (λ (a b : Bool). a && b) (all_agree n p q (λ i b. h i (omega arith))) (h n (omega arith))

pub table_agree : {A : Type 0} (n : ℕ) (f g : ℕ → A) → ((i : ℕ) → i < n → f i ≡ g i) → table f n ≡ table g n
table_agree zero f g h = refl
table_agree (suc n) f g h =
    ap₂ (λ x l. x ∷ l) (h zero (omega arith)) (table_agree n (λ i. f (suc i)) (λ i. g (suc i)) (λ i b. h (suc i) (omega arith)))

-- labels that are equal below n have one division
pub division_agree : (n : ℕ) (f g : ℕ → ℕ) → ((i : ℕ) → i < n → f i ≡ g i) → division ℕ_discrete n f ≡ division ℕ_discrete n g
division_agree n f g h = ap (number ℕ_discrete []) (table_agree n f g h)

module _ (n : ℕ) (clash : ℕ → ℕ → Bool) where
  -- s and t have as many groups, and those of p are in the same ones
  pub record Alike (p : ℕ → Bool) (s t : Seating) : Type 0 where
    pub many : s.many ≡ t.many
    pub group : (x : ℕ) → x < n → T (p x) → at s.group x ≡ at t.group x

  pub alike_fits : (p : ℕ → Bool) (s t : Seating) → Alike p s t → n ≤ length t.group → Fits n clash p s → Fits n clash p t
  alike_fits p s t a long f = record {
    long = long;
    below = λ x b h. omega (arith, a.group x b h, a.many, f.below x b h);
    apart = λ x y b c h k u e. f.apart x y b c h k u (a.group x b h ∙ e ∙ sym (a.group y c k));
  }

  module _ (p : ℕ → Bool) (s t : Seating) (a : Alike p s t) where
    admits_alike : (v j : ℕ) → admits n clash p s v j ≡ admits n clash p t v j
    admits_alike v j = all_agree n _ _ (λ x b. go x (p x) (λ h. a.group x b h))
      where
        go : (x : ℕ) (here : Bool) → (T here → at s.group x ≡ at t.group x)
            → not (here && (clash v x && eqb (at s.group x) j)) ≡ not (here && (clash v x && eqb (at t.group x) j))
        go x true h = ap (λ (g : ℕ). not (clash v x && eqb g j)) (h tt)
        go x false h = refl

    home_alike : (v : ℕ) → home n clash p s v ≡ home n clash p t v
    home_alike v =
        ap (λ (l : List ℕ). or_else s.many (first l)) (members_agree s.many (admits n clash p s v) (admits n clash p t v)
        (λ j b. admits_alike v j))
        ∙ ap (λ (m : ℕ). or_else m (lowest (admits n clash p t v) m)) a.many

  -- somebody who is in the same group of both
  into_alike : (p : ℕ → Bool) (v i j : ℕ) (s t : Seating) → Alike (without v p) s t → i ≡ j → v < n → n ≤ length s.group → n ≤ length t.group
      → Alike p (into v i s) (into v j t)
  into_alike p v i j s t a e b ls lt = record { many = ap₂ (λ (x y : ℕ). max x (suc y)) a.many e; group = λ x c h. go x c h (ℕ_discrete x v) }
    where
      go : (x : ℕ) → x < n → T (p x) → Dec (x ≡ v) → at (into v i s).group x ≡ at (into v j t).group x
      go x c h (yes q) =
          ap (at (into v i s).group) q ∙ get_or-set_same s.group v i 0 (omega arith) ∙ e ∙ sym (get_or-set_same t.group v j 0 (omega arith))
          ∙ ap (at (into v j t).group) (sym q)
      go x c h (no q) =
          get_or-set_other s.group v x i 0 q ∙ a.group x c (without_in v p x h q) ∙ sym (get_or-set_other t.group v x j 0 q)

  module _ (L : ℕ) (valid : Valid n clash) where
    put_alike : (p : ℕ → Bool) (r : Removal) → Allowed L n clash p r → (s t : Seating) → Alike (without (entry r) p) s t
        → n ≤ length s.group → n ≤ length t.group → Alike p (put n clash (without (entry r) p) r s) (put n clash (without (entry r) p) r t)
    put_alike p (covered v u) g s t a ls lt =
        into_alike p v _ _ s t a (a.group u g.other_below (without_in v p u g.other g.differ)) g.below ls lt
    put_alike p (few v) g s t a ls lt = into_alike p v _ _ s t a (home_alike (without v p) s t a v) g.below ls lt

    pub back_alike : (p : ℕ → Bool) (rs : List Removal) → Steps L n clash p rs → (s t : Seating) → Alike (left p rs) s t
        → Fits n clash (left p rs) s → Fits n clash (left p rs) t → Alike p (back n clash p rs s) (back n clash p rs t)
    unfolding back
    back_alike p [] g s t a f h = a
    back_alike p (r ∷ rs) g s t a f h =
        put_alike p r g.0 (back n clash (without (entry r) p) rs s) (back n clash (without (entry r) p) rs t)
        (back_alike (without (entry r) p) rs g.1 s t a f h)
        (back_fits n clash L valid (without (entry r) p) rs g.1 s f).long (back_fits n clash L valid (without (entry r) p) rs g.1 t h).long
