-- Laws of who clashes with each of a set, and that the first rule's others are just these. Assumes nothing.
use mathlib.Core.Path.{◌≡◌, sym, ap, ◌∙◌, subst}
use mathlib.Core.Logic.{inl, inr}
use mathlib.Core.Bool.{Bool, not, ◌&&◌, ◌||◌}
use mathlib.Core.List.{List}
use Prim.Native.Nat.{ℕ, ◌<◌}
use native.Mathlib.Decide.{ℕ_discrete}
use lib.Dec.{T, eqb, T_not, not_T}
use lib.ListN.{length, get_or}
use Rattle.sets.specs.Lists.{all}
use Rattle.sets.specs.Set.{has, size, IsWithout, IsMeet, IsLess, IsLowest}
use Rattle.sets.proofs.TestLaws.{and_l, and_r, and_t, or_l, or_r, or_cases, T?, all_get, all_make}
use Rattle.sets.proofs.MemberLaws.{members_count, members_none}
use Rattle.sets.proofs.SetLaws.{has_none}
use Rattle.clashes.specs.Matrix.{matrix}
use Rattle.graphs.proofs.LoopLaws.{without_kept, kept_without}
use Rattle.shrink.specs.Rules.{covers}
use Rattle.removing.specs.Words.{Listed, Sharing}

pub nobody : (s x : ℕ) → s ≡ 0 → ¬ T (has s x)
nobody s x e t = subst T (ap (λ (m : ℕ). has m x) e ∙ has_none x) t

pub size_nobody : (cap s : ℕ) → s ≡ 0 → size cap s ≡ 0
size_nobody cap s e = sym (members_count (has s) cap) ∙ ap length (members_none (has s) cap (λ j b. nobody s j e))

module _ (rows : List ℕ) (near among : ℕ) where
  -- others has who of `among` clashes with each of near that is not left
  pub record Shared (others left : ℕ) : Type 0 where
    pub within : (w : ℕ) → T (has left w) → T (has near w)
    pub shares : (u : ℕ) → T (has others u) → T (has among u) × ((w : ℕ) → T (has near w) → ¬ T (has left w) → T (matrix rows w u))
    pub every : (u : ℕ) → T (has among u) → ((w : ℕ) → T (has near w) → T (matrix rows w u)) → T (has others u)

  pub shared_none : Shared among near
  shared_none = record { within = λ w t. t; shares = λ u t. (t, λ w a b. absurd (b a)); every = λ u t h. t }

  pub shared_next : {cap : ℕ} (others left w others' left' : ℕ) → Shared others left → IsLowest cap left w → IsWithout left w left'
      → IsMeet others (get_or rows w 0) others' → Shared others' left'
  shared_next others left w others' left' s l r m = record {
    within = λ x t. s.within x (without_kept left w left' x r t).0;
    shares = λ u t.
        let q = subst T (m u) t in
        let a = s.shares u (and_l (has others u) (matrix rows w u) q) in
        (a.0, λ x near-x out. go u (and_r (has others u) (matrix rows w u) q) a.1 x near-x out (ℕ_discrete x w));
    every = λ u t h. subst T (sym (m u)) (and_t (has others u) (matrix rows w u) (s.every u t h) (h w (s.within w l.member)));
  }
    where
      go : (u : ℕ) → T (matrix rows w u) → ((x : ℕ) → T (has near x) → ¬ T (has left x) → T (matrix rows x u))
          → (x : ℕ) → T (has near x) → ¬ T (has left' x) → Dec (x ≡ w) → T (matrix rows x u)
      go u t f x near-x out (yes e) = subst (λ (z : ℕ). T (matrix rows z u)) (sym e) t
      go u t f x near-x out (no q) = f x near-x (λ h. out (kept_without left w left' x r h q))

  -- none of near is left, or nobody is left who could share
  pub shared_all : (others left : ℕ) → Shared others left → left ≡ 0 → Sharing rows near among others
  shared_all others left s e = record {
    shares = λ u t. let a = s.shares u t in (a.0, λ w n. a.1 w n (nobody left w e));
    every = s.every;
  }

  pub shared_nobody : (others left : ℕ) → Shared others left → others ≡ 0 → Sharing rows near among others
  shared_nobody others left s e = record { shares = λ u t. absurd (nobody others u e t); every = s.every }

-- ---- who covers v: who of the others clashes with each present one that clashes with v. None of these does: it would clash with itself

module _ (rows : List ℕ) (present : ℕ) (g : Listed rows present) where
  abbrev n : ℕ
  n = length rows

  module _ (v near but rest others : ℕ) (met : IsMeet present (get_or rows v 0) near) (out : IsWithout present v but) (cut : IsLess but near rest)
      (s : Sharing rows near rest others) where
    shared? : ℕ → ℕ → Bool
    shared? u w = not (has present w && matrix rows v w) || matrix rows u w

    pub sharing_covers : (u : ℕ) → T (has others u) → T (covers n (matrix rows) (has present) v u)
    unfolding shared?
    sharing_covers u t =
        let a = s.shares u t in
        let q = subst T (out u) (and_l (has but u) (not (has near u)) (subst T (cut u) a.0)) in
        let here = and_l (has present u) (not (eqb v u)) q in
        and_t (has present u) (not (eqb v u) && all n (shared? u)) here
        (and_t (not (eqb v u)) (all n (shared? u)) (and_r (has present u) (not (eqb v u)) q)
        (all_make n (shared? u) (λ x b. go x b here (a.1 x) (T? (has present x && matrix rows v x)))))
      where
        go : (x : ℕ) → x < n → T (has present u) → (T (has near x) → T (matrix rows x u)) → Dec (T (has present x && matrix rows v x))
            → T (shared? u x)
        go x b here f (yes c) =
            or_r (not (has present x && matrix rows v x)) (matrix rows u x)
            (g.valid.both_ways x u b (g.entries u here) (f (subst T (sym (met x)) c)))
        go x b here f (no c) = or_l (not (has present x && matrix rows v x)) (matrix rows u x) (not_T (has present x && matrix rows v x) c)

    pub covers_sharing : (u : ℕ) → T (covers n (matrix rows) (has present) v u) → T (has others u)
    unfolding shared?
    covers_sharing u t =
        let here = and_l (has present u) (not (eqb v u) && all n (shared? u)) t in
        let q = and_r (has present u) (not (eqb v u) && all n (shared? u)) t in
        let f : (w : ℕ) → T (has near w) → T (matrix rows u w) = λ w a. shares w (and_r (not (eqb v u)) (all n (shared? u)) q) (subst T (met w) a) in
        s.every u
        (subst T (sym (cut u)) (and_t (has but u) (not (has near u))
        (subst T (sym (out u)) (and_t (has present u) (not (eqb v u)) here (and_l (not (eqb v u)) (all n (shared? u)) q)))
        (not_T (has near u) (λ a. g.valid.no_self u (g.entries u here) (f u a)))))
        (λ w a. g.valid.both_ways u w (g.entries u here) (g.entries w (and_l (has present w) (matrix rows v w) (subst T (met w) a))) (f w a))
      where
        shares : (w : ℕ) → T (all n (shared? u)) → T (has present w && matrix rows v w) → T (matrix rows u w)
        shares w a c =
            let b = g.entries w (and_l (has present w) (matrix rows v w) c) in
            elim (or_cases (not (has present w && matrix rows v w)) (matrix rows u w) (all_get n (shared? u) a w b)) [
              | inl f ↦ absurd (T_not (has present w && matrix rows v w) f c)
              | inr z ↦ z
            ]
