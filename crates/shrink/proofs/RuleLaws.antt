-- Laws of the rules: what each removal has, that they come to an end, and who is left. Assumes nothing.
use mathlib.Core.Path.{◌≡◌, refl, sym, ap, ap₂, ◌∙◌}
use mathlib.Core.Logic.{inl, inr, ◌≢◌}
use mathlib.Core.Bool.{Bool, not, ◌&&◌, ◌||◌}
use mathlib.Core.List.{List, [], ◌∷◌, ◌++◌}
use mathlib.Core.Option.{Option, none, some}
use Prim.Native.Nat.{ℕ, zero, suc, ◌≤◌, ◌<◌}
use native.Mathlib.Omega.{arith}
use lib.Dec.{T, eqb, ltb, eqb→eq, ltb→lt, T_not, not_T}
use borrow.Author.Tests.{ne_eqb}
use Rattle.sets.specs.Lists.{count, all, any, upto, lowest}
use Rattle.sets.proofs.TestLaws.{and_l, and_r, and_t, and_true, or_cases, eqb_of, all_get, any_get}
use Rattle.sets.proofs.MemberLaws.{count_few, count_out, lowest_none, IsLeast, Lowest, found, nowhere, lowest_cases}
use Rattle.clashes.specs.Matrix.{LowestRow, NoRow}
use Rattle.shrink.specs.Steps.{Covered, Allowed, Steps}
use Rattle.shrink.specs.Rules.{Removal, covered, few, entry, without, or_else, covers, is_covered, clashing, has_few, choose, next, onward, removals, left, everyone}

-- ---- who is present

module _ (v : ℕ) (p : ℕ → Bool) (x : ℕ) where
  pub without_in : T (p x) → x ≢ v → T (without v p x)
  without_in t q = and_t (p x) (not (eqb v x)) t (not_T (eqb v x) (λ e. q (sym (eqb→eq v x e))))

  pub in_without : T (without v p x) → T (p x)
  in_without t = and_l (p x) (not (eqb v x)) t

  pub without_other : T (without v p x) → x ≢ v
  without_other t e = T_not (eqb v x) (and_r (p x) (not (eqb v x)) t) (eqb_of v x (sym e))

pub left_in : (p : ℕ → Bool) (rs : List Removal) (x : ℕ) → T (left p rs x) → T (p x)
left_in p [] x t = t
left_in p (r ∷ rs) x t = in_without (entry r) p x (left_in (without (entry r) p) rs x t)

-- one more has gone
pub left_more : (p : ℕ → Bool) (rs : List Removal) (r : Removal) → left p (rs ++ r ∷ []) ≡ without (entry r) (left p rs)
left_more p [] r = refl
left_more p (x ∷ rs) r = left_more (without (entry x) p) rs r

module _ (L n : ℕ) (clash : ℕ → ℕ → Bool) where
  -- "Each time the lowest entry that meets the first rule goes", with the lowest such other; "where none does, the lowest that meets the second;
  -- until neither applies"
  abbrev pub Next : (ℕ → Bool) → Option Removal → Type 0
  Next p (some (covered v u)) = LowestRow (λ x. T (is_covered n clash p x)) n v × LowestRow (λ x. T (covers n clash p v x)) n u
  Next p (some (few v)) = NoRow (λ x. T (is_covered n clash p x)) n × LowestRow (λ x. T (has_few n clash p L x)) n v
  Next p none = NoRow (λ x. T (is_covered n clash p x)) n × NoRow (λ x. T (has_few n clash p L x)) n

  pub allowed_entry : (p : ℕ → Bool) (r : Removal) → Allowed L n clash p r → (entry r < n) × T (p (entry r))
  allowed_entry p (covered v u) g = (g.below, g.here)
  allowed_entry p (few v) g = (g.below, g.here)

  module _ (p : ℕ → Bool) where
    covers_is : (v u : ℕ) → v < n → T (p v) → u < n → T (covers n clash p v u) → Covered n clash p v u
    covers_is v u b t c h =
        let all? : ℕ → Bool = λ w. not (p w && clash v w) || clash u w in
        let r = and_r (p u) (not (eqb v u) && all n all?) h in
        record {
          below = b;
          here = t;
          other_below = c;
          other = and_l (p u) (not (eqb v u) && all n all?) h;
          differ = λ e. T_not (eqb v u) (and_l (not (eqb v u)) (all n all?) r) (eqb_of v u (sym e));
          shared = λ w a s k. elim (or_cases (not (p w && clash v w)) (clash u w) (all_get n all? (and_r (not (eqb v u)) (all n all?) r) w a)) [
            | inl f ↦ absurd (T_not (p w && clash v w) f (and_t (p w) (clash v w) s k))
            | inr z ↦ z
          ];
        }

    pub next_is : Next p (next n clash p L)
    next_is =
        go (lowest (is_covered n clash p) n) (lowest (has_few n clash p L) n) (lowest_cases (is_covered n clash p) n)
        (lowest_cases (has_few n clash p L) n)
      where
        low : (t : ℕ → Bool) (v : ℕ) → IsLeast t n v → LowestRow (λ x. T (t x)) n v
        low t v l = record { below = l.below; here = l.passes; before = l.least }

        cover : (v : ℕ) → T (is_covered n clash p v) → (o : Option ℕ) → Lowest (covers n clash p v) n o
            → LowestRow (λ x. T (covers n clash p v x)) n (or_else v o)
        cover v t o (found u l) = low (covers n clash p v) u l
        cover v t o (nowhere f) =
            let i = any_get n (covers n clash p v) (and_r (p v) (any n (covers n clash p v)) t) in absurd (f i.0 i.1 i.2)

        go : (o q : Option ℕ) → Lowest (is_covered n clash p) n o → Lowest (has_few n clash p L) n q → Next p (choose n clash p o q)
        go o q (found v l) h =
            (low (is_covered n clash p) v l, cover v l.passes (lowest (covers n clash p v) n) (lowest_cases (covers n clash p v) n))
        go o q (nowhere f) (found v l) = (f, low (has_few n clash p L) v l)
        go o q (nowhere f) (nowhere g) = (f, g)

    pub next_allowed : (r : Removal) → Next p (some r) → Allowed L n clash p r
    next_allowed (covered v u) h = covers_is v u h.0.below (and_l (p v) (any n (covers n clash p v)) h.0.here) h.1.below h.1.here
    next_allowed (few v) h = record {
      below = h.1.below;
      here = and_l (p v) (ltb (clashing n clash p v) L) h.1.here;
      less = ltb→lt (clashing n clash p v) L (and_r (p v) (ltb (clashing n clash p v) L) h.1.here);
    }

    -- where nobody is present, neither rule applies
    next_nobody : ((v : ℕ) → v < n → ¬ T (p v)) → next n clash p L ≡ none
    next_nobody f =
        ap₂ (choose n clash p)
        (lowest_none (is_covered n clash p) n (λ v b t. f v b (and_l (p v) (any n (covers n clash p v)) t)))
        (lowest_none (has_few n clash p L) n (λ v b t. f v b (and_l (p v) (ltb (clashing n clash p v) L) t)))

  -- ---- the removals

  pub removals_next : (m : ℕ) (p : ℕ → Bool) (r : Removal) → next n clash p L ≡ some r
      → removals L n clash (suc m) p ≡ r ∷ removals L n clash m (without (entry r) p)
  unfolding removals
  removals_next m p r e = ap (λ (o : Option Removal). onward p o (removals L n clash m)) e

  pub removals_none : (m : ℕ) (p : ℕ → Bool) → next n clash p L ≡ none → removals L n clash m p ≡ []
  unfolding removals
  removals_none zero p e = refl
  removals_none (suc m) p e = ap (λ (o : Option Removal). onward p o (removals L n clash m)) e

  pub removals_steps : (m : ℕ) (p : ℕ → Bool) → Steps L n clash p (removals L n clash m p)
  unfolding removals
  removals_steps zero p = tt
  removals_steps (suc m) p = go (next n clash p L) (next_is p) (removals_steps m)
    where
      go : (o : Option Removal) → Next p o → ((q : ℕ → Bool) → Steps L n clash q (removals L n clash m q))
          → Steps L n clash p (onward p o (removals L n clash m))
      go none h r = tt
      go (some x) h r = (next_allowed p x h, r (without (entry x) p))

  fewer : (p : ℕ → Bool) (v : ℕ) → v < n → T (p v) → suc (count (without v p) (upto n)) ≡ count p (upto n)
  fewer p v b t =
      count_out n p (without v p) v b t (λ s. without_other v p v s refl)
      (λ j q. ap (λ (b : Bool). p j && not b) (ne_eqb v j (λ e. q (sym e))) ∙ and_true (p j))

  -- they come to an end: neither rule applies any more
  pub removals_end : (m : ℕ) (p : ℕ → Bool) → count p (upto n) ≤ m → next n clash (left p (removals L n clash m p)) L ≡ none
  unfolding removals
  removals_end zero p b = next_nobody p (λ v c t. let z : ⊥ = omega (arith, fewer p v c t) in z)
  removals_end (suc m) p b = go (next n clash p L) refl (next_is p) (removals_end m)
    where
      go : (o : Option Removal) → next n clash p L ≡ o → Next p o
          → ((q : ℕ → Bool) → count q (upto n) ≤ m → next n clash (left q (removals L n clash m q)) L ≡ none)
          → next n clash (left p (onward p o (removals L n clash m))) L ≡ none
      go none e h r = e
      go (some x) e h r = let t = allowed_entry p x (next_allowed p x h) in r (without (entry x) p) (omega (arith, fewer p (entry x) t.0 t.1))

  pub gone_end : next n clash (left (everyone n) (removals L n clash n (everyone n))) L ≡ none
  gone_end = removals_end n (everyone n) (count_few (everyone n) n)
