-- Laws of looking for the lowest entry that meets a rule: `left` is who has not been looked at. Assumes nothing.
use mathlib.Core.Path.{◌≡◌, sym, ap, ◌∙◌, subst}
use mathlib.Core.Logic.{◌≢◌}
use mathlib.Core.Bool.{Bool, not, cond}
use mathlib.Core.List.{List}
use mathlib.Core.Option.{Option as Maybe, none, some}
use Prim.Native.Nat.{ℕ, ◌≤◌, ◌<◌}
use native.Mathlib.Decide.{ℕ_discrete}
use native.Mathlib.Omega.{arith}
use borrow.Author.Tests.{ne_eqb, eq-eqb}
use lib.Dec.{T, eqb, ltb, lt→ltb, ltb→lt}
use lib.ListN.{length, get_or}
use Rattle.sets.specs.Lists.{count, any, upto, lowest}
use Rattle.sets.specs.Set.{has, size, IsWithout, IsMeet, IsLess, IsLowest}
use Rattle.sets.proofs.TestLaws.{and_l, and_r, and_t, any_make, any_get, eqb_same}
use Rattle.sets.proofs.MemberLaws.{count_narrow, lowest_is, lowest_none}
use Rattle.clashes.specs.Matrix.{matrix}
use Rattle.graphs.proofs.LoopLaws.{kept_without}
use Rattle.shrink.specs.Rules.{covered, few, covers, is_covered, clashing, has_few, noted, or_else}
use Rattle.removing.specs.Words.{Listed, Sharing, removal}
use Rattle.removing.proofs.ShareLaws.{nobody, sharing_covers, covers_sharing}

-- ---- the lowest entry that passes a test

module _ (n : ℕ) (here test : ℕ → Bool) where
  -- nobody has passed of those who were looked at
  pub record Looked (left : ℕ) : Type 0 where
    pub within : (x : ℕ) → T (has left x) → (x < n) × T (here x)
    pub idle : (x : ℕ) → x < n → ¬ T (has left x) → ¬ T (test x)

  pub looked_start : (left : ℕ) → ((x : ℕ) → T (has left x) → (x < n) × T (here x)) → ((x : ℕ) → T (test x) → T (has left x)) → Looked left
  looked_start left b f = record { within = b; idle = λ x c out t. out (f x t) }

  module _ (cap left w : ℕ) (k : Looked left) (l : IsLowest cap left w) where
    pub looked_next : (left' : ℕ) → IsWithout left w left' → ¬ T (test w) → Looked left'
    looked_next left' r q = record {
      within = λ x t. k.within x (and_l (has left x) (not (eqb w x)) (subst T (r x) t));
      idle = λ x b out. pass x b out (ℕ_discrete x w);
    }
      where
        pass : (x : ℕ) → x < n → ¬ T (has left' x) → Dec (x ≡ w) → ¬ T (test x)
        pass x b out (yes e) t = q (subst (λ (z : ℕ). T (test z)) e t)
        pass x b out (no d) t = k.idle x b (λ h. out (kept_without left w left' x r h d)) t

    pub looked_found : T (test w) → lowest test n ≡ some w
    looked_found t =
        let b = (k.within w l.member).0 in
        lowest_is test n w b t (λ j c. k.idle j (omega (arith, b)) (l.least j c))

  pub looked_end : (left : ℕ) → Looked left → left ≡ 0 → lowest test n ≡ none
  looked_end left k z = lowest_none test n (λ j b. k.idle j b (nobody left j z))

-- ---- the two rules

module _ (rows : List ℕ) (present : ℕ) (g : Listed rows present) where
  abbrev n : ℕ
  n = length rows

  module _ (v near but rest others : ℕ) (here : T (has present v)) (met : IsMeet present (get_or rows v 0) near) (out : IsWithout present v but)
      (cut : IsLess but near rest) (s : Sharing rows near rest others) where
    pub covered_none : others ≡ 0 → ¬ T (is_covered n (matrix rows) (has present) v)
    covered_none e t =
        let i = any_get n (covers n (matrix rows) (has present) v) (and_r (has present v) (any n (covers n (matrix rows) (has present) v)) t) in
        nobody others i.0 e (covers_sharing rows present g v near but rest others met out cut s i.0 i.2)

    module _ (cap u : ℕ) (l : IsLowest cap others u) where
      cover : T (covers n (matrix rows) (has present) v u)
      cover = sharing_covers rows present g v near but rest others met out cut s u l.member

      u_below : u < n
      u_below = g.entries u (and_l (has present u) _ cover)

      pub covered_some : T (is_covered n (matrix rows) (has present) v)
      covered_some =
          and_t (has present v) (any n (covers n (matrix rows) (has present) v)) here
          (any_make n (covers n (matrix rows) (has present) v) u u_below cover)

      -- u is the lowest of them, and another entry than v
      pub covered_noted : removal v u ≡ covered v (noted n (matrix rows) (has present) v)
      covered_noted =
          ap (λ (b : Bool). cond b (few v) (covered v u)) (ne_eqb v u differ)
          ∙ ap (λ (o : Maybe ℕ). covered v (or_else v o)) (sym (lowest_is (covers n (matrix rows) (has present) v) n u u_below cover
          (λ j b t. l.least j b (covers_sharing rows present g v near but rest others met out cut s j t))))
        where
          differ : v ≢ u
          differ e =
              let q = and_l (not (eqb v u)) _ (and_r (has present u) _ cover) in
              subst (λ (b : Bool). T (not b)) (eq-eqb v u e) q

  module _ (bound v near : ℕ) (here : T (has present v)) (met : IsMeet present (get_or rows v 0) near) where
    -- as many as clash with v
    near_clashing : (cap : ℕ) → n ≤ cap → size cap near ≡ clashing n (matrix rows) (has present) v
    near_clashing cap b =
        count_narrow (has near) n cap b
        (λ j c t. let z : ⊥ = omega (arith, g.entries j (and_l (has present j) (matrix rows v j) (subst T (met j) t))) in z)
        ∙ ap (λ (p : ℕ → Bool). count p (upto n)) (λ i j. met j i)

    pub few_some : (cap : ℕ) → n ≤ cap → size cap near < bound → T (has_few n (matrix rows) (has present) bound v)
    few_some cap b c =
        and_t (has present v) (ltb (clashing n (matrix rows) (has present) v) bound) here
        (lt→ltb (clashing n (matrix rows) (has present) v) bound (omega (arith, near_clashing cap b)))

    pub few_none : (cap : ℕ) → n ≤ cap → (size cap near < bound → ⊥) → ¬ T (has_few n (matrix rows) (has present) bound v)
    few_none cap b q t =
        let c = ltb→lt (clashing n (matrix rows) (has present) v) bound (and_r (has present v) (ltb (clashing n (matrix rows) (has present) v) bound) t) in
        q (omega (arith, near_clashing cap b))

-- noted with itself
pub removal_few : (v : ℕ) → removal v v ≡ few v
removal_few v = ap (λ (b : Bool). cond b (few v) (covered v v)) (eqb_same v)
