-- Laws of labels numbered by first use: places, the distinct labels, and that a numbering is the only one. Assumes nothing.
use mathlib.Core.Path.{◌≡◌, refl, sym, ap, ap₂, ◌∙◌, subst}
use mathlib.Core.Logic.{◌⊎◌, inl, inr}
use mathlib.Core.HLevel.{Discrete}
use mathlib.Core.List.{List, [], ◌∷◌, ◌++◌, map}
use Prim.Native.Nat.{ℕ, zero, suc, ◌≤◌, ◌<◌, zero-le, suc-le-suc, max}
use native.Mathlib.Decide.{ℕ_discrete}
use native.Mathlib.Omega.{arith}
use lib.ListN.{length, get_or, length-append}
use Rattle.sets.specs.Lists.{In, NoDup}
use Rattle.sets.proofs.ListLaws.{In-append, In-append_l, In-append_r}
use Rattle.clashes.specs.Labels.{when, member, add, place, distinct, number}
use Rattle.clashes.specs.Divisions.{Canon, groups}

module _ {A : Type 0} (same : Discrete A) where
  pub place_le : (x : A) (s : List A) → place same x s ≤ length s
  place_le x [] = zero-le
  place_le x (y ∷ s) = go (same x y) (place_le x s)
    where
      go : (q : Dec (x ≡ y)) → place same x s ≤ length s → when q zero (suc (place same x s)) ≤ suc (length s)
      go (yes e) h = zero-le
      go (no a) h = suc-le-suc h

  pub place_in : (x : A) (s : List A) → In x s → place same x s < length s
  place_in x [] i = absurd i
  place_in x (y ∷ s) i = go (same x y) i (place_in x s)
    where
      go : (q : Dec (x ≡ y)) → In x (y ∷ s) → (In x s → place same x s < length s) → when q zero (suc (place same x s)) < suc (length s)
      go (yes e) i h = suc-le-suc zero-le
      go (no a) (inl e) h = absurd (a e)
      go (no a) (inr i) h = suc-le-suc (h i)

  pub place_new : (x : A) (s : List A) → ¬ In x s → place same x s ≡ length s
  place_new x [] n = refl
  place_new x (y ∷ s) n = go (same x y) (place_new x s (λ i. n (inr i)))
    where
      go : (q : Dec (x ≡ y)) → place same x s ≡ length s → when q zero (suc (place same x s)) ≡ suc (length s)
      go (yes e) h = absurd (n (inl e))
      go (no a) h = ap suc h

  -- what stands in s keeps its place when s grows
  pub place_append : (x : A) (s t : List A) → In x s → place same x (s ++ t) ≡ place same x s
  place_append x [] t i = absurd i
  place_append x (y ∷ s) t i = go (same x y) i (place_append x s t)
    where
      go : (q : Dec (x ≡ y)) → In x (y ∷ s) → (In x s → place same x (s ++ t) ≡ place same x s)
          → when q zero (suc (place same x (s ++ t))) ≡ when q zero (suc (place same x s))
      go (yes e) i h = refl
      go (no a) (inl e) h = absurd (a e)
      go (no a) (inr i) h = ap suc (h i)

  -- a new one stands behind s
  pub place_behind : (x : A) (s : List A) → ¬ In x s → place same x (s ++ x ∷ []) ≡ length s
  place_behind x [] n = go (same x x)
    where
      go : (q : Dec (x ≡ x)) → when q zero 1 ≡ zero
      go (yes e) = refl
      go (no a) = absurd (a refl)
  place_behind x (y ∷ s) n = go (same x y) (place_behind x s (λ i. n (inr i)))
    where
      go : (q : Dec (x ≡ y)) → place same x (s ++ x ∷ []) ≡ length s → when q zero (suc (place same x (s ++ x ∷ []))) ≡ suc (length s)
      go (yes e) h = absurd (n (inl e))
      go (no a) h = ap suc h

  pub place_inj : (x y : A) (s : List A) → In x s → In y s → place same x s ≡ place same y s → x ≡ y
  place_inj x y [] i j e = absurd i
  place_inj x y (z ∷ s) i j e = go (same x z) (same y z) i j e (place_inj x y s)
    where
      go : (q : Dec (x ≡ z)) (r : Dec (y ≡ z)) → In x (z ∷ s) → In y (z ∷ s)
          → when q zero (suc (place same x s)) ≡ when r zero (suc (place same y s))
          → (In x s → In y s → place same x s ≡ place same y s → x ≡ y) → x ≡ y
      go (yes a) (yes b) i j e h = a ∙ sym b
      go (yes a) (no b) i j e h = absurd (omega arith)
      go (no a) (yes b) i j e h = absurd (omega arith)
      go (no a) (no b) (inl i) j e h = absurd (a i)
      go (no a) (no b) (inr i) (inl j) e h = absurd (b j)
      go (no a) (no b) (inr i) (inr j) e h = h i j (omega arith)

  -- at its place stands x
  pub place_at : (x d : A) (s : List A) → In x s → get_or s (place same x s) d ≡ x
  place_at x d [] i = absurd i
  place_at x d (y ∷ s) i = go (same x y) i (place_at x d s)
    where
      go : (q : Dec (x ≡ y)) → In x (y ∷ s) → (In x s → get_or s (place same x s) d ≡ x) → get_or (y ∷ s) (when q zero (suc (place same x s))) d ≡ x
      go (yes e) i h = sym e
      go (no a) (inl e) h = absurd (a e)
      go (no a) (inr i) h = h i

  -- ---- growing

  length_add : (s : List A) (x : A) → length (add same s x) ≡ max (length s) (suc (place same x s))
  length_add s x = go (member same x s)
    where
      go : (q : Dec (In x s)) → length (when q s (s ++ x ∷ [])) ≡ max (length s) (suc (place same x s))
      go (yes i) = omega (arith, place_in x s i)
      go (no a) = omega (arith, place_new x s a, length-append s (x ∷ []))

  In-add : (s : List A) (x : A) → In x (add same s x)
  In-add s x = go (member same x s)
    where
      go : (q : Dec (In x s)) → In x (when q s (s ++ x ∷ []))
      go (yes i) = i
      go (no a) = In-append_r x s (x ∷ []) (inl refl)

  In-add_old : (s : List A) (x y : A) → In y s → In y (add same s x)
  In-add_old s x y h = go (member same x s)
    where
      go : (q : Dec (In x s)) → In y (when q s (s ++ x ∷ []))
      go (yes i) = h
      go (no a) = In-append_l y s (x ∷ []) h

  -- what stands in the grown list stood in s or is x
  In-add_cases : (s : List A) (x y : A) → In y (add same s x) → In y s ⊎ (y ≡ x)
  In-add_cases s x y h = go (member same x s) h
    where
      go : (q : Dec (In x s)) → In y (when q s (s ++ x ∷ [])) → In y s ⊎ (y ≡ x)
      go (yes i) h = inl h
      go (no a) h = elim (In-append y s (x ∷ []) h) [ inl i ↦ inl i | inr i ↦ elim i [ inl e ↦ inr e | inr b ↦ absurd b ] ]

  place_add : (s : List A) (x : A) → place same x (add same s x) ≡ place same x s
  place_add s x = go (member same x s)
    where
      go : (q : Dec (In x s)) → place same x (when q s (s ++ x ∷ [])) ≡ place same x s
      go (yes i) = refl
      go (no a) = place_behind x s a ∙ sym (place_new x s a)

  place_add_old : (s : List A) (x y : A) → In y s → place same y (add same s x) ≡ place same y s
  place_add_old s x y h = go (member same x s)
    where
      go : (q : Dec (In x s)) → place same y (when q s (s ++ x ∷ [])) ≡ place same y s
      go (yes i) = refl
      go (no a) = place_append y s (x ∷ []) h

  no_dup_add : (s : List A) (x : A) → NoDup s → NoDup (add same s x)
  no_dup_add s x d = go (member same x s)
    where
      behind : (s : List A) → ¬ In x s → NoDup s → NoDup (s ++ x ∷ [])
      behind [] a d = (λ h. h, tt)
      behind (y ∷ s) a d =
          (λ h. elim (In-append y s (x ∷ []) h) [ inl i ↦ d.0 i | inr i ↦ elim i [ inl e ↦ a (inl (sym e)) | inr b ↦ b ] ], behind s (λ i. a (inr i)) d.1)

      go : (q : Dec (In x s)) → NoDup (when q s (s ++ x ∷ []))
      go (yes i) = d
      go (no a) = behind s a d

  -- ---- the distinct labels

  pub distinct_old : (s l : List A) (x : A) → In x s → In x (distinct same s l)
  distinct_old s [] x h = h
  distinct_old s (y ∷ l) x h = distinct_old (add same s y) l x (In-add_old s y x h)

  pub distinct_new : (s l : List A) (x : A) → In x l → In x (distinct same s l)
  distinct_new s [] x h = absurd h
  distinct_new s (y ∷ l) x (inl e) = distinct_old (add same s y) l x (rw e (In-add s y))
  distinct_new s (y ∷ l) x (inr h) = distinct_new (add same s y) l x h

  pub distinct_cases : (s l : List A) (x : A) → In x (distinct same s l) → In x s ⊎ In x l
  distinct_cases s [] x h = inl h
  distinct_cases s (y ∷ l) x h = go (distinct_cases (add same s y) l x h)
    where
      go : In x (add same s y) ⊎ In x l → In x s ⊎ In x (y ∷ l)
      go (inl i) = elim (In-add_cases s y x i) [ inl j ↦ inl j | inr e ↦ inr (inl e) ]
      go (inr i) = inr (inr i)

  pub distinct_no_dup : (s l : List A) → NoDup s → NoDup (distinct same s l)
  distinct_no_dup s [] d = d
  distinct_no_dup s (y ∷ l) d = distinct_no_dup (add same s y) l (no_dup_add s y d)

  place_distinct : (s l : List A) (x : A) → In x s → place same x (distinct same s l) ≡ place same x s
  place_distinct s [] x h = refl
  place_distinct s (y ∷ l) x h = place_distinct (add same s y) l x (In-add_old s y x h) ∙ place_add_old s y x h

  -- ---- the numbering

  pub number_length : (s l : List A) → length (number same s l) ≡ length l
  number_length s [] = refl
  number_length s (x ∷ l) = ap suc (number_length (add same s x) l)

  pub number_canon : (s l : List A) → Canon (length s) (number same s l)
  number_canon s [] = tt
  number_canon s (x ∷ l) = (place_le x s, rw (← length_add s x) (number_canon (add same s x) l))

  pub number_groups : (s l : List A) → groups (length s) (number same s l) ≡ length (distinct same s l)
  number_groups s [] = refl
  number_groups s (x ∷ l) = subst (λ m. groups m (number same (add same s x) l) ≡ length (distinct same (add same s x) l)) (length_add s x) (number_groups (add same s x) l)

  pub number_is : (s l : List A) → number same s l ≡ map (λ x. place same x (distinct same s l)) l
  number_is s [] = refl
  number_is s (x ∷ l) =
      ap₂ {A = ℕ} {B = List ℕ} {C = List ℕ} (λ k c. k ∷ c) (sym (place_distinct (add same s x) l x (In-add s x) ∙ place_add s x)) (number_is (add same s x) l)

  -- A canonical list that gives different numbers to different labels, and goes on as s is numbered, is the numbering.
  pub number_unique : (L : A → Type 0) (h : A → ℕ) → ((x y : A) → L x → L y → h x ≡ h y → x ≡ y)
      → (s l : List A) → ((x : A) → In x s → L x) → ((x : A) → In x l → L x)
      → ((x : A) → In x s → h x ≡ place same x s) → ((k : ℕ) → k < length s → (x : A) × In x s × (h x ≡ k))
      → Canon (length s) (map h l) → map h l ≡ number same s l
  number_unique L h inj s [] ls ll pl onto g = refl
  number_unique L h inj s (x ∷ l) ls ll pl onto g =
      ap₂ {A = ℕ} {B = List ℕ} {C = List ℕ} (λ k c. k ∷ c) hx
      (number_unique L h inj (add same s x) l
      (λ y i. elim (In-add_cases s x y i) [ inl j ↦ ls y j | inr e ↦ rw e (ll x (inl refl)) ])
      (λ y i. ll y (inr i))
      (λ y i. elim (In-add_cases s x y i) [ inl j ↦ pl y j ∙ sym (place_add_old s x y j) | inr e ↦ rw e (hx ∙ sym (place_add s x)) ])
      onto'
      (subst (λ m. Canon m (map h l)) (ap (λ k. max (length s) (suc k)) hx ∙ sym (length_add s x)) g.1))
    where
      new : ¬ In x s → h x ≡ length s
      new a = go (ℕ_discrete (h x) (length s))
        where
          go : Dec (h x ≡ length s) → h x ≡ length s
          go (yes e) = e
          go (no b) =
              let t = onto (h x) (omega (arith, g.0)) in
              absurd (a (rw (← inj t.0 x (ls t.0 t.1) (ll x (inl refl)) t.2) t.1))

      hx : h x ≡ place same x s
      hx = go (member same x s)
        where
          go : Dec (In x s) → h x ≡ place same x s
          go (yes i) = pl x i
          go (no a) = new a ∙ sym (place_new x s a)

      onto' : (k : ℕ) → k < length (add same s x) → (y : A) × In y (add same s x) × (h y ≡ k)
      onto' k b = go (ℕ_discrete k (h x))
        where
          go : Dec (k ≡ h x) → (y : A) × In y (add same s x) × (h y ≡ k)
          go (yes e) = (x, In-add s x, sym e)
          go (no q) =
              let t = onto k (omega (arith, length_add s x, hx, place_le x s)) in
              (t.0, In-add_old s x t.0 t.1, t.2)
