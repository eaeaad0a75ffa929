-- What is meant, tied together: `divisions n` has each division exactly once; every labelling has exactly one division with its equalities, of
-- its cardinality; so the fewest groups of a clash-free division is the chromatic number; it is one number, and every list has one.
-- Assumes nothing.
use mathlib.Core.Path.{◌≡◌, refl, sym, ap, ◌∙◌, subst}
use mathlib.Core.Logic.{◌⊎◌, inl, inr}
use mathlib.Core.HLevel.{Discrete}
use mathlib.Core.Bool.{Bool}
use mathlib.Core.List.{List, [], ◌∷◌, ◌++◌, map, head-eq_of_cons-eq, tail-eq_of_cons-eq}
use Prim.Native.Nat.{ℕ, zero, suc, ◌≤◌, ◌<◌, max}
use native.Mathlib.Nat.{not-suc-le-zero, le_trans, le_of_eq}
use native.Mathlib.Decide.{ℕ_discrete}
use native.Mathlib.Omega.{arith}
use lib.Dec.{T}
use lib.IntN.{ℤ, pos, ℤ_discrete}
use lib.ListN.{length}
use Rattle.sets.specs.Lists.{In, NoDup, table, select}
use Rattle.sets.proofs.ListLaws.{In-append, In-append_l, In-append_r, In-table, length_table, get_d_table, no_dup_append, In-map, map-In, no_dup_map, least_of, select_passes, select_from, select-In}
use Rattle.clashes.specs.Labels.{place}
use Rattle.clashes.specs.Colouring.{Proper, cardinality, Chromatic}
use Rattle.clashes.specs.Divisions.{at, Canon, groups, heads, divs, divisions, alone, Division, division, SameGroups, clash_free, Fewest}
use Rattle.clashes.proofs.NumberLaws.{place_in, place_at}
use Rattle.clashes.proofs.DivisionLaws.{division_canon, division_length, division_groups, division_same, division_diff, division_unique}
use Rattle.clashes.proofs.ColouringLaws.{alone_canon, alone_at, un_pos, free_proper, proper_free}

-- ---- each division exactly once

heads-In : (f : ℕ → List (List ℕ)) (k j : ℕ) (c : List ℕ) → j < k → In c (f j) → In (j ∷ c) (heads f k)
heads-In f zero j c b i = absurd (not-suc-le-zero b)
heads-In f (suc k) j c b i = go (ℕ_discrete j k) (λ l. heads-In f k j c l i)
  where
    go : Dec (j ≡ k) → (j < k → In (j ∷ c) (heads f k)) → In (j ∷ c) (heads f k ++ map (λ c. k ∷ c) (f k))
    go (yes e) r =
        In-append_r (j ∷ c) (heads f k) (map (λ c. k ∷ c) (f k))
        (subst (λ (z : ℕ). In (z ∷ c) (map (λ c. k ∷ c) (f k))) (sym e) (In-map (λ c. k ∷ c) (f k) c (subst (λ (z : ℕ). In c (f z)) e i)))
    go (no d) r = In-append_l (j ∷ c) (heads f k) (map (λ c. k ∷ c) (f k)) (r (omega arith))

pub record Head (f : ℕ → List (List ℕ)) (k : ℕ) (d : List ℕ) : Type 0 where
  head : ℕ
  rest : List ℕ
  below : head < k
  of : In rest (f head)
  is : d ≡ head ∷ rest

In-heads : (f : ℕ → List (List ℕ)) (k : ℕ) (d : List ℕ) → In d (heads f k) → Head f k d
In-heads f zero d i = absurd i
In-heads f (suc k) d i = go (In-append d (heads f k) (map (λ c. k ∷ c) (f k)) i) (In-heads f k d)
  where
    go : In d (heads f k) ⊎ In d (map (λ c. k ∷ c) (f k)) → (In d (heads f k) → Head f k d) → Head f (suc k) d
    go (inl j) r = let h = r j in record { head = h.head; rest = h.rest; below = omega (arith, h.below); of = h.of; is = h.is }
    go (inr j) r = let t = map-In (λ c. k ∷ c) (f k) d j in record { head = k; rest = t.0; below = omega arith; of = t.1; is = t.2 }

divs-In : (n m : ℕ) (c : List ℕ) → Canon m c → length c ≡ n → In c (divs n m)
divs-In zero m [] g e = inl refl
divs-In zero m (k ∷ c) g e = absurd (omega arith)
divs-In (suc n) m [] g e = absurd (omega arith)
divs-In (suc n) m (k ∷ c) g e = heads-In (λ k. divs n (max m (suc k))) (suc m) k c (omega arith) (divs-In n (max m (suc k)) c g.1 (omega arith))

In-divs : (n m : ℕ) (c : List ℕ) → In c (divs n m) → Canon m c × (length c ≡ n)
In-divs zero m c (inl e) = (subst (Canon m) (sym e) tt, ap length e)
In-divs zero m c (inr b) = absurd b
In-divs (suc n) m c i =
    let h = In-heads (λ k. divs n (max m (suc k))) (suc m) c i in
    let r = In-divs n (max m (suc h.head)) h.rest h.of in
    (subst (Canon m) (sym h.is) (omega (arith, h.below), r.0), ap length h.is ∙ ap suc r.1)

-- heads of lists with no element twice have none twice
heads_once : (f : ℕ → List (List ℕ)) → ((k : ℕ) → NoDup (f k)) → (k : ℕ) → NoDup (heads f k)
heads_once f once zero = tt
heads_once f once (suc k) =
    no_dup_append (heads f k) (map (λ c. k ∷ c) (f k)) (heads_once f once k)
    (no_dup_map (λ c. k ∷ c) (λ x y e. tail-eq_of_cons-eq e) (f k) (once k)) apart
  where
    apart : (x : List ℕ) → In x (heads f k) → In x (map (λ c. k ∷ c) (f k)) → ⊥
    apart x i j =
        let h = In-heads f k x i in
        let t = map-In (λ c. k ∷ c) (f k) x j in
        let e : h.head ≡ k = head-eq_of_cons-eq (sym h.is ∙ t.2) in
        let z : ⊥ = omega (arith, h.below) in
        z

divs_once : (n m : ℕ) → NoDup (divs n m)
divs_once zero m = (λ b. b, tt)
divs_once (suc n) m = heads_once (λ k. divs n (max m (suc k))) (λ k. divs_once n (max m (suc k))) (suc m)

pub divisions_have : (n : ℕ) (c : List ℕ) → Division n c → In c (divisions n)
divisions_have n c d = divs-In n 0 c d.numbered d.long

pub divisions_are : (n : ℕ) (c : List ℕ) → In c (divisions n) → Division n c
divisions_are n c i = let r = In-divs n 0 c i in record { numbered = r.0; long = r.1 }

pub divisions_once : (n : ℕ) → NoDup (divisions n)
divisions_once n = divs_once n 0

-- ---- every labelling has exactly one division

module _ {A : Type 0} (same : Discrete A) (n : ℕ) (f : ℕ → A) where
  pub division_is : Division n (division same n f)
  division_is = record { numbered = division_canon same n f; long = division_length same n f }

  pub division_groups_are : SameGroups n (division same n f) f
  division_groups_are = record { together = division_same same n f; apart = division_diff same n f }

  pub division_only : (c : List ℕ) → Division n c → SameGroups n c f → c ≡ division same n f
  division_only c d g = division_unique same n f c d.numbered d.long h inj is
    where
      h : A → ℕ
      h x = at c (place same x (table f n))

      is : (i : ℕ) → i < n → at c i ≡ h (f i)
      is i b =
          let j = In-table f n i b in
          let p : ℕ = place same (f i) (table f n) in
          let l : p < n = omega (arith, place_in same (f i) (table f n) j, length_table f n) in
          g.together i p b l (sym (sym (get_d_table f n (f i) p l) ∙ place_at same (f i) (f i) (table f n) j))

      inj : (i j : ℕ) → i < n → j < n → h (f i) ≡ h (f j) → f i ≡ f j
      inj i j a b e = g.apart i j a b (is i a ∙ e ∙ sym (is j b))

  pub division_many : groups 0 (division same n f) ≡ cardinality same n f
  division_many = division_groups same n f

  -- of a colouring it is clash-free
  pub division_free : (clash : ℕ → ℕ → Bool) → Proper n clash f → T (clash_free n clash (division same n f))
  division_free clash p =
      proper_free n clash (division same n f) (λ x y a b t e. p x y a b t (division_diff same n f x y a b e))

-- ---- the fewest groups of a clash-free division is the chromatic number

module _ (n : ℕ) (clash : ℕ → ℕ → Bool) where
  pub fewest_chromatic : (k : ℕ) → Fewest n clash k → Chromatic n clash k
  fewest_chromatic k w = record {
    colouring = f;
    proper = λ x y a b t e. free_proper n clash w.best w.free x y a b t (un_pos e);
    size = sym (division_many ℤ_discrete n f) ∙ ap (groups 0) (sym (division_only ℤ_discrete n f w.best w.division groups_are)) ∙ w.many;
    smallest = λ g p. le_trans (w.fewest (division ℤ_discrete n g) (division_is ℤ_discrete n g) (division_free ℤ_discrete n g clash p)) (le_of_eq (division_many ℤ_discrete n g));
  }
    where
      f : ℕ → ℤ
      f i = pos (at w.best i)

      groups_are : SameGroups n w.best f
      groups_are = record { together = λ i j a b e. un_pos e; apart = λ i j a b e. ap pos e }

  pub chromatic_fewest : (k : ℕ) → Chromatic n clash k → Fewest n clash k
  chromatic_fewest k w = record {
    best = division ℤ_discrete n w.colouring;
    division = division_is ℤ_discrete n w.colouring;
    free = division_free ℤ_discrete n w.colouring clash w.proper;
    many = division_many ℤ_discrete n w.colouring ∙ w.size;
    fewest = λ c d t. le_trans (w.smallest (λ i. pos (at c i)) (λ x y a b u e. free_proper n clash c t x y a b u (un_pos e))) (le_of_eq (labels c d));
  }
    where
      labels : (c : List ℕ) → Division n c → cardinality ℤ_discrete n (λ i. pos (at c i)) ≡ groups 0 c
      labels c d =
          sym (division_many ℤ_discrete n (λ i. pos (at c i)))
          ∙ ap (groups 0) (sym (division_only ℤ_discrete n (λ i. pos (at c i)) c d (record { together = λ i j a b e. un_pos e; apart = λ i j a b e. ap pos e })))

  -- it is one number
  pub chromatic_unique : (j k : ℕ) → Chromatic n clash j → Chromatic n clash k → j ≡ k
  chromatic_unique j k p q =
      omega (arith, p.size, q.size, p.smallest q.colouring q.proper, q.smallest p.colouring p.proper)

-- every entry alone is a division, and clash-free where no entry clashes with itself
pub alone_is : (n : ℕ) → Division n (alone n)
alone_is n = record { numbered = alone_canon 0 n (λ i. i) (λ i. omega arith); long = length_table (λ i. i) n }

pub alone_free : (n : ℕ) (clash : ℕ → ℕ → Bool) → ((x : ℕ) → x < n → ¬ T (clash x x)) → T (clash_free n clash (alone n))
alone_free n clash no_self =
    proper_free n clash (alone n)
    (λ x y a b t e. let q : x ≡ y = sym (alone_at (λ i. i) n x a) ∙ e ∙ alone_at (λ i. i) n y b in
    no_self x a (subst (λ (z : ℕ). T (clash x z)) (sym q) t))

-- and every list whose entries do not clash with themselves has a chromatic number
pub chromatic_exists : (n : ℕ) (clash : ℕ → ℕ → Bool) → ((x : ℕ) → x < n → ¬ T (clash x x)) → (k : ℕ) × Chromatic n clash k
chromatic_exists n clash no_self = (groups 0 b.0, fewest_chromatic n clash (groups 0 b.0) (least b.0 b.1 b.2))
  where
    free_ones : List (List ℕ)
    free_ones = select (clash_free n clash) (divisions n)

    b : (y : List ℕ) × In y (alone n ∷ free_ones) × ((z : List ℕ) → In z (alone n ∷ free_ones) → groups 0 y ≤ groups 0 z)
    b = least_of (groups 0) (alone n) free_ones

    among : (y : List ℕ) → In y (alone n ∷ free_ones) → Division n y × T (clash_free n clash y)
    among y (inl e) = (subst (Division n) (sym e) (alone_is n), subst (λ (c : List ℕ). T (clash_free n clash c)) (sym e) (alone_free n clash no_self))
    among y (inr i) = (divisions_are n y (select_from (clash_free n clash) (divisions n) y i), select_passes (clash_free n clash) (divisions n) y i)

    least : (y : List ℕ) → In y (alone n ∷ free_ones) → ((z : List ℕ) → In z (alone n ∷ free_ones) → groups 0 y ≤ groups 0 z) → Fewest n clash (groups 0 y)
    least y i h = record {
      best = y;
      division = (among y i).0;
      free = (among y i).1;
      many = refl;
      fewest = λ c d t. h c (inr (select-In (clash_free n clash) (divisions n) c (divisions_have n c d) t));
    }
