-- Laws of divisions: how many groups there can be, and every entry alone; `divisions n` has each of them exactly once, and every labelling has exactly
-- one. Assumes nothing.
use mathlib.Core.Path.{◌≡◌, refl, sym, ap, ◌∙◌, subst}
use mathlib.Core.Logic.{◌≢◌}
use mathlib.Core.HLevel.{Discrete}
use mathlib.Core.Bool.{Bool}
use mathlib.Core.List.{List, [], ◌∷◌, map, head-eq_of_cons-eq, tail-eq_of_cons-eq}
use Prim.Native.Nat.{ℕ, zero, suc, ◌+◌, ◌≤◌, ◌<◌, max}
use native.Mathlib.Nat.{le_of_suc-le-suc, not-suc-le-zero}
use native.Mathlib.Decide.{ℕ_discrete}
use native.Mathlib.Omega.{arith}
use lib.Dec.{T}
use lib.ListN.{length, length-map}
use lib.Seq.{ext_get_or}
use Rattle.sets.specs.Lists.{count, table}
use Rattle.sets.proofs.TestLaws.{bit_one, bit_zero}
use Rattle.sets.proofs.ListLaws.{count_append, count_map, length_table, In-table, table-In}
use Rattle.clashes.specs.Labels.{place, distinct}
use Rattle.clashes.specs.Colouring.{cardinality}
use Rattle.clashes.specs.Divisions.{at, Canon, groups, heads, divs, division, alone}
use Rattle.clashes.proofs.NumberLaws.{place_inj, distinct_new, number_length, number_canon, number_groups, number_is, number_unique}

-- no more groups than entries
pub groups_fit : (m : ℕ) (c : List ℕ) → Canon m c → groups m c ≤ m + length c
groups_fit m [] g = omega arith
groups_fit m (k ∷ c) g = omega (arith, groups_fit (max m (suc k)) c g.1, g.0)

-- every entry alone is as many groups as there are entries
pub alone_groups : (n : ℕ) → groups 0 (alone n) ≡ n
alone_groups n = go 0 n (λ i. i) (λ i. omega arith) ∙ omega arith
  where
    go : (m n : ℕ) (f : ℕ → ℕ) → ((i : ℕ) → f i ≡ m + i) → groups m (table f n) ≡ m + n
    go m zero f h = omega arith
    go m (suc n) f h =
        ap (λ k. groups k (table (λ i. f (suc i)) n)) e ∙ go (suc m) n (λ i. f (suc i)) (λ i. omega (arith, h (suc i))) ∙ omega arith
      where
        e : max m (suc (f zero)) ≡ suc m
        e = omega (arith, h 0)

-- ---- each canonical list stands in `divs` once

heads_step : (p : List ℕ → Bool) (f : ℕ → List (List ℕ)) (k : ℕ) → count p (heads f (suc k)) ≡ count p (heads f k) + count (λ c. p (k ∷ c)) (f k)
heads_step p f k = count_append p (heads f k) (map (λ c. k ∷ c) (f k)) ∙ ap (λ m. count p (heads f k) + m) (count_map p (λ c. k ∷ c) (f k))

heads_zero : (p : List ℕ → Bool) (f : ℕ → List (List ℕ)) (k : ℕ) → ((j : ℕ) → j < k → count (λ c. p (j ∷ c)) (f j) ≡ 0) → count p (heads f k) ≡ 0
heads_zero p f zero h = refl
heads_zero p f (suc k) h = omega (arith, heads_step p f k, heads_zero p f k (λ j l. h j (omega arith)), h k (omega arith))

heads_one : (p : List ℕ → Bool) (f : ℕ → List (List ℕ)) (k i : ℕ) → i < k → count (λ c. p (i ∷ c)) (f i) ≡ 1
    → ((j : ℕ) → j < k → j ≢ i → count (λ c. p (j ∷ c)) (f j) ≡ 0) → count p (heads f k) ≡ 1
heads_one p f zero i l e h = absurd (not-suc-le-zero l)
heads_one p f (suc k) i l e h = go (ℕ_discrete k i) (λ q. heads_one p f k i q e (λ j b. h j (omega arith)))
  where
    go : Dec (k ≡ i) → (i < k → count p (heads f k) ≡ 1) → count p (heads f (suc k)) ≡ 1
    go (yes d) r =
        omega (arith, heads_step p f k, heads_zero p f k (λ j b. h j (omega arith) (omega arith)), subst (λ x. count (λ c. p (x ∷ c)) (f x) ≡ 1) (sym d) e)
    go (no d) r = omega (arith, heads_step p f k, r (omega arith), h k (omega arith) d)

divs_zero : (n m : ℕ) (p : List ℕ → Bool) → ((d : List ℕ) → Canon m d → length d ≡ n → ¬ T (p d)) → count p (divs n m) ≡ 0
divs_zero zero m p h = omega (arith, bit_zero (p []) (h [] tt refl))
divs_zero (suc n) m p h =
    heads_zero p (λ k. divs n (max m (suc k))) (suc m)
    (λ j l. divs_zero n (max m (suc j)) (λ c. p (j ∷ c)) (λ d g e. h (j ∷ d) (omega arith, g) (ap suc e)))

-- A test that one canonical list passes, and no other one, counts 1
pub divs_one : (n m : ℕ) (p : List ℕ → Bool) (c : List ℕ) → Canon m c → length c ≡ n → T (p c)
    → ((d : List ℕ) → Canon m d → length d ≡ n → T (p d) → d ≡ c) → count p (divs n m) ≡ 1
divs_one zero m p [] g e t u = omega (arith, bit_one (p []) t)
divs_one zero m p (k ∷ c) g e t u = absurd (omega arith)
divs_one (suc n) m p [] g e t u = absurd (omega arith)
divs_one (suc n) m p (k ∷ c) g e t u =
    heads_one p (λ k. divs n (max m (suc k))) (suc m) k (omega arith)
    (divs_one n (max m (suc k)) (λ d. p (k ∷ d)) c g.1 (omega arith) t (λ d g' e' t'. tail-eq_of_cons-eq (u (k ∷ d) (g.0, g') (ap suc e') t')))
    (λ j l q. divs_zero n (max m (suc j)) (λ d. p (j ∷ d)) (λ d g' e' t'. q (head-eq_of_cons-eq (u (j ∷ d) (omega arith, g') (ap suc e') t'))))

module _ {A : Type 0} (same : Discrete A) where
  -- ---- the division of a labelling

  map_table_at : (h : A → ℕ) (f : ℕ → A) (n i : ℕ) → i < n → at (map h (table f n)) i ≡ h (f i)
  map_table_at h f zero i b = absurd (not-suc-le-zero b)
  map_table_at h f (suc n) zero b = refl
  map_table_at h f (suc n) (suc i) b = map_table_at h (λ i. f (suc i)) n i (le_of_suc-le-suc b)

  pub division_canon : (n : ℕ) (f : ℕ → A) → Canon 0 (division same n f)
  division_canon n f = number_canon same [] (table f n)

  pub division_length : (n : ℕ) (f : ℕ → A) → length (division same n f) ≡ n
  division_length n f = number_length same [] (table f n) ∙ length_table f n

  pub division_groups : (n : ℕ) (f : ℕ → A) → groups 0 (division same n f) ≡ cardinality same n f
  division_groups n f = number_groups same [] (table f n)

  division_at : (n : ℕ) (f : ℕ → A) (i : ℕ) → i < n → at (division same n f) i ≡ place same (f i) (distinct same [] (table f n))
  division_at n f i b = ap (λ c. at c i) (number_is same [] (table f n)) ∙ map_table_at (λ x. place same x (distinct same [] (table f n))) f n i b

  -- two vertices are in one group just where their labels are equal
  pub division_same : (n : ℕ) (f : ℕ → A) (i j : ℕ) → i < n → j < n → f i ≡ f j → at (division same n f) i ≡ at (division same n f) j
  division_same n f i j a b e = division_at n f i a ∙ ap (λ x. place same x (distinct same [] (table f n))) e ∙ sym (division_at n f j b)

  pub division_diff : (n : ℕ) (f : ℕ → A) (i j : ℕ) → i < n → j < n → at (division same n f) i ≡ at (division same n f) j → f i ≡ f j
  division_diff n f i j a b e =
      place_inj same (f i) (f j) (distinct same [] (table f n))
      (distinct_new same [] (table f n) (f i) (In-table f n i a)) (distinct_new same [] (table f n) (f j) (In-table f n j b))
      (sym (division_at n f i a) ∙ e ∙ division_at n f j b)

  -- the division is the only canonical list that has a labelling's equalities
  pub division_unique : (n : ℕ) (f : ℕ → A) (c : List ℕ) → Canon 0 c → length c ≡ n
      → (h : A → ℕ) → ((i j : ℕ) → i < n → j < n → h (f i) ≡ h (f j) → f i ≡ f j) → ((i : ℕ) → i < n → at c i ≡ h (f i)) → c ≡ division same n f
  division_unique n f c g e h inj is =
      eq ∙ number_unique same (λ x. (i : ℕ) × (i < n) × (x ≡ f i)) h
      (λ x y a b q. a.2 ∙ inj a.0 b.0 a.1 b.1 (ap h (sym a.2) ∙ q ∙ ap h b.2) ∙ sym b.2)
      [] (table f n) (λ x i. absurd i) (λ x i. table-In f n x i) (λ x i. absurd i) (λ k b. absurd (not-suc-le-zero b)) (subst (λ d. Canon 0 d) eq g)
    where
      eq : c ≡ map h (table f n)
      eq =
          ext_get_or 0 c (map h (table f n)) (e ∙ sym (length-map (table f n) h ∙ length_table f n))
          (λ i b. let b' : i < n = omega arith in is i b' ∙ sym (map_table_at h f n i b'))
