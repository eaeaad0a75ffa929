-- Laws that tie divisions to colourings: a clash-free division is a colouring, and a division has at least as many groups as labels on any of
-- its entries. Assumes nothing.
use mathlib.Core.Path.{◌≡◌, refl, sym, ap, subst}
use mathlib.Core.Logic.{◌⊎◌, inl, inr}
use mathlib.Core.Bool.{Bool, ◌&&◌}
use mathlib.Core.List.{List, [], ◌∷◌, map}
use Prim.Native.Nat.{ℕ, zero, suc, ◌+◌, ◌≤◌, ◌<◌, max}
use native.Mathlib.Nat.{not-suc-le-zero, le_of_suc-le-suc, le_refl}
use native.Mathlib.Omega.{arith}
use lib.Dec.{T, eqb, eqb→eq, T_not, not_T}
use lib.IntN.{ℤ, pos, negsuc, ℤ_discrete}
use lib.ListN.{length}
use Rattle.sets.specs.Lists.{In, table, all, members}
use Rattle.sets.proofs.TestLaws.{and_l, and_r, and_t, eqb_of, all_get, all_make}
use Rattle.sets.proofs.ListLaws.{In-table, length_table, no_dup_le, map-In}
use Rattle.sets.proofs.MemberLaws.{In-members}
use Rattle.clashes.specs.Labels.{distinct}
use Rattle.clashes.specs.Colouring.{Proper, labels_on}
use Rattle.clashes.specs.Divisions.{at, Canon, groups, parted, clash_free}
use Rattle.clashes.proofs.NumberLaws.{distinct_cases, distinct_no_dup}

-- ---- numbered by first use

pub groups_le : (m : ℕ) (c : List ℕ) → m ≤ groups m c
groups_le m [] = le_refl m
groups_le m (k ∷ c) = omega (arith, groups_le (max m (suc k)) c)

pub canon_below : (m : ℕ) (c : List ℕ) (i : ℕ) → i < length c → at c i < groups m c
canon_below m [] i b = absurd (not-suc-le-zero b)
canon_below m (k ∷ c) zero b = omega (arith, groups_le (max m (suc k)) c)
canon_below m (k ∷ c) (suc i) b = canon_below (max m (suc k)) c i (le_of_suc-le-suc b)

pub alone_canon : (m n : ℕ) (f : ℕ → ℕ) → ((i : ℕ) → f i ≡ m + i) → Canon m (table f n)
alone_canon m zero f h = tt
alone_canon m (suc n) f h =
    (omega (arith, h 0), subst (λ k. Canon k (table (λ i. f (suc i)) n)) e (alone_canon (suc m) n (λ i. f (suc i)) (λ i. omega (arith, h (suc i)))))
  where
    e : suc m ≡ max m (suc (f zero))
    e = omega (arith, h 0)

pub alone_at : (f : ℕ → ℕ) (n i : ℕ) → i < n → at (table f n) i ≡ f i
alone_at f zero i b = absurd (not-suc-le-zero b)
alone_at f (suc n) zero b = refl
alone_at f (suc n) (suc i) b = alone_at (λ i. f (suc i)) n i (le_of_suc-le-suc b)

-- ---- labels

-- a canonical list has as many groups as labels at the least, on whichever vertices
pub labels_le : (n : ℕ) (live : ℕ → Bool) (c : List ℕ) → length c ≡ n → labels_on ℤ_discrete (members live n) (λ i. pos (at c i)) ≤ groups 0 c
labels_le n live c e =
    let r = no_dup_le (distinct ℤ_discrete [] (map f (members live n))) (table pos (groups 0 c)) (distinct_no_dup ℤ_discrete [] (map f (members live n)) tt) sub in
    omega (arith, r, length_table pos (groups 0 c))
  where
    f : ℕ → ℤ
    f i = pos (at c i)

    sub : (x : ℤ) → In x (distinct ℤ_discrete [] (map f (members live n))) → In x (table pos (groups 0 c))
    sub x h = go (distinct_cases ℤ_discrete [] (map f (members live n)) x h)
      where
        go : In x [] ⊎ In x (map f (members live n)) → In x (table pos (groups 0 c))
        go (inl i) = absurd i
        go (inr i) =
            let t = map-In f (members live n) x i in
            let b = In-members live n t.0 t.1 in
            subst (λ z. In z (table pos (groups 0 c))) (sym t.2) (In-table pos (groups 0 c) (at c t.0) (canon_below 0 c t.0 (omega arith)))

abbrev nat : ℤ → ℕ
nat (pos k) = k
nat (negsuc k) = k

pub un_pos : {m k : ℕ} → pos m ≡ pos k → m ≡ k
un_pos e = ap nat e

-- ---- a clash-free division is a proper labelling

module _ (n : ℕ) (adj : ℕ → ℕ → Bool) (c : List ℕ) where
  pub free_proper : T (clash_free n adj c) → Proper n adj (at c)
  free_proper t x y a b u e =
      T_not (adj x y && eqb (at c x) (at c y)) (all_get n (parted adj c x) (all_get n (λ x. all n (parted adj c x)) t x a) y b)
      (and_t (adj x y) (eqb (at c x) (at c y)) u (eqb_of (at c x) (at c y) e))

  pub proper_free : Proper n adj (at c) → T (clash_free n adj c)
  proper_free f =
      all_make n (λ x. all n (parted adj c x))
      (λ x a. all_make n (parted adj c x)
      (λ y b. not_T (adj x y && eqb (at c x) (at c y))
      (λ t. f x y a b (and_l (adj x y) (eqb (at c x) (at c y)) t) (eqb→eq (at c x) (at c y) (and_r (adj x y) (eqb (at c x) (at c y)) t)))))
