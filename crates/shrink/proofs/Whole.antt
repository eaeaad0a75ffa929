-- For any removals that the rules allow, in whichever order: a clash-free division of the shrunk list is put back as a clash-free division of the
-- full one; from the shrunk list's chromatic number it has as many groups as the full list's, which is the answer; and the shrunk list has no more
-- clash-free divisions than the full one. Assumes nothing but that L is at most the chromatic number of the full list.
use mathlib.Core.Path.{◌≡◌, refl, sym, ap, ◌∙◌, subst}
use mathlib.Core.Logic.{inl, inr}
use mathlib.Core.Bool.{Bool, true, false, cond}
use mathlib.Core.List.{List, [], ◌∷◌, map}
use Prim.Native.Nat.{ℕ, ◌+◌, ◌≤◌, ◌<◌, max, suc}
use native.Mathlib.Nat.{le_trans, le_of_eq, le_antisymm}
use native.Mathlib.Decide.{ℕ_discrete}
use native.Mathlib.Omega.{arith}
use lib.Dec.{T, lt→ltb}
use lib.IntN.{ℤ_discrete}
use lib.ListN.{length, length-map}
use Rattle.sets.specs.Lists.{bit, In, NoDup, count, table, members, put, select, some?}
use Rattle.sets.proofs.ListLaws.{no_dup_le, In-table, length_table, map-In, select_passes, select_from, select-In}
use Rattle.sets.proofs.MemberLaws.{count_few, members_count, members_no_dup, In-members}
use Rattle.clashes.specs.Matrix.{Valid}
use Rattle.clashes.specs.Colouring.{Proper, Chromatic}
use Rattle.clashes.specs.Divisions.{at, groups, divisions, Division, division, clash_free, free_divisions}
use Rattle.clashes.proofs.DivisionLaws.{division_same, division_diff}
use Rattle.shrink.proofs.Sizes.{cardinality_list, cardinality_le}
use Rattle.shrink.proofs.Places.{at-In, place_of}
use Rattle.clashes.proofs.Meaning.{divisions_have, divisions_are, divisions_once, division_is, division_only, division_many, division_free, chromatic_fewest, chromatic_exists}
use Rattle.shrink.specs.Rules.{Removal, left, everyone, among}
use Rattle.shrink.specs.Back.{Seating, back, spread}
use Rattle.shrink.specs.Shrunk.{is_few, fewest}
use Rattle.shrink.specs.Steps.{Steps, Fits}
use Rattle.shrink.proofs.BackLaws.{back_fits, back_many, back_keeps, spread_at, spread_fits}

-- ---- lists

module _ {A : Type 0} where
  select_count : (p : A → Bool) (l : List A) → length (select p l) ≡ count p l
  select_count p [] = refl
  select_count p (x ∷ l) = go (p x) (select_count p l)
    where
      go : (b : Bool) → length (select p l) ≡ count p l → length (put b x (select p l)) ≡ bit b + count p l
      go true e = ap suc e ∙ omega arith
      go false e = e ∙ omega arith

  select_once : (p : A → Bool) (l : List A) → NoDup l → NoDup (select p l)
  select_once p [] d = tt
  select_once p (x ∷ l) d = go (p x) (select_once p l d.1)
    where
      go : (b : Bool) → NoDup (select p l) → NoDup (put b x (select p l))
      go true h = (λ i. d.0 (select_from p l x i), h)
      go false h = h

-- no element twice, in a list mapped by f, where f has a way back from its values
back_once : {A B : Type 0} (f : A → B) (g : B → A) (l : List A) → ((x : A) → In x l → g (f x) ≡ x) → NoDup l → NoDup (map f l)
back_once f g [] h d = tt
back_once f g (x ∷ l) h d = (
  λ i. let t = map-In f l (f x) i in
      d.0 (subst (λ z. In z l) (sym (sym (h x (inl refl)) ∙ ap g t.2 ∙ h t.0 (inr t.1))) t.1),
  back_once f g l (λ y i. h y (inr i)) d.1,
)

-- ---- the full list

module _ (L n : ℕ) (clash : ℕ → ℕ → Bool) (valid : Valid n clash) (rs : List Removal) (steps : Steps L n clash (everyone n) rs) where
  abbrev l : List ℕ
  l = members (left (everyone n) rs) n

  abbrev seating : List ℕ → Seating
  seating c = back n clash (everyone n) rs (spread n l c)

  abbrev full : List ℕ → List ℕ
  full c = division ℕ_discrete n (at (seating c).group)

  name_in : (i : ℕ) → i < length l → (at l i < n) × T (left (everyone n) rs (at l i))
  name_in i b = In-members (left (everyone n) rs) n (at l i) (at-In l i b)

  pub size_le : length l ≤ n
  size_le = le_trans (le_of_eq (members_count (left (everyone n) rs) n)) (count_few (left (everyone n) rs) n)

  pub among_valid : Valid (length l) (among l clash)
  among_valid = record {
    no_self = λ x b t. valid.no_self (at l x) (name_in x b).0 t;
    both_ways = λ x y a b t. valid.both_ways (at l x) (at l y) (name_in x a).0 (name_in y b).0 t;
  }

  -- a colouring of the full list colours the shrunk one
  pub shrunk_le : (k j : ℕ) → Chromatic (length l) (among l clash) k → Chromatic n clash j → k ≤ j
  shrunk_le k j C D =
      le_trans (C.smallest (λ i. D.colouring (at l i)) (λ x y a b t. D.proper (at l x) (at l y) (name_in x a).0 (name_in y b).0 t))
      (le_trans (cardinality_le ℤ_discrete (length l) n (λ i. D.colouring (at l i)) D.colouring (λ i b. (at l i, (name_in i b).0, refl)))
      (le_of_eq D.size))

  module _ (c : List ℕ) (d : Division (length l) c) (free : T (clash_free (length l) (among l clash) c)) where
    spread_ok : Fits n clash (left (everyone n) rs) (spread n l c)
    spread_ok = spread_fits n clash (left (everyone n) rs) c d.long free

    fits : Fits n clash (everyone n) (seating c)
    fits = back_fits n clash L valid (everyone n) rs steps (spread n l c) spread_ok

    proper : Proper n clash (at (seating c).group)
    proper x y a b = fits.apart x y a b (lt→ltb x n a) (lt→ltb y n b)

    pub full_division : Division n (full c)
    full_division = division_is ℕ_discrete n (at (seating c).group)

    pub full_free : T (clash_free n clash (full c))
    full_free = division_free ℕ_discrete n (at (seating c).group) clash proper

    full_most : groups 0 (full c) ≤ fewest L rs (groups 0 c)
    full_most =
        le_trans (le_of_eq (division_many ℕ_discrete n (at (seating c).group)))
        (le_trans (cardinality_list ℕ_discrete n (at (seating c).group) (table (λ j. j) (seating c).many)
        (λ i b. In-table (λ j. j) (seating c).many (at (seating c).group i) (fits.below i b (lt→ltb i n b))))
        (le_trans (le_of_eq (length_table (λ j. j) (seating c).many))
        (back_many n clash L valid (everyone n) rs steps (spread n l c) spread_ok)))

    -- the shrunk list's division can be read off
    pub full_back : division ℕ_discrete (length l) (λ i. at (full c) (at l i)) ≡ c
    full_back = sym (division_only ℕ_discrete (length l) (λ i. at (full c) (at l i)) c d (record {
      together = λ i j a b e.
          sym (group_is i a)
          ∙ division_diff ℕ_discrete n (at (seating c).group) (at l i) (at l j) (name_in i a).0 (name_in j b).0 e
          ∙ group_is j b;
      apart = λ i j a b e.
          division_same ℕ_discrete n (at (seating c).group) (at l i) (at l j) (name_in i a).0 (name_in j b).0
          (group_is i a ∙ e ∙ sym (group_is j b));
    }))
      where
        group_is : (i : ℕ) → i < length l → at (seating c).group (at l i) ≡ at c i
        group_is i b =
            back_keeps n clash (everyone n) rs (spread n l c) (at l i) (name_in i b).1
            ∙ spread_at n clash (left (everyone n) rs) c (at l i) (name_in i b).0
            ∙ ap (at c) (place_of l (members_no_dup (left (everyone n) rs) n) i b)

    -- ---- the number

    module _ (least : (k : ℕ) → Chromatic n clash k → L ≤ k) (k : ℕ) (C : Chromatic (length l) (among l clash) k) (many : groups 0 c ≡ k) where
      χ : (j : ℕ) × Chromatic n clash j
      χ = chromatic_exists n clash valid.no_self

      answer_le : fewest L rs k ≤ χ.0
      answer_le = go (some? is_few rs)
        where
          go : (b : Bool) → cond b (max L k) k ≤ χ.0
          go true = omega (arith, least χ.0 χ.1, shrunk_le k χ.0 C χ.1)
          go false = shrunk_le k χ.0 C χ.1

      le_full : χ.0 ≤ groups 0 (full c)
      le_full = (chromatic_fewest n clash χ.0 χ.1).fewest (full c) full_division full_free

      full_le : groups 0 (full c) ≤ fewest L rs k
      full_le = subst (λ (m : ℕ). groups 0 (full c) ≤ fewest L rs m) many full_most

      pub full_many : groups 0 (full c) ≡ fewest L rs k
      full_many = le_antisymm full_le (le_trans answer_le le_full)

      pub full_chromatic : Chromatic n clash (fewest L rs k)
      full_chromatic = subst (Chromatic n clash) (le_antisymm (le_trans le_full full_le) answer_le) χ.1

  -- ---- P

  pub divisions_le : free_divisions (length l) (among l clash) ≤ free_divisions n clash
  divisions_le =
      le_trans (le_of_eq (sym (length-map small full ∙ select_count (clash_free (length l) (among l clash)) (divisions (length l)))))
      (le_trans (no_dup_le (map full small) large (back_once full (λ d. division ℕ_discrete (length l) (λ i. at d (at l i))) small back_is
      (select_once (clash_free (length l) (among l clash)) (divisions (length l)) (divisions_once (length l)))) sub)
      (le_of_eq (select_count (clash_free n clash) (divisions n))))
    where
      small : List (List ℕ)
      small = select (clash_free (length l) (among l clash)) (divisions (length l))

      large : List (List ℕ)
      large = select (clash_free n clash) (divisions n)

      is : (c : List ℕ) → In c small → Division (length l) c × T (clash_free (length l) (among l clash) c)
      is c i = (
        divisions_are (length l) c (select_from (clash_free (length l) (among l clash)) (divisions (length l)) c i),
        select_passes (clash_free (length l) (among l clash)) (divisions (length l)) c i,
      )

      back_is : (c : List ℕ) → In c small → division ℕ_discrete (length l) (λ i. at (full c) (at l i)) ≡ c
      back_is c i = let h = is c i in full_back c h.0 h.1

      sub : (x : List ℕ) → In x (map full small) → In x large
      sub x i =
          let t = map-In full small x i in
          let h = is t.0 t.1 in
          subst (λ z. In z large) (sym t.2)
          (select-In (clash_free n clash) (divisions n) (full t.0) (divisions_have n (full t.0) (full_division t.0 h.0 h.1))
          (full_free t.0 h.0 h.1))
