-- A placing that is held as sets: which of them admit the next entry, and the sets once it is put into one. Assumes nothing.
use mathlib.Core.Path.{◌≡◌, sym, ap, ap₂, ◌∙◌, subst}
use mathlib.Core.Logic.{◌≢◌}
use mathlib.Core.Bool.{Bool, true, false, ◌&&◌, ◌||◌}
use mathlib.Core.List.{List, [], ◌∷◌}
use Prim.Native.Nat.{ℕ, zero, suc, ◌+◌, ◌≤◌, ◌<◌, max}
use native.Mathlib.Numerals.{add-one}
use native.Mathlib.Omega.{arith}
use native.Mathlib.Decide.{dec_lt, ℕ_discrete}
use borrow.Author.Tests.{lt-ltb, le-ltb, eq-eqb, ne_eqb}
use lib.Dec.{T, eqb, ltb, eqb→eq, ltb→lt, lt→ltb}
use lib.ListN.{length, take, set, get_or, length-set, length-take}
use lib.Seq.{take-suc-set, get_or-set_same, get_or-set_other, get_or-take}
use Rattle.sets.specs.Set.{has, IsWith, IsMeet}
use Rattle.sets.proofs.TestLaws.{and_l, and_r, and_t, or_turn, eqb_of, T→false, T-ext}
use Rattle.sets.proofs.SetLaws.{has_none, no_members}
use Rattle.clashes.specs.Matrix.{matrix}
use Rattle.clashes.specs.Divisions.{at, Canon, groups}
use Rattle.clashes.proofs.DivisionLaws.{groups_fit}
use Rattle.placing.specs.Search.{admits, put}
use Rattle.placing.specs.Going.{HoldsAt, Kept, more_of}
use Rattle.placing.proofs.CanonLaws.{groups_append, canon_append}
use Rattle.placing.proofs.PlacingLaws.{admits_make, admits_get}

module _ {cap here m : ℕ} {sets c : List ℕ} (h : HoldsAt cap here m sets c) where
  -- ---- sets and places that are as before hold the same

  pub holds_kept : {sets' c' : List ℕ} → Kept here sets c sets' c' → HoldsAt cap here m sets' c'
  holds_kept {sets'} {c'} k = record {
    numbered = subst (Canon 0) (sym k.places_same) h.numbered;
    many = ap (groups 0) k.places_same ∙ h.many;
    sets_long = ap length k.sets_same ∙ h.sets_long;
    places_long = k.places_long ∙ h.places_long;
    members = λ j i b. ap (λ (l : List ℕ). has (get_or l j zero) i) k.sets_same ∙ h.members j i b ∙ same j i (dec_lt i here);
  }
    where
      same : (j i : ℕ) → Dec (i < here) → (ltb i here && eqb (get_or c i zero) j) ≡ (ltb i here && eqb (get_or c' i zero) j)
      same j i (yes b) =
          ap (λ (z : ℕ). ltb i here && eqb z j)
          (sym (get_or-take here c i zero b) ∙ ap (λ (l : List ℕ). get_or l i zero) (sym k.places_same) ∙ get_or-take here c' i zero b)
      same j i (no q) = rw (le-ltb i here (let z : here ≤ i = omega arith in z))

  module _ (below : here < cap) where
    pub placed_many : length (take here c) ≡ here
    placed_many = length-take here c ∙ omega (arith, h.places_long)

    -- no more groups than entries placed
    pub groups_few : m ≤ here
    groups_few = omega (arith, h.many, groups_fit 0 (take here c) h.numbered, placed_many)

    module _ (j : ℕ) (inside : j < cap) where
      abbrev g : ℕ
      g = get_or sets j zero

      -- ---- the members of set j are the entries of group j

      group_of : (y : ℕ) → T (has g y) → (y < here) × (at (take here c) y ≡ j)
      group_of y t =
          let v : T (ltb y here && eqb (get_or c y zero) j) = subst T (h.members j y inside) t in
          let b = ltb→lt y here (and_l (ltb y here) (eqb (get_or c y zero) j) v) in
          (b, get_or-take here c y zero b ∙ eqb→eq (get_or c y zero) j (and_r (ltb y here) (eqb (get_or c y zero) j) v))

      of_group : (y : ℕ) → y < here → at (take here c) y ≡ j → T (has g y)
      of_group y b e =
          subst T (sym (h.members j y inside))
          (and_t (ltb y here) (eqb (get_or c y zero) j) (lt→ltb y here b) (eqb_of (get_or c y zero) j (sym (get_or-take here c y zero b) ∙ e)))

      -- ---- group j admits the next entry just where the entry's row meets the set in nothing

      module _ (rows : List ℕ) (x : ℕ) (meets : IsMeet (get_or rows here zero) g x) where
        pub met_in_none : x ≡ 0 → T (admits (matrix rows) (take here c) j)
        met_in_none e =
            admits_make (matrix rows) (take here c) j
            (λ y b t q. let l : y < here = omega (arith, placed_many) in
            subst T (sym (meets y) ∙ ap (λ (z : ℕ). has z y) e ∙ has_none y)
            (and_t (matrix rows here y) (has g y) (subst (λ (z : ℕ). T (matrix rows z y)) placed_many t) (of_group y l q)))

        pub met_in_some : x ≢ 0 → admits (matrix rows) (take here c) j ≡ false
        met_in_some q = T→false (admits (matrix rows) (take here c) j) (λ a. q (no_members x (λ y t. nowhere a y (subst T (meets y) t))))
          where
            nowhere : T (admits (matrix rows) (take here c) j) → (y : ℕ) → T (matrix rows here y && has g y) → ⊥
            nowhere a y t =
                let w = group_of y (and_r (matrix rows here y) (has g y) t) in
                admits_get (matrix rows) (take here c) j a y (omega (arith, w.0, placed_many))
                (subst (λ (z : ℕ). T (matrix rows z y)) (sym placed_many) (and_l (matrix rows here y) (has g y) t)) w.1

      -- ---- the next entry is put into group j

      module _ (g' : ℕ) (joins : IsWith g here g') where
        abbrev sets' : List ℕ
        sets' = set sets j g'

        abbrev c' : List ℕ
        c' = set c here j

        pub put_places : take (here + 1) c' ≡ put (take here c) j
        put_places = ap (λ (k : ℕ). take k c') (add-one here) ∙ take-suc-set c here j (omega (arith, h.places_long))

        own : (i : ℕ) → i ≡ here → get_or c' i zero ≡ j
        own i e = ap (λ (z : ℕ). get_or c' z zero) e ∙ get_or-set_same c here j zero (omega (arith, h.places_long))

        -- which entries are placed
        in_now : (i : ℕ) → i ≡ here → ltb i (here + 1) ≡ true
        in_now i e = lt-ltb i (here + 1) (omega arith)

        in_before : (i : ℕ) → i ≢ here → ltb i (here + 1) ≡ ltb i here
        in_before i q =
            T-ext (ltb i (here + 1)) (ltb i here) (λ t. lt→ltb i here (omega (arith, ltb→lt i (here + 1) t)))
            (λ t. lt→ltb i (here + 1) (omega (arith, ltb→lt i here t)))

        -- the other entries are where they were
        others : (k i : ℕ) → k < cap → i ≢ here → has (get_or sets k zero) i ≡ (ltb i (here + 1) && eqb (get_or c' i zero) k)
        others k i b q = h.members k i b ∙ sym (ap₂ (λ (a : Bool) (z : ℕ). a && eqb z k) (in_before i q) (get_or-set_other c here i j zero q))

        changed : (i : ℕ) → has (get_or sets' j zero) i ≡ (eqb here i || has g i)
        changed i =
            ap (λ (z : ℕ). has z i) (get_or-set_same sets j g' zero (omega (arith, h.sets_long))) ∙ joins i ∙ or_turn (has g i) (eqb here i)

        members' : (k i : ℕ) → k < cap → has (get_or sets' k zero) i ≡ (ltb i (here + 1) && eqb (get_or c' i zero) k)
        members' k i b = go (ℕ_discrete k j) (ℕ_discrete i here)
          where
            go : Dec (k ≡ j) → Dec (i ≡ here) → has (get_or sets' k zero) i ≡ (ltb i (here + 1) && eqb (get_or c' i zero) k)
            go (yes p) (yes q) =
                ap (λ (z : ℕ). has (get_or sets' z zero) i) p ∙ changed i ∙ ap (λ (z : Bool). z || has g i) (eq-eqb here i (sym q))
                ∙ sym (ap₂ (λ (a b : Bool). a && b) (in_now i q) (ap (λ (z : ℕ). eqb z k) (own i q) ∙ eq-eqb j k (sym p)))
            go (yes p) (no q) =
                ap (λ (z : ℕ). has (get_or sets' z zero) i) p ∙ changed i ∙ ap (λ (z : Bool). z || has g i) (ne_eqb here i (λ r. q (sym r)))
                ∙ ap (λ (z : ℕ). has (get_or sets z zero) i) (sym p) ∙ others k i b q
            go (no p) (yes q) =
                ap (λ (z : ℕ). has z i) (get_or-set_other sets j k g' zero p) ∙ h.members k i b
                ∙ ap (λ (z : Bool). z && eqb (get_or c i zero) k) (le-ltb i here (omega arith))
                ∙ sym (ap₂ (λ (a b : Bool). a && b) (in_now i q) (ap (λ (z : ℕ). eqb z k) (own i q) ∙ ne_eqb j k (λ r. p (sym r))))
            go (no p) (no q) = ap (λ (z : ℕ). has z i) (get_or-set_other sets j k g' zero p) ∙ others k i b q

        pub holds_put : j ≤ m → HoldsAt cap (here + 1) (more_of m j) sets' c'
        holds_put low = record {
          numbered = subst (Canon 0) (sym put_places) (canon_append 0 (take here c) (j ∷ []) h.numbered (omega (arith, h.many), tt));
          many = ap (groups 0) put_places ∙ groups_append 0 (take here c) (j ∷ []) ∙ ap (λ (k : ℕ). max k (suc j)) h.many;
          sets_long = length-set sets j g' ∙ h.sets_long;
          places_long = length-set c here j ∙ h.places_long;
          members = members';
        }
