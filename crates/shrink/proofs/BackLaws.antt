-- Laws of putting back: a seating whose groups have no clash stays so, a covered entry needs no group more, and one with fewer than L clashes finds
-- one of L groups. Assumes nothing.
use mathlib.Core.Path.{◌≡◌, refl, sym, ap, ◌∙◌, subst, subst₂}
use mathlib.Core.Logic.{◌⊎◌, inl, inr, ◌≢◌}
use mathlib.Core.Bool.{Bool, true, false, not, ◌&&◌, cond}
use mathlib.Core.List.{List, [], ◌∷◌, map}
use mathlib.Core.Option.{Option}
use Prim.Native.Nat.{ℕ, zero, suc, ◌≤◌, ◌<◌, max}
use native.Mathlib.Nat.{le_refl, le_trans, le_of_eq}
use native.Mathlib.Decide.{ℕ_discrete}
use native.Mathlib.Omega.{arith}
use lib.Dec.{T, eqb, eqb→eq, T_not, not_T}
use lib.ListN.{length, length-set, length-map}
use lib.Seq.{get_or-set_same, get_or-set_other}
use Rattle.sets.specs.Lists.{In, count, any, upto, members, lowest, some?}
use Rattle.sets.proofs.TestLaws.{and_l, and_r, and_t, eqb_of, T?, all_get, all_make, any_get, any_make}
use Rattle.sets.proofs.ListLaws.{no_dup_le, In-map, length_table, get_d_table}
use Rattle.sets.proofs.MemberLaws.{count_upto, members_count, members_no_dup, In-members, members-In, Lowest, found, nowhere, lowest_cases}
use Rattle.clashes.specs.Labels.{place}
use Rattle.clashes.specs.Matrix.{Valid}
use Rattle.clashes.specs.Divisions.{at, clash_free}
use Rattle.clashes.proofs.NumberLaws.{place_in, place_at}
use Rattle.clashes.proofs.ColouringLaws.{canon_below, free_proper}
use Rattle.shrink.specs.Rules.{Removal, covered, few, entry, without, or_else, clashing, left, among}
use Rattle.shrink.specs.Back.{Seating, into, admits, home, put, back, spread}
use Rattle.shrink.specs.Shrunk.{is_few, fewest}
use Rattle.shrink.specs.Steps.{Allowed, Steps, Fits}
use Rattle.shrink.proofs.RuleLaws.{without_in, in_without, without_other, left_in}

pub every_below : (m : ℕ) → count (λ (j : ℕ). true) (upto m) ≡ m
unfolding upto
every_below zero = refl
every_below (suc m) = omega (arith, count_upto (λ j. true) m, every_below m)

-- a list that has each number below m has m elements at least
all_below : (m : ℕ) (l : List ℕ) → ((j : ℕ) → j < m → In j l) → m ≤ length l
all_below m l h =
    le_trans (le_of_eq (sym (members_count (λ j. true) m ∙ every_below m)))
    (no_dup_le (members (λ j. true) m) l (members_no_dup (λ j. true) m) (λ j i. h j (In-members (λ j. true) m j i).0))

module _ (n : ℕ) (clash : ℕ → ℕ → Bool) where
  module _ (valid : Valid n clash) (p : ℕ → Bool) (v : ℕ) (b : v < n) (s : Seating) (f : Fits n clash (without v p) s) where
    module _ (j : ℕ) where
      at_v : (x : ℕ) → x ≡ v → at (into v j s).group x ≡ j
      at_v x e = ap (at (into v j s).group) e ∙ get_or-set_same s.group v j 0 (omega (arith, f.long))

      at_other : (x : ℕ) → x ≢ v → at (into v j s).group x ≡ at s.group x
      at_other x q = get_or-set_other s.group v x j 0 q

      -- v goes where nobody clashes with it
      into_fits : ((y : ℕ) → y < n → T (without v p y) → T (clash v y) → at s.group y ≢ j) → Fits n clash p (into v j s)
      into_fits free = record {
        long = omega (arith, length-set s.group v j, f.long);
        below = λ x a t. low x a t (ℕ_discrete x v);
        apart = λ x y a c t u k. clear x y a c t u k (ℕ_discrete x v) (ℕ_discrete y v);
      }
        where
          low : (x : ℕ) → x < n → T (p x) → Dec (x ≡ v) → at (into v j s).group x < (into v j s).many
          low x a t (yes e) = omega (arith, at_v x e)
          low x a t (no q) = omega (arith, at_other x q, f.below x a (without_in v p x t q))

          clear : (x y : ℕ) → x < n → y < n → T (p x) → T (p y) → T (clash x y) → Dec (x ≡ v) → Dec (y ≡ v)
              → at (into v j s).group x ≢ at (into v j s).group y
          clear x y a c t u k (yes d) (yes e) z = valid.no_self x a (subst (λ (w : ℕ). T (clash x w)) (e ∙ sym d) k)
          clear x y a c t u k (yes d) (no e) z =
              free y c (without_in v p y u e) (subst (λ (w : ℕ). T (clash w y)) d k) (sym (at_other y e) ∙ sym z ∙ at_v x d)
          clear x y a c t u k (no d) (yes e) z =
              free x a (without_in v p x t d) (subst (λ (w : ℕ). T (clash w x)) e (valid.both_ways x y a c k)) (sym (at_other x d) ∙ z ∙ at_v y e)
          clear x y a c t u k (no d) (no e) z =
              f.apart x y a c (without_in v p x t d) (without_in v p y u e) k (sym (at_other x d) ∙ z ∙ at_other y e)

    -- ---- the lowest group that admits v, or a new one

    abbrev q : ℕ → Bool
    q = without v p

    foe : ℕ → ℕ → Bool
    foe j x = q x && (clash v x && eqb (at s.group x) j)

    record Home (j : ℕ) : Type 0 where
      free : (y : ℕ) → y < n → T (q y) → T (clash v y) → at s.group y ≢ j
      room : (suc j ≤ s.many) ⊎ ((j ≡ s.many) × (s.many ≤ clashing n clash p v))

    admitted : (j : ℕ) → T (admits n clash q s v j) → (y : ℕ) → y < n → T (q y) → T (clash v y) → at s.group y ≢ j
    unfolding foe
    admitted j t y b h k e =
        T_not (foe j y) (all_get n (λ x. not (foe j x)) t y b)
        (and_t (q y) (clash v y && eqb (at s.group y) j) h (and_t (clash v y) (eqb (at s.group y) j) k (eqb_of (at s.group y) j e)))

    -- in a group that does not admit v stands an entry that clashes with it
    refused : (j : ℕ) → ¬ T (admits n clash q s v j) → In j (map (at s.group) (members (λ w. p w && clash v w) n))
    unfolding foe
    refused j t = go (T? (any n (foe j)))
      where
        go : Dec (T (any n (foe j))) → In j (map (at s.group) (members (λ w. p w && clash v w) n))
        go (yes h) =
            let i = any_get n (foe j) h in
            let x : ℕ = i.0 in
            let r = and_r (q x) (clash v x && eqb (at s.group x) j) i.2 in
            subst (λ (z : ℕ). In z (map (at s.group) (members (λ w. p w && clash v w) n)))
            (eqb→eq (at s.group x) j (and_r (clash v x) (eqb (at s.group x) j) r))
            (In-map (at s.group) (members (λ w. p w && clash v w) n) x
            (members-In (λ w. p w && clash v w) n x i.1
            (and_t (p x) (clash v x) (in_without v p x (and_l (q x) (clash v x && eqb (at s.group x) j) i.2))
            (and_l (clash v x) (eqb (at s.group x) j) r))))
        go (no h) = absurd (t (all_make n (λ x. not (foe j x)) (λ x b. not_T (foe j x) (λ z. h (any_make n (foe j) x b z)))))

    home_is : Home (home n clash q s v)
    home_is = go (lowest (admits n clash q s v) s.many) (lowest_cases (admits n clash q s v) s.many)
      where
        go : (o : Option ℕ) → Lowest (admits n clash q s v) s.many o → Home (or_else s.many o)
        go o (found j l) = record { free = admitted j l.passes; room = inl l.below }
        go o (nowhere h) = record {
          free = λ y c t k e. let z : ⊥ = omega (arith, f.below y c t) in z;
          room = inr (
            refl,
            le_trans (all_below s.many (map (at s.group) (members (λ w. p w && clash v w) n)) (λ j l. refused j (h j l)))
                (le_of_eq (length-map (members (λ w. p w && clash v w) n) (at s.group) ∙ members_count (λ w. p w && clash v w) n)),
          );
        }

  -- ---- one entry put back

  module _ (L : ℕ) (valid : Valid n clash) where
    -- how many groups there may be when r is back
    abbrev at_most : Removal → ℕ → ℕ
    at_most (covered v u) m = m
    at_most (few v) m = max L m

    record Put (p : ℕ → Bool) (r : Removal) (s t : Seating) : Type 0 where
      fits : Fits n clash p t
      many : t.many ≤ at_most r s.many

    put_is : (p : ℕ → Bool) (r : Removal) → Allowed L n clash p r → (s : Seating) → Fits n clash (without (entry r) p) s
        → Put p r s (put n clash (without (entry r) p) r s)
    put_is p (covered v u) g s f = record {
      fits = into_fits valid p v g.below s f (at s.group u)
          (λ y c t k e. f.apart u y g.other_below c u_in t (g.shared y c (in_without v p y t) k) (sym e));
      many = omega (arith, f.below u g.other_below u_in);
    }
      where
        u_in : T (without v p u)
        u_in = without_in v p u g.other g.differ
    put_is p (few v) g s f =
        let h = home_is valid p v g.below s f in
        record { fits = into_fits valid p v g.below s f (home n clash (without v p) s v) h.free; many = most h.room }
      where
        most : (suc (home n clash (without v p) s v) ≤ s.many) ⊎ ((home n clash (without v p) s v ≡ s.many) × (s.many ≤ clashing n clash p v))
            → max s.many (suc (home n clash (without v p) s v)) ≤ max L s.many
        most (inl l) = omega arith
        most (inr (e, l)) = omega (arith, g.less)

    -- ---- all of them

    pub few_most : (rs : List Removal) (k : ℕ) → fewest L rs k ≤ max L k
    few_most rs k = go (some? is_few rs)
      where
        go : (b : Bool) → cond b (max L k) k ≤ max L k
        go true = omega arith
        go false = omega arith

    pub back_fits : (p : ℕ → Bool) (rs : List Removal) → Steps L n clash p rs → (s : Seating) → Fits n clash (left p rs) s
        → Fits n clash p (back n clash p rs s)
    unfolding back
    back_fits p [] g s f = f
    back_fits p (r ∷ rs) g s f =
        (put_is p r g.0 (back n clash (without (entry r) p) rs s) (back_fits (without (entry r) p) rs g.1 s f)).fits

    pub back_many : (p : ℕ → Bool) (rs : List Removal) → Steps L n clash p rs → (s : Seating) → Fits n clash (left p rs) s
        → (back n clash p rs s).many ≤ fewest L rs s.many
    unfolding back
    back_many p [] g s f = le_refl s.many
    back_many p (covered v u ∷ rs) g s f =
        le_trans (put_is p (covered v u) g.0 (back n clash (without v p) rs s) (back_fits (without v p) rs g.1 s f)).many
        (back_many (without v p) rs g.1 s f)
    back_many p (few v ∷ rs) g s f =
        omega (
          arith,
          (put_is p (few v) g.0 (back n clash (without v p) rs s) (back_fits (without v p) rs g.1 s f)).many,
          back_many (without v p) rs g.1 s f,
          few_most rs s.many,
        )

  pub back_none : (p : ℕ → Bool) (s : Seating) → back n clash p [] s ≡ s
  unfolding back
  back_none p s = refl

  pub back_more : (p : ℕ → Bool) (r : Removal) (rs : List Removal) (s : Seating)
      → back n clash p (r ∷ rs) s ≡ put n clash (without (entry r) p) r (back n clash (without (entry r) p) rs s)
  unfolding back
  back_more p r rs s = refl

  -- who never went keeps its group
  put_keeps : (p : ℕ → Bool) (r : Removal) (s : Seating) (x : ℕ) → x ≢ entry r → at (put n clash p r s).group x ≡ at s.group x
  put_keeps p (covered v u) s x q = get_or-set_other s.group v x (at s.group u) 0 q
  put_keeps p (few v) s x q = get_or-set_other s.group v x (home n clash p s v) 0 q

  pub back_keeps : (p : ℕ → Bool) (rs : List Removal) (s : Seating) (x : ℕ) → T (left p rs x) → at (back n clash p rs s).group x ≡ at s.group x
  unfolding back
  back_keeps p [] s x t = refl
  back_keeps p (r ∷ rs) s x t =
      put_keeps (without (entry r) p) r (back n clash (without (entry r) p) rs s) x
      (without_other (entry r) p x (left_in (without (entry r) p) rs x t))
      ∙ back_keeps (without (entry r) p) rs s x t

  -- ---- the seating of the shrunk list

  module _ (p : ℕ → Bool) (c : List ℕ) where
    abbrev l : List ℕ
    l = members p n

    pub spread_at : (x : ℕ) → x < n → at (spread n l c).group x ≡ at c (place ℕ_discrete x l)
    spread_at x b = get_d_table (λ x. at c (place ℕ_discrete x l)) n 0 x b

    pub spread_fits : length c ≡ length l → T (clash_free (length l) (among l clash) c) → Fits n clash p (spread n l c)
    spread_fits e t = record {
      long = omega (arith, length_table (λ x. at c (place ℕ_discrete x l)) n);
      below = λ x b h. let i = place_in ℕ_discrete x l (members-In p n x b h) in
          omega (arith, spread_at x b, canon_below 0 c (place ℕ_discrete x l) (omega arith));
      apart = λ x y a b h k u z.
          let i = members-In p n x a h in
          let j = members-In p n y b k in
          free_proper (length l) (among l clash) c t (place ℕ_discrete x l) (place ℕ_discrete y l) (place_in ℕ_discrete x l i)
          (place_in ℕ_discrete y l j)
          (subst₂ (λ (v w : ℕ). T (clash v w)) (sym (place_at ℕ_discrete x 0 l i)) (sym (place_at ℕ_discrete y 0 l j)) u)
          (sym (spread_at x a) ∙ z ∙ spread_at y b);
    }
