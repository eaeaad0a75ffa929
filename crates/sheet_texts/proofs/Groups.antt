-- The groups of a division as lists of members: rising, none empty, and each after the first member of the group before it.
--
--   Rising n f l : the elements of l rise, from f on and below n
use Prim.Native.Nat.{ℕ, zero, suc, ◌+◌, ◌≤◌, ◌<◌, max, zero-le, suc-le-suc}
use mathlib.Core.Path.{◌≡◌, refl, sym, subst}
use mathlib.Core.Logic.{◌⊎◌, inl, inr, ⊎_elim}
use mathlib.Core.List.{List, [], ◌∷◌}
use mathlib.Core.Bool.{Bool, true, false}
use native.Mathlib.Nat.{le_of_suc-le-suc, not-suc-le-zero}
use native.Mathlib.Decide.{dec_lt}
use native.Mathlib.Omega.{arith}
use borrow.Author.Tests.{eq-eqb, eqb-true}
use lib.Dec.{eqb}
use lib.ListN.{length}
use Rattle.sets.specs.Lists.{In, put}
use Rattle.clashes.specs.Divisions.{at, Canon, groups}
use Rattle.sheet_texts.specs.Sheet.{members_of}

abbrev pub Rising : ℕ → ℕ → List ℕ → Type 0
Rising n f [] = Unit {0}
Rising n f (i ∷ l) = (f ≤ i) × (i < n) × Rising n (i + 1) l

pub rising_from : (n f h i : ℕ) (l : List ℕ) → Rising n f (i ∷ l) → h ≤ i → Rising n h (i ∷ l)
rising_from n f h i l r e = (e, r.1, r.2)

rising_lower : (n f h : ℕ) (l : List ℕ) → h ≤ f → Rising n f l → Rising n h l
rising_lower n f h [] e r = tt
rising_lower n f h (i ∷ l) e r = (omega (arith, r.0), r.1, r.2)

pub rising-In : (n f : ℕ) (l : List ℕ) (x : ℕ) → Rising n f l → In x l → (f ≤ x) × (x < n)
rising-In n f [] x r m = absurd m
rising-In n f (i ∷ l) x r m =
    ⊎_elim (λ e. (omega (arith, r.0), omega (arith, r.1))) (λ y. let z = rising-In n (i + 1) l x r.2 y in (omega (arith, r.0, z.0), z.1)) m

-- ---- the members of a group

module _ (g : ℕ) where
  pub members_rise : (c : List ℕ) (i : ℕ) → Rising (i + length c) i (members_of c i g)
  members_rise [] i = tt
  members_rise (x ∷ c) i =
      let e : i + 1 + length c ≡ i + suc (length c) = omega arith in
      go (eqb x g) (subst (λ (n : ℕ). Rising n (i + 1) (members_of c (i + 1) g)) e (members_rise c (i + 1)))
    where
      go : (b : Bool) → Rising (i + suc (length c)) (i + 1) (members_of c (i + 1) g) → Rising (i + suc (length c)) i (put b i (members_of c (i + 1) g))
      go true r = (omega arith, omega arith, r)
      go false r = rising_lower (i + suc (length c)) (i + 1) i (members_of c (i + 1) g) (omega arith) r

  pub In-members : (c : List ℕ) (i j : ℕ) → j < length c → at c j ≡ g → In (i + j) (members_of c i g)
  In-members [] i j h e = absurd (not-suc-le-zero h)
  In-members (x ∷ c) i zero h e = let z : i + 0 ≡ i = omega arith in rw (eq-eqb x g e) (inl z)
  In-members (x ∷ c) i (suc j) h e = go (eqb x g) (let z : i + 1 + j ≡ i + suc j = omega arith in subst (λ (y : ℕ). In y (members_of c (i + 1) g)) z (In-members c (i + 1) j (le_of_suc-le-suc h) e))
    where
      go : (b : Bool) → In (i + suc j) (members_of c (i + 1) g) → In (i + suc j) (put b i (members_of c (i + 1) g))
      go true m = inr m
      go false m = m

  pub members-In : (c : List ℕ) (i x : ℕ) → In x (members_of c i g) → (j : ℕ) × (x ≡ i + j) × (j < length c) × (at c j ≡ g)
  members-In [] i x m = absurd m
  members-In (y ∷ c) i x m = go (eqb y g) refl m (members-In c (i + 1) x)
    where
      next : (j : ℕ) × (x ≡ i + 1 + j) × (j < length c) × (at c j ≡ g) → (j : ℕ) × (x ≡ i + j) × (j < suc (length c)) × (at (y ∷ c) j ≡ g)
      next w = (suc w.0, omega (arith, w.1), suc-le-suc w.2, w.3)

      go : (b : Bool) → eqb y g ≡ b → In x (put b i (members_of c (i + 1) g)) → (In x (members_of c (i + 1) g) → (j : ℕ) × (x ≡ i + 1 + j) × (j < length c) × (at c j ≡ g))
          → (j : ℕ) × (x ≡ i + j) × (j < suc (length c)) × (at (y ∷ c) j ≡ g)
      go true e m r = ⊎_elim (λ z. (0, omega arith, suc-le-suc zero-le, eqb-true y g e)) (λ z. next (r z)) m
      go false e m r = next (r m)

-- ---- numbered by first use

-- a number that is used was used before, or by an entry
pub used_by : (m : ℕ) (c : List ℕ) (g : ℕ) → Canon m c → g < groups m c → (g < m) ⊎ ((i : ℕ) × (i < length c) × (at c i ≡ g))
used_by m [] g h l = inl l
used_by m (x ∷ c) g h l = ⊎_elim (λ b. go b (dec_lt g m)) (λ w. inr (suc w.0, suc-le-suc w.1, w.2)) (used_by (max m (suc x)) c g h.1 l)
  where
    go : g < max m (suc x) → Dec (g < m) → (g < m) ⊎ ((i : ℕ) × (i < suc (length c)) × (at (x ∷ c) i ≡ g))
    go b (yes y) = inl y
    go b (no y) = inr (0, suc-le-suc zero-le, omega (arith, h.0))

-- a smaller number than an entry's was used before, or by an earlier entry
pub used_earlier : (m : ℕ) (c : List ℕ) (j g : ℕ) → Canon m c → j < length c → g < at c j → (g < m) ⊎ ((i : ℕ) × (i < j) × (at c i ≡ g))
used_earlier m [] j g h l b = absurd (not-suc-le-zero l)
used_earlier m (x ∷ c) zero g h l b = inl (omega (arith, h.0))
used_earlier m (x ∷ c) (suc j) g h l b = ⊎_elim (λ d. go d (dec_lt g m)) (λ w. inr (suc w.0, suc-le-suc w.1, w.2)) (used_earlier (max m (suc x)) c j g h.1 (le_of_suc-le-suc l) b)
  where
    go : g < max m (suc x) → Dec (g < m) → (g < m) ⊎ ((i : ℕ) × (i < suc j) × (at (x ∷ c) i ≡ g))
    go d (yes y) = inl y
    go d (no y) = inr (0, suc-le-suc zero-le, omega (arith, h.0))

-- each group that is counted has a first member, which comes before each entry of a later group
pub record Led (c : List ℕ) (g : ℕ) (l : List ℕ) : Type 0 where
  pub first : ℕ
  pub rest : List ℕ
  pub whole : l ≡ first ∷ rest
  pub leads : (j : ℕ) → j < length c → g < at c j → first < j

module _ (c : List ℕ) (g : ℕ) (h : Canon 0 c) where
  least : (i : ℕ) (l : List ℕ) → Rising (length c) 0 (i ∷ l) → (x : ℕ) → In x (i ∷ l) → i ≤ x
  least i l r x m = ⊎_elim (λ e. omega arith) (λ y. omega (arith, (rising-In (length c) (i + 1) l x r.2 y).0)) m

  risen : Rising (length c) 0 (members_of c 0 g)
  risen = let z : 0 + length c ≡ length c = omega arith in subst (λ (n : ℕ). Rising n 0 (members_of c 0 g)) z (members_rise g c 0)

  inside : (j : ℕ) → j < length c → at c j ≡ g → In j (members_of c 0 g)
  inside j l e = let z : 0 + j ≡ j = omega arith in subst (λ (x : ℕ). In x (members_of c 0 g)) z (In-members g c 0 j l e)

  led : (l : List ℕ) → l ≡ members_of c 0 g → (i : ℕ) → In i l → Led c g l
  led [] e i m = absurd m
  led (f ∷ l) e i m = record {
    first = f;
    rest = l;
    whole = refl;
    leads = λ j b d.
        ⊎_elim (λ z. absurd (not-suc-le-zero z))
        (λ w. omega (arith, w.1, least f l (subst (Rising (length c) 0) (sym e) risen) w.0 (subst (In w.0) (sym e) (inside w.0 (omega (arith, w.1)) w.2))))
        (used_earlier 0 c j g h b d);
  }

  pub group_led : g < groups 0 c → Led c g (members_of c 0 g)
  group_led b = ⊎_elim (λ z. absurd (not-suc-le-zero z)) (λ w. led (members_of c 0 g) refl w.0 (inside w.0 w.1 w.2)) (used_by 0 c g h b)

  pub members_risen : Rising (length c) 0 (members_of c 0 g)
  members_risen = risen

  pub member_of : (j : ℕ) → j < length c → at c j ≡ g → In j (members_of c 0 g)
  member_of = inside

  pub of_member : (x : ℕ) → In x (members_of c 0 g) → (x < length c) × (at c x ≡ g)
  of_member x m =
      let w = members-In g c 0 x m in
      let z : w.0 ≡ x = omega (arith, w.1) in
      (omega (arith, w.2), subst (λ (j : ℕ). at c j ≡ g) z w.3)
