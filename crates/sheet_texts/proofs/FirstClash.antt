-- A division has a first clash, in its sheet's order, just where it is not clash-free.
use Prim.Native.Nat.{ℕ, zero, suc, ◌+◌, ◌<◌}
use mathlib.Core.Path.{◌≡◌, refl, sym, subst, ◌∙◌}
use mathlib.Core.Logic.{◌⊎◌, inl, inr, ⊎_elim}
use mathlib.Core.List.{List, [], ◌∷◌}
use mathlib.Core.Bool.{Bool, true, false, cond}
use mathlib.Core.Option.{Option, none, some}
use native.Mathlib.Nat.{not-suc-le-zero, le_of_suc-le-suc}
use native.Mathlib.Decide.{dec_lt}
use native.Mathlib.Omega.{arith}
use lib.Dec.{T}
use lib.ListN.{length}
use Rattle.sets.specs.Lists.{In, some?}
use Rattle.sets.proofs.TestLaws.{T→false}
use Rattle.clashes.specs.Divisions.{at, Canon, groups, clash_free}
use Rattle.clashes.specs.Matrix.{Valid}
use Rattle.clashes.proofs.ColouringLaws.{canon_below, free_proper, proper_free}
use Rattle.sheet_texts.specs.Sheet.{members_of, clash_in, or_else, clash_from, clash_line}
use Rattle.sheet_texts.proofs.Groups.{Rising, rising-In, members_risen, member_of, of_member}
use Rattle.sheet_texts.proofs.ReadBack.{some-In, In-some}

module _ (clash : ℕ → ℕ → Bool) where
  -- no member clashes with an earlier one
  in_none : (seen l : List ℕ) (line : ℕ) → ((i x : ℕ) → In i l → In x seen ⊎ In x l → ¬ T (clash i x)) → clash_in clash seen l line ≡ none
  in_none seen [] line h = refl
  in_none seen (i ∷ l) line h =
      rw (T→false (some? (clash i) seen) (λ t. let w = In-some (clash i) seen t in h i w.0 (inl refl) (inl w.1) w.2))
      (in_none (i ∷ seen) l (line + 1) (λ j x m y. h j x (inr m) (⊎_elim (λ s. ⊎_elim (λ e. inr (inl e)) (λ z. inl z) s) (λ z. inr (inr z)) y)))

  -- and the other way round: none after one that was seen
  none_seen : (seen l : List ℕ) (line : ℕ) → clash_in clash seen l line ≡ none → (i x : ℕ) → In i l → In x seen → ¬ T (clash i x)
  none_seen seen [] line e i x m s t = m
  none_seen seen (j ∷ l) line e i x m s t = go (some? (clash j) seen) refl e (none_seen (j ∷ seen) l (line + 1))
    where
      go : (b : Bool) → some? (clash j) seen ≡ b → cond b (some line) (clash_in clash (j ∷ seen) l (line + 1)) ≡ none
          → (clash_in clash (j ∷ seen) l (line + 1) ≡ none → (i x : ℕ) → In i l → In x (j ∷ seen) → ¬ T (clash i x)) → ⊥
      go true f e r = let z : ◌≡◌ {A = ℕ} 0 1 = cc in omega arith
      go false f e r = ⊎_elim (λ q. subst T f (some-In (clash j) seen x s (subst (λ (y : ℕ). T (clash y x)) q t))) (λ q. r e i x q (inr s) t) m

  -- nor after an earlier one of the same list
  none_later : (n f : ℕ) (seen l : List ℕ) (line : ℕ) → Rising n f l → clash_in clash seen l line ≡ none → (i x : ℕ) → In i l → In x l → x < i → ¬ T (clash i x)
  none_later n f seen [] line r e i x m y h t = m
  none_later n f seen (j ∷ l) line r e i x m y h t = go (some? (clash j) seen) e (λ e p q. none_later n (j + 1) (j ∷ seen) l (line + 1) r.2 e i x p q h t)
    where
      go : (b : Bool) → cond b (some line) (clash_in clash (j ∷ seen) l (line + 1)) ≡ none → (clash_in clash (j ∷ seen) l (line + 1) ≡ none → In i l → In x l → ⊥) → ⊥
      go true e c = let z : ◌≡◌ {A = ℕ} 0 1 = cc in omega arith
      go false e c =
          ⊎_elim
          (λ p. ⊎_elim (λ q. omega arith) (λ q. let b = (rising-In n (j + 1) l x r.2 q).0 in omega arith) y)
          (λ p. ⊎_elim (λ q. none_seen (j ∷ seen) l (line + 1) e i x p (inl q) t) (λ q. c e p q) y)
          m

  else_none : (x y : Option ℕ) → or_else x y ≡ none → (x ≡ none) × (y ≡ none)
  else_none none y e = (refl, e)
  else_none (some k) y e = let z : ◌≡◌ {A = ℕ} 0 1 = cc in absurd (omega arith)

  -- in each of the groups
  from_none : (c : List ℕ) (k g line : ℕ) → ((g : ℕ) (line : ℕ) → clash_in clash [] (members_of c 0 g) line ≡ none) → clash_from clash c g k line ≡ none
  from_none c zero g line h = refl
  from_none c (suc k) g line h = rw (h g (line + 1)) (from_none c k (g + 1) (line + 1 + length (members_of c 0 g)) h)

  none_from : (c : List ℕ) (k g line : ℕ) → clash_from clash c g k line ≡ none → (d : ℕ) → d < k → (l : ℕ) × (clash_in clash [] (members_of c 0 (g + d)) l ≡ none)
  none_from c zero g line e d h = absurd (not-suc-le-zero h)
  none_from c (suc k) g line e d h =
      let w = else_none (clash_in clash [] (members_of c 0 g) (line + 1)) _ e in
      go d h w.0 (none_from c k (g + 1) _ w.1)
    where
      go : (d : ℕ) → d < suc k → clash_in clash [] (members_of c 0 g) (line + 1) ≡ none
          → ((d : ℕ) → d < k → (l : ℕ) × (clash_in clash [] (members_of c 0 (g + 1 + d)) l ≡ none)) → (l : ℕ) × (clash_in clash [] (members_of c 0 (g + d)) l ≡ none)
      go zero h x r = (line + 1, let z : g + 0 ≡ g = omega arith in rw z x)
      go (suc d) h x r = let y = r d (le_of_suc-le-suc h) in (y.0, let z : g + suc d ≡ g + 1 + d = omega arith in rw z y.1)

  module _ (c : List ℕ) (canon : Canon 0 c) where
    -- clash-free: there is none
    pub free_none : T (clash_free (length c) clash c) → clash_line clash c ≡ none
    unfolding clash_line
    free_none t =
        let f = free_proper (length c) clash c t in
        from_none c (groups 0 c) 0 2
        (λ g line. in_none [] (members_of c 0 g) line
        (λ i x m y. ⊎_elim (λ z. absurd z) (λ z u. let a = of_member c g canon i m in let b = of_member c g canon x z in f i x a.0 b.0 u (a.1 ∙ sym b.1)) y))

    none_after : clash_line clash c ≡ none → (i x : ℕ) → i < length c → x < i → at c i ≡ at c x → ¬ T (clash i x)
    unfolding clash_line
    none_after e i x a b q t =
        let g = at c i in
        let w = none_from c (groups 0 c) 0 2 e g (canon_below 0 c i a) in
        let z : 0 + g ≡ g = omega arith in
        none_later (length c) 0 [] (members_of c 0 g) w.0 (members_risen c g canon) (subst (λ (h : ℕ). clash_in clash [] (members_of c 0 h) w.0 ≡ none) z w.1) i x
        (member_of c g canon i a refl) (member_of c g canon x (omega arith) (sym q)) b t

    -- and where there is none, it is clash-free
    none_free : Valid (length c) clash → clash_line clash c ≡ none → T (clash_free (length c) clash c)
    none_free v e = proper_free (length c) clash c (λ x y a b t q. go x y a b t q (dec_lt x y) (dec_lt y x))
      where
        go : (x y : ℕ) → x < length c → y < length c → T (clash x y) → at c x ≡ at c y → Dec (x < y) → Dec (y < x) → ⊥
        go x y a b t q (yes l) d = none_after e y x b l (sym q) (v.both_ways x y a b t)
        go x y a b t q (no l) (yes d) = none_after e x y a d q t
        go x y a b t q (no l) (no d) = let z : x ≡ y = omega arith in v.no_self x a (subst (λ (w : ℕ). T (clash x w)) (sym z) t)

    -- not clash-free: there is a first
    pub clash_some : Valid (length c) clash → ¬ T (clash_free (length c) clash c) → (k : ℕ) × (clash_line clash c ≡ some k)
    clash_some v h = go (clash_line clash c) refl
      where
        go : (x : Option ℕ) → clash_line clash c ≡ x → (k : ℕ) × (clash_line clash c ≡ some k)
        go none e = absurd (h (none_free v e))
        go (some k) e = (k, e)
