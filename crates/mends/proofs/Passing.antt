-- A sheet that passes is mended to itself, with an empty report. A sheet that was written is, as typed, its division's groups (`sheet_groups`).
--
--   sheet_groups c : the groups of the sheet that is written for the division c, as they are typed
--   keep_all g l   : the entries l, kept one after the other
--   Are g gs       : the tests gs are those of the groups g, g + 1, .. of the division c
--   Earlier g seen : the entries seen are those of the groups before group g
use Prim.Native.Nat.{ℕ, zero, suc, ◌+◌, ◌-◌, ◌≤◌, ◌<◌, zero-le}
use mathlib.Core.Path.{◌≡◌, refl, sym, ap, subst, ◌∙◌}
use mathlib.Core.Logic.{◌⊎◌, inl, inr, ⊎_elim}
use mathlib.Core.List.{List, [], ◌∷◌, ◌++◌, map}
use mathlib.Core.Bool.{Bool, true, false, cond, not, ◌&&◌, ◌||◌}
use native.Mathlib.Decide.{ℕ_discrete, dec_lt}
use native.Mathlib.Omega.{arith}
use lib.Dec.{T}
use lib.ListN.{length}
use Rattle.sets.specs.Lists.{In, put, any, over}
use Rattle.sets.proofs.TestLaws.{and_t, or_cases, T→true, T→false, not_t, t_not, any_make, any_get, and_l, and_r}
use Rattle.sets.proofs.ListLaws.{map-In}
use Rattle.sets.proofs.MemberLaws.{members_none}
use Rattle.clashes.specs.Divisions.{at, Canon, groups, division, clash_free}
use Rattle.clashes.proofs.ColouringLaws.{free_proper, canon_below}
use Rattle.clashes.proofs.DivisionLaws.{division_unique}
use Rattle.lists.specs.Read.{inside}
use Rattle.sheet_texts.specs.Sheet.{members_of}
use Rattle.sheet_texts.proofs.Groups.{Rising, rising-In, group_led, members_risen, member_of, of_member}
use Rattle.mends.specs.Mend.{none, with, Going, taken, clashes, keeping, lifting, sees, member_of_lem, closed, group_of, start, gone, again, admit, group_place, mended}
use Rattle.mends.specs.Report.{dropped_in, dropped_lines, dropped_text, put_text, report_text}
use Rattle.mends.proofs.Groups.{with_cases, with_old, with_new}
use Rattle.mends.proofs.Seen.{entry_inside, seen_was}

abbrev pub sheet_groups_from : List ℕ → ℕ → ℕ → List (List ℕ)
sheet_groups_from c g zero = []
sheet_groups_from c g (suc k) = map suc (members_of c 0 g) ∷ sheet_groups_from c (g + 1) k

abbrev pub sheet_groups : List ℕ → List (List ℕ)
sheet_groups c = sheet_groups_from c 0 (groups 0 c)

-- ---- kept, all of them

abbrev keep_all : Going → List ℕ → Going
keep_all g [] = g
keep_all g (i ∷ l) = keep_all (keeping g i) l

-- between two groups
abbrev between : (ℕ → Bool) → (ℕ → Bool) → List (ℕ → Bool) → Going
between seen lifted gs = record { seen = seen; lifted = lifted; mates = none; groups = gs }

-- what a group has then
mates_were : (l : List ℕ) (g : Going) (x : ℕ) → T ((keep_all g l).mates x) → T (g.mates x) ⊎ In x l
mates_were [] g x t = inl t
mates_were (i ∷ l) g x t = ⊎_elim (λ a. ⊎_elim inl (λ e. inr (inl e)) (with_cases g.mates i x a)) (λ m. inr (inr m)) (mates_were l (keeping g i) x t)

mates_old : (l : List ℕ) (g : Going) (x : ℕ) → T (g.mates x) → T ((keep_all g l).mates x)
mates_old [] g x t = t
mates_old (i ∷ l) g x t = mates_old l (keeping g i) x (with_old g.mates i x t)

mates_new : (l : List ℕ) (g : Going) (x : ℕ) → In x l → T ((keep_all g l).mates x)
mates_new [] g x m = absurd m
mates_new (i ∷ l) g x m =
    ⊎_elim (λ e. mates_old l (keeping g i) x (subst (λ (y : ℕ). T (with g.mates i y)) (sym e) (with_new g.mates i))) (λ k. mates_new l (keeping g i) x k) m

seen_were : (l : List ℕ) (g : Going) (x : ℕ) → T ((keep_all g l).seen x) → T (g.seen x) ⊎ In x l
seen_were [] g x t = inl t
seen_were (i ∷ l) g x t = ⊎_elim (λ a. ⊎_elim inl (λ e. inr (inl e)) (with_cases g.seen i x a)) (λ m. inr (inr m)) (seen_were l (keeping g i) x t)

seen_stay : (l : List ℕ) (g : Going) (x : ℕ) → T (g.seen x) → T ((keep_all g l).seen x)
seen_stay [] g x t = t
seen_stay (i ∷ l) g x t = seen_stay l (keeping g i) x (with_old g.seen i x t)

seen_new : (l : List ℕ) (g : Going) (x : ℕ) → In x l → T ((keep_all g l).seen x)
seen_new [] g x m = absurd m
seen_new (i ∷ l) g x m =
    ⊎_elim (λ e. seen_stay l (keeping g i) x (subst (λ (y : ℕ). T (with g.seen i y)) (sym e) (with_new g.seen i))) (λ k. seen_new l (keeping g i) x k) m

lifted_same : (l : List ℕ) (g : Going) → (keep_all g l).lifted ≡ g.lifted
lifted_same [] g = refl
lifted_same (i ∷ l) g = lifted_same l (keeping g i)

groups_same : (l : List ℕ) (g : Going) → (keep_all g l).groups ≡ g.groups
groups_same [] g = refl
groups_same (i ∷ l) g = groups_same l (keeping g i)

module _ (n : ℕ) where
  -- an entry that was not seen is not dropped
  new_taken : (seen : ℕ → Bool) (i : ℕ) → i < n → ¬ T (seen i) → taken n seen (suc i) ≡ true
  new_taken seen i h t =
      let e : suc i - 1 ≡ i = omega arith in
      T→true _ (and_t (inside n (suc i)) (not (seen (suc i - 1))) (entry_inside n i h) (not_t (seen (suc i - 1)) (λ s. t (subst (λ (y : ℕ). T (seen y)) e s))))

  new_sees : (seen : ℕ → Bool) (i : ℕ) → i < n → ¬ T (seen i) → sees n seen (suc i) ≡ with seen i
  new_sees seen i h t =
      let e : suc i - 1 ≡ i = omega arith in
      ap (λ (b : Bool). cond b (with seen (suc i - 1)) seen) (new_taken seen i h t) ∙ ap (with seen) e

  -- rising entries that were not seen: none is dropped
  calm_none : (l : List ℕ) (seen : ℕ → Bool) (line f : ℕ) → Rising n f l → ((i : ℕ) → In i l → ¬ T (seen i)) → dropped_in n seen line (map suc l) ≡ []
  calm_none [] seen line f r d = refl
  calm_none (i ∷ l) seen line f r d =
      ap (λ (b : Bool). put (not b) line (dropped_in n (sees n seen (suc i)) (line + 1) (map suc l))) (new_taken seen i r.1 (d i (inl refl)))
      ∙ ap (λ (p : ℕ → Bool). dropped_in n p (line + 1) (map suc l)) (new_sees seen i r.1 (d i (inl refl)))
      ∙ calm_none l (with seen i) (line + 1) (i + 1) r.2
      (λ j m t. ⊎_elim (d j (inr m)) (λ e. omega (arith, (rising-In n (i + 1) l j r.2 m).0)) (with_cases seen i j t))

module _ (n : ℕ) (clash : ℕ → ℕ → Bool) (c : List ℕ) (canon : Canon 0 c) (long : length c ≡ n) (free : T (clash_free n clash c)) where
  -- rising entries of one group that were not seen: all are kept
  calm_kept : (g : ℕ) (l : List ℕ) (st : Going) (f : ℕ) → Rising n f l → ((i : ℕ) → In i l → at c i ≡ g) → ((i : ℕ) → T (st.mates i) → (i < n) × (at c i ≡ g))
      → ((i : ℕ) → In i l → ¬ T (st.seen i)) → over (member_of_lem n clash) st (map suc l) ≡ keep_all st l
  calm_kept g [] st f r a b d = refl
  calm_kept g (i ∷ l) st f r a b d =
      let e : suc i - 1 ≡ i = omega arith in
      let q : clashes n clash st.mates i ≡ false = T→false _ (λ t. let w = any_get n (λ j. st.mates j && clash i j) t in
      let m = b w.0 (and_l (st.mates w.0) (clash i w.0) w.2) in
      free_proper n clash c free i w.0 r.1 w.1 (and_r (st.mates w.0) (clash i w.0) w.2) (a i (inl refl) ∙ sym m.1)) in
      ap (λ (x : Bool). over (member_of_lem n clash) (cond x (cond (clashes n clash st.mates (suc i - 1)) (lifting st (suc i - 1)) (keeping st (suc i - 1))) st) (map suc l))
      (new_taken n st.seen i r.1 (d i (inl refl)))
      ∙ ap (λ (j : ℕ). over (member_of_lem n clash) (cond (clashes n clash st.mates j) (lifting st j) (keeping st j)) (map suc l)) e
      ∙ ap (λ (x : Bool). over (member_of_lem n clash) (cond x (lifting st i) (keeping st i)) (map suc l)) q
      ∙ calm_kept g l (keeping st i) (i + 1) r.2 (λ j m. a j (inr m))
      (λ j t. ⊎_elim (b j) (λ z. (omega (arith, r.1), ap (at c) z ∙ a i (inl refl))) (with_cases st.mates i j t))
      (λ j m t. ⊎_elim (d j (inr m)) (λ z. omega (arith, (rising-In n (i + 1) l j r.2 m).0)) (with_cases st.seen i j t))

  -- ---- the groups, one after the other

  abbrev Earlier : ℕ → (ℕ → Bool) → Type 0
  Earlier g seen = (i : ℕ) → T (seen i) → at c i < g

  abbrev Is : ℕ → (ℕ → Bool) → Type 0
  Is g p = (x : ℕ) → x < n → (T (p x) → at c x ≡ g) × (at c x ≡ g → T (p x))

  abbrev Are : ℕ → List (ℕ → Bool) → Type 0
  Are g [] = Unit {0}
  Are g (p ∷ gs) = Is g p × Are (g + 1) gs

  rising : (g : ℕ) → Rising n 0 (members_of c 0 g)
  rising g = subst (λ (m : ℕ). Rising m 0 (members_of c 0 g)) long (members_risen c g canon)

  apart : (g : ℕ) (seen : ℕ → Bool) → Earlier g seen → (i : ℕ) → In i (members_of c 0 g) → ¬ T (seen i)
  apart g seen h i m t = omega (arith, h i t, (of_member c g canon i m).1)

  later : (g : ℕ) (seen : ℕ → Bool) → Earlier g seen → Earlier (g + 1) (over (sees n) seen (map suc (members_of c 0 g)))
  later g seen h i t =
      ⊎_elim (λ a. omega (arith, h i a))
      (λ a. let w = map-In suc (members_of c 0 g) (suc i) a.1 in
      let e : w.0 ≡ i = omega (arith, w.2) in
      omega (arith, (of_member c g canon w.0 w.1).1, ap (at c) e))
      (seen_was n (map suc (members_of c 0 g)) seen i t)

  none_dropped : (k g : ℕ) (seen : ℕ → Bool) (line : ℕ) → Earlier g seen → dropped_lines n seen line (sheet_groups_from c g k) ≡ []
  none_dropped zero g seen line h = refl
  none_dropped (suc k) g seen line h =
      let us = map suc (members_of c 0 g) in
      ap (λ (l : List ℕ). l ++ dropped_lines n (over (sees n) seen us) (line + 1 + length us) (sheet_groups_from c (g + 1) k))
      (calm_none n (members_of c 0 g) seen (line + 1) 0 (rising g) (apart g seen h))
      ∙ none_dropped k (g + 1) (over (sees n) seen us) (line + 1 + length us) (later g seen h)

  -- what is known after the groups before group g, each kept whole
  record Calm (g : ℕ) (st : Going) : Type 0 where
    none_lifted : st.lifted ≡ none
    no_mates : st.mates ≡ none
    earlier : Earlier g st.seen
    all_seen : (i : ℕ) → i < n → at c i < g → T (st.seen i)
    count : length st.groups ≡ g
    are : Are 0 st.groups

  are_snoc : (gs : List (ℕ → Bool)) (g : ℕ) (p : ℕ → Bool) → Are g gs → Is (g + length gs) p → Are g (gs ++ p ∷ [])
  are_snoc [] g p a h = let e : g + 0 ≡ g = omega arith in (subst (λ (k : ℕ). Is k p) e h, tt)
  are_snoc (q ∷ gs) g p a h =
      let e : g + suc (length gs) ≡ g + 1 + length gs = omega arith in
      (a.0, are_snoc gs (g + 1) p a.1 (subst (λ (k : ℕ). Is k p) e h))

  length_snoc : (gs : List (ℕ → Bool)) (p : ℕ → Bool) → length (gs ++ p ∷ []) ≡ length gs + 1
  length_snoc [] p = omega arith
  length_snoc (q ∷ gs) p = omega (arith, length_snoc gs p)

  group_calm : (g : ℕ) (st : Going) → g < groups 0 c → Calm g st → Calm (g + 1) (group_of n clash st (map suc (members_of c 0 g)))
  group_calm g st h k = subst (Calm (g + 1)) (sym whole) next
    where
      mate : (x : ℕ) → ¬ T (st.mates x)
      mate x t = subst (λ (p : ℕ → Bool). T (p x)) k.no_mates t

      kept : over (member_of_lem n clash) st (map suc (members_of c 0 g)) ≡ keep_all st (members_of c 0 g)
      kept =
          calm_kept g (members_of c 0 g) st 0 (rising g) (λ i m. (of_member c g canon i m).1) (λ i t. absurd (mate i t)) (apart g st.seen k.earlier)

      is : Is g (keep_all st (members_of c 0 g)).mates
      is x b = (
        λ t. ⊎_elim (λ a. absurd (mate x a)) (λ m. (of_member c g canon x m).1) (mates_were (members_of c 0 g) st x t),
        λ e. mates_new (members_of c 0 g) st x (member_of c g canon x (omega arith) e),
      )

      some : any n (keep_all st (members_of c 0 g)).mates ≡ true
      some =
          let led = group_led c g canon h in
          let i = subst (In led.first) (sym led.whole) (inl refl) in
          T→true _ (any_make n (keep_all st (members_of c 0 g)).mates led.first (omega (arith, (of_member c g canon led.first i).0)) (mates_new (members_of c 0 g) st led.first i))

      whole : group_of n clash st (map suc (members_of c 0 g))
          ≡ between (keep_all st (members_of c 0 g)).seen st.lifted (st.groups ++ (keep_all st (members_of c 0 g)).mates ∷ [])
      whole =
          let t = keep_all st (members_of c 0 g) in
          ap (closed n) kept
          ∙ ap (λ (b : Bool). between t.seen t.lifted (t.groups ++ put b t.mates [])) some
          ∙ ap (λ (p : ℕ → Bool). between t.seen p (t.groups ++ t.mates ∷ [])) (lifted_same (members_of c 0 g) st)
          ∙ ap (λ (gs : List (ℕ → Bool)). between t.seen st.lifted (gs ++ t.mates ∷ [])) (groups_same (members_of c 0 g) st)

      next : Calm (g + 1) (between (keep_all st (members_of c 0 g)).seen st.lifted (st.groups ++ (keep_all st (members_of c 0 g)).mates ∷ []))
      next = record {
        none_lifted = k.none_lifted;
        no_mates = refl;
        earlier = λ i t. ⊎_elim (λ a. omega (arith, k.earlier i a)) (λ m. omega (arith, (of_member c g canon i m).1)) (seen_were (members_of c 0 g) st i t);
        all_seen = λ i b e. put_in i b e (dec_lt (at c i) g);
        count = length_snoc st.groups (keep_all st (members_of c 0 g)).mates ∙ ap (λ (x : ℕ). x + 1) k.count;
        are =
            let z : g ≡ 0 + length st.groups = omega (arith, k.count) in
            are_snoc st.groups 0 (keep_all st (members_of c 0 g)).mates k.are (subst (λ (x : ℕ). Is x (keep_all st (members_of c 0 g)).mates) z is);
      }
        where
          put_in : (i : ℕ) → i < n → at c i < g + 1 → Dec (at c i < g) → T ((keep_all st (members_of c 0 g)).seen i)
          put_in i b e (yes l) = seen_stay (members_of c 0 g) st i (k.all_seen i b l)
          put_in i b e (no l) = seen_new (members_of c 0 g) st i (member_of c g canon i (omega arith) (omega arith))

  groups_calm : (k g : ℕ) (st : Going) → g + k ≡ groups 0 c → Calm g st → Calm (groups 0 c) (over (group_of n clash) st (sheet_groups_from c g k))
  groups_calm zero g st e h = let z : g ≡ groups 0 c = omega arith in subst (λ (x : ℕ). Calm x st) z h
  groups_calm (suc k) g st e h = groups_calm k (g + 1) (group_of n clash st (map suc (members_of c 0 g))) (omega arith) (group_calm g st (omega arith) h)

  all_calm : Calm (groups 0 c) (gone n clash (sheet_groups c))
  all_calm = groups_calm (groups 0 c) 0 start (omega arith) (record {
    none_lifted = refl;
    no_mates = refl;
    earlier = λ i t. absurd t;
    all_seen = λ i b l. absurd (omega arith);
    count = refl;
    are = tt;
  })

  none_again : again n (gone n clash (sheet_groups c)) ≡ []
  none_again =
      let s = gone n clash (sheet_groups c) in
      members_none (λ e. s.lifted e || not (s.seen e)) n
      (λ x h t. ⊎_elim (λ a. subst (λ (p : ℕ → Bool). T (p x)) all_calm.none_lifted a)
      (λ a. t_not (s.seen x) a (all_calm.all_seen x h (canon_below 0 c x (omega arith)))) (or_cases (s.lifted x) (not (s.seen x)) t))

  place_is : (gs : List (ℕ → Bool)) (g x : ℕ) → x < n → Are g gs → g ≤ at c x → at c x < g + length gs → group_place gs x + g ≡ at c x
  place_is [] g x h a l u = omega arith
  place_is (p ∷ gs) g x h a l u = go (p x) refl (place_is gs (g + 1) x h a.1)
    where
      go : (b : Bool) → p x ≡ b → (g + 1 ≤ at c x → at c x < g + 1 + length gs → group_place gs x + (g + 1) ≡ at c x) → cond b 0 (suc (group_place gs x)) + g ≡ at c x
      go true e r = omega (arith, (a.0 x h).0 (subst T (sym e) tt))
      go false e r = let d : ¬ (at c x ≡ g) = (λ q. subst T e ((a.0 x h).1 q)) in omega (arith, r (omega arith) (omega arith))

  pub passing_same : mended n clash (sheet_groups c) ≡ c
  passing_same =
      let gs = (gone n clash (sheet_groups c)).groups in
      ap (λ (es : List ℕ). division ℕ_discrete n (group_place (over (admit n clash) gs es))) none_again
      ∙ sym (division_unique ℕ_discrete n (group_place gs) c canon long (λ x. x) (λ i j hi hj e. e)
      (λ i h. omega (arith, place_is gs 0 i h all_calm.are zero-le (omega (arith, all_calm.count, canon_below 0 c i (omega arith))))))

  pub passing_silent : report_text n clash (sheet_groups c) ≡ []
  passing_silent =
      ap (λ (l : List ℕ). dropped_text l ++ put_text (mended n clash (sheet_groups c)) (again n (gone n clash (sheet_groups c)))) (none_dropped (groups 0 c) 0 none 2 (λ i t. absurd t))
      ∙ ap (put_text (mended n clash (sheet_groups c))) none_again
