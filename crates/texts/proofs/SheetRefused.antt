-- A sheet that is refused is so in document 01's words, over its lines; one that is accepted has no fault.
--
--   Means n clash t a : what the answer a to the lines t says in words
--
-- Assumes nothing.
use Prim.Native.Nat.{ℕ, zero, suc, ◌+◌, ◌-◌, ◌≤◌, ◌<◌}
use mathlib.Core.Path.{◌≡◌, refl, sym, ap, subst, ◌∙◌}
use mathlib.Core.Logic.{inl, inr, ⊎_elim}
use mathlib.Core.List.{List, [], ◌∷◌}
use mathlib.Core.Bool.{Bool, true, false, cond, ◌&&◌, ◌||◌}
use native.Mathlib.Numerals.{add-one}
use native.Mathlib.Omega.{arith}
use borrow.Author.Tests.{leb-true, leb-false, ltb-true, ltb-false}
use lib.Dec.{T, leb, ltb, eqb}
use lib.ListN.{length, set}
use Rattle.std.specs.Prelude.{Option, None, Some, Result, Ok, Err}
use Rattle.sets.specs.Lists.{all, any}
use Rattle.sets.proofs.TestLaws.{or_l, or_r, or_cases, all_get}
use Rattle.lines.specs.Text.{Text, done, unended, ended, lines_of, line_count, Within}
use Rattle.lines.specs.Words.{alone_of}
use Rattle.lists.specs.Read.{inside}
use Rattle.lists.proofs.Fold.{inside_is}
use Rattle.sheets.specs.Check.{accepted, groups_word, size_word, behind_of, groups_of, size_of, placed, member_of_lem, none as nobody, start, no_colours_up_to, refused, on_line, finish, cut, after, check_from, sheet_up_to}
use Rattle.sheets.specs.declared.SheetFault.{SheetFault}
use Rattle.sheets.specs.declared.SheetFault.TheVariants.{Long, Line, Member, Order, Twice, Clash, Ends, Missing, Extra}
use Rattle.sheets.specs.declared.Refused.{Refused}
use Rattle.sheets.specs.declared.Division.{Division as Checked}
use Rattle.sheets.specs.declared.Progress.{Progress}
use Rattle.sheets.specs.declared.Step.{Step}
use Rattle.sheets.specs.declared.Step.TheVariants.{Count, Place}
use Rattle.texts.specs.Faults.{Unended, Clean, Faultless}
use Rattle.texts.specs.SheetFaults.{Kind, Group, Saying, nothing, says, laid, before, OverPlace, StandsIn, HasAt, Has, sheet_order, LacksAt, Lacks, SheetRefused}
use Rattle.texts.specs.SheetFaults as words
use Rattle.texts.proofs.Refusals.{if_cases, refusal_make, outside_is}
use Rattle.texts.proofs.ListLines.{unended_none}
use Rattle.texts.proofs.SheetKinds.{groups_kind, kind_groups, laid_one}
use Rattle.texts.proofs.SheetSteps.{opening, begins}
use Rattle.texts.proofs.SheetFaultLaws.{number_of, after_whole, after_next, stands_split, split_stands, Found, line_clean, line_found, clean_more}
use Rattle.texts.proofs.SheetLineFaults.{Held, extra, misshaped, in-text, no_size, size_held, no_member, outside, unordered, twice, clashes, member_held}

-- at an end that is not over, or where an entry is absent, a test is failed
not_all : (n : ℕ) (p : ℕ → Bool) → all n p ≡ false → (j : ℕ) × (j < n) × (p j ≡ false)
not_all zero p e = absurd (subst T e tt)
not_all (suc n) p e = go (p n) refl (all n p) refl e (not_all n p)
  where
    go : (a : Bool) → p n ≡ a → (b : Bool) → all n p ≡ b → (b && a) ≡ false → (all n p ≡ false → (j : ℕ) × (j < n) × (p j ≡ false)) → (j : ℕ) × (j < suc n) × (p j ≡ false)
    go false x b y e i = (n, omega arith, x)
    go true x false y e i = let r = i y in (r.0, omega (arith, r.1), r.2)
    go true x true y e i = absurd (subst T e tt)

module _ (most n : ℕ) (clash : ℕ → ℕ → Bool) where
  record Clear (t : Text) : Type 0 where
    clean : (k : ℕ) → k ≤ line_count t → Clean (Has n clash t) k
    full : (f : ℕ) → ¬ Lacks n t f

  abbrev Means : Text → Result Checked Refused → Type 0
  Means t (Ok d) = Clear t
  Means t (Err r) = Found n clash t r.why r.line

  found_at : (t : Text) (i : ℕ) (f : SheetFault) → Found n clash t f (suc i) → Found n clash t f (i + 1)
  found_at t i f x = subst (Found n clash t f) (sym (add-one i)) x

  -- ---- at the end

  -- the lines say one thing, so they lack only what is lacking after that
  module _ (t : Text) (x : Saying) (e : before t (line_count t) ≡ laid x) where
    lacks_at : (f : ℕ) → Lacks n t f → LacksAt n x f
    lacks_at f h = subst (λ (y : Saying). LacksAt n y f) (laid_one h.0 x (sym h.1 ∙ e)) h.2

    lacks_none : OverPlace x → ((u : ℕ) → 1 ≤ u → u ≤ n → StandsIn (words.groups_of x) u) → (f : ℕ) → ¬ Lacks n t f
    lacks_none o a f h =
        if_cases (eqb f 35) (lacks_at f h) (λ _ y. y o)
        (λ _ h. if_cases (eqb f 36) h (λ _ y. let w = y.1 in w.3 (a w.0 w.1 (omega (arith, w.1, w.2)))) (λ _ y. y))

  module _ (t0 : Text) (i k : ℕ) (gs : List Group) (p : Progress) (mates earlier : ℕ → Bool) (c : List ℕ) where
    end_means : Held n clash t0 i k gs p mates earlier done → Means t0 (finish n (Some p) mates earlier c (i + 1))
    end_means h = go (leb 1 p.need) refl (leb 1 p.left) refl (all n (λ j. earlier j || mates j)) refl
      where
        count : line_count t0 ≡ i
        count = h.rest.many ∙ omega arith

        said : before t0 (line_count t0) ≡ laid (says k gs)
        said = ap (before t0) count ∙ h.lines

        ends : (f : SheetFault) → LacksAt n (says k gs) (number_of f) → Found n clash t0 f (i + 1)
        ends f y = inr (record { line = omega (arith, count); fault = (says k gs, said, y); clean = λ j b. h.clean j (omega arith) })

        over : leb 1 p.need ≡ false → leb 1 p.left ≡ false → OverPlace (says k gs)
        over x y = (omega (arith, leb-false 1 p.need x, h.need), omega (arith, leb-false 1 p.left y, h.left))

        stood : (u : ℕ) → T (all n (λ j. earlier j || mates j)) → 1 ≤ u → u ≤ n → StandsIn gs u
        stood u a b d =
            let j = u - 1 in
            let e : suc j ≡ u = omega arith in
            let o = all_get n (λ j. earlier j || mates j) a j (omega arith) in
            subst (StandsIn gs) e (split_stands gs (suc j) (⊎_elim (λ x. inr (h.earlier_in j x)) (λ x. inl (h.mates_in j x)) (or_cases (earlier j) (mates j) o)))

        absent : (j : ℕ) → (earlier j || mates j) ≡ false → ¬ StandsIn gs (suc j)
        absent j e s = subst T e (⊎_elim (λ m. or_r (earlier j) (mates j) (h.in_mates j m)) (λ m. or_l (earlier j) (mates j) (h.in_earlier j m)) (stands_split gs (suc j) s))

        go : (x : Bool) → leb 1 p.need ≡ x → (y : Bool) → leb 1 p.left ≡ y → (z : Bool) → all n (λ j. earlier j || mates j) ≡ z
            → Means t0 (cond (cond x false (cond y false true)) (cond z (accepted n p.opened c) (refused Missing (i + 1))) (refused Ends (i + 1)))
        go false x false y true z = record {
          clean = λ j b. h.clean j (omega (arith, count));
          full = lacks_none t0 (says k gs) said (over x y) (λ u. stood u (subst T (sym z) tt));
        }
        go false x false y false z =
            let w = not_all n (λ j. earlier j || mates j) z in
            ends Missing (over x y, (suc w.0, omega arith, omega (arith, w.1), absent w.0 w.2))
        go false x true y z w = ends Ends (λ o. omega (arith, o.1, leb-true 1 p.left y, h.left))
        go true x y z w v = ends Ends (λ o. omega (arith, o.0, leb-true 1 p.need x, h.need))

    cut_means : (l : List ℕ) → Held n clash t0 i k gs p mates earlier (unended l) → Means t0 (Err (cut (Some p) (i + 1)))
    cut_means l h = go (leb 1 p.need) refl (leb 1 p.left) refl
      where
        within : Within t0 (suc i)
        within = (omega arith, omega (arith, h.rest.many))

        early : ¬ OverPlace (says k gs) → Found n clash t0 Line (i + 1)
        early o =
            let e : suc (i + 0) ≡ suc i = omega arith in
            found_at t0 i Line (misshaped n clash t0 i k gs h.lines within h.clean (inr (subst (Unended t0) e (h.rest.cut_forth 0 refl), o)))

        go : (x : Bool) → leb 1 p.need ≡ x → (y : Bool) → leb 1 p.left ≡ y
            → Means t0 (Err (cond (cond x false (cond y false true)) (on_line Extra (i + 1)) (on_line Line (i + 1))))
        go false x false y =
            found_at t0 i Extra (extra n clash t0 i k gs h.lines within h.clean
            (omega (arith, leb-false 1 p.need x, h.need), omega (arith, leb-false 1 p.left y, h.left)))
        go false x true y = early (λ o. omega (arith, o.1, leb-true 1 p.left y, h.left))
        go true x y z = early (λ o. omega (arith, o.0, leb-true 1 p.need x, h.need))

  -- ---- a line more

  -- the lines t, after i lines that say anything
  abbrev Onward : Text → Text → ℕ → Type 0
  Onward t0 t i =
      (k : ℕ) (gs : List Group) (p : Progress) (mates earlier : ℕ → Bool) (c : List ℕ) → Held n clash t0 i k gs p mates earlier t
      → Means t0 (check_from t n clash (i + 1) (Some p) mates earlier c)

  module _ (t0 : Text) (i : ℕ) (l : List ℕ) (t : Text) (next : Onward t0 t (suc i)) where
    -- what follows a step, at the line after
    abbrev Followed : Result Step SheetFault → (mates earlier : ℕ → Bool) → List ℕ → Type 0
    Followed s mates earlier c = Means t0 (after s (i + 1) mates earlier c (check_from t n clash (i + 1 + 1)))

    onward : (k : ℕ) (gs : List Group) (p : Progress) (mates earlier : ℕ → Bool) (c : List ℕ) → Held n clash t0 (suc i) k gs p mates earlier t
        → Means t0 (check_from t n clash (i + 1 + 1) (Some p) mates earlier c)
    onward k gs p mates earlier c h =
        let e : suc i + 1 ≡ i + 1 + 1 = omega arith in
        subst (λ (m : ℕ). Means t0 (check_from t n clash m (Some p) mates earlier c)) e (next k gs p mates earlier c h)

    module _ (k : ℕ) (gs : List Group) (p : Progress) (mates earlier : ℕ → Bool) (c : List ℕ) (h : Held n clash t0 i k gs p mates earlier (ended l t)) where
      size_means : p.need < 1 → 1 ≤ p.left → (a : Option ℕ) → behind_of size_word l ≡ a → Followed (size_of p a) mates earlier c
      size_means d b None e =
          found_at t0 i Line (no_size n clash t0 i k gs p mates earlier l t h d b (λ s o q. let z : ◌≡◌ {A = ℕ} 0 1 = cc in omega arith))
      size_means d b (Some s) e = go (leb 1 s) refl
        where
          zero_size : leb 1 s ≡ false → (m : ℕ) → 1 ≤ m → ¬ (behind_of size_word l ≡ Some m)
          zero_size x m o q = let z : ◌≡◌ {A = Option ℕ} (Some s) (Some m) = sym e ∙ q in let y : s ≡ m = cc in omega (arith, leb-false 1 s x)

          go : (x : Bool) → leb 1 s ≡ x → Followed (cond x (Ok (Count (opening p s))) (Err Line)) mates earlier c
          go true x = onward k _ (opening p s) nobody (λ j. earlier j || mates j) c (size_held n clash t0 i k gs p mates earlier l t h d b s (leb-true 1 s x) e)
          go false x = found_at t0 i Line (no_size n clash t0 i k gs p mates earlier l t h d b (zero_size x))

    member_means : (k : ℕ) (gs : List Group) (p : Progress) (mates earlier : ℕ → Bool) (c : List ℕ) → Held n clash t0 i k gs p mates earlier (ended l t) → 1 ≤ p.need
        → (a : Option ℕ) → alone_of l ≡ a → Followed (member_of_lem n clash p mates earlier a) mates earlier c
    member_means k [] p mates earlier c h d a e = absurd (omega (arith, h.need))
    member_means k (g ∷ gs) p mates earlier c h d None e = found_at t0 i Line (no_member n clash t0 i k (g ∷ gs) p mates earlier l t h d e)
    member_means k (g ∷ gs) p mates earlier c h d (Some u) e =
        go (inside n u) refl (ltb p.floor u) refl (earlier (u - 1)) refl (any n (λ j. mates j && clash (u - 1) j)) refl
      where
        go : (x : Bool) → inside n u ≡ x → (y : Bool) → ltb p.floor u ≡ y → (z : Bool) → earlier (u - 1) ≡ z → (w : Bool) → any n (λ j. mates j && clash (u - 1) j) ≡ w
            → Followed (cond x (cond y (cond z (Err Twice) (cond w (Err Clash) (Ok (Place (placed p u) (u - 1) (p.opened - 1))))) (Err Order)) (Err Member)) mates earlier c
        go true x true y false z false w =
            onward k _ (placed p u) (λ j. mates j || eqb (u - 1) j) earlier (set c (u - 1) (p.opened - 1))
            (member_held n clash t0 i k g gs p mates earlier l t h d u e (inside_is n u x) (ltb-true p.floor u y) z w)
        go true x true y false z true w = found_at t0 i Clash (clashes n clash t0 i k (g ∷ gs) p mates earlier l t h d u e (inside_is n u x) (ltb-true p.floor u y) z w)
        go true x true y true z w v = found_at t0 i Twice (twice n clash t0 i k (g ∷ gs) p mates earlier l t h d u e (inside_is n u x) (ltb-true p.floor u y) z)
        go true x false y z w v o = found_at t0 i Order (unordered n clash t0 i k (g ∷ gs) p mates earlier l t h d u e (inside_is n u x) (ltb-false p.floor u y))
        go false x y z w v o m = found_at t0 i Member (outside n clash t0 i k (g ∷ gs) p mates earlier l t h d u e (outside_is n u x))

    line_means : Onward t0 (ended l t) i
    line_means k gs p mates earlier c h = go (leb 1 p.need) refl (leb 1 p.left) refl
      where
        go : (x : Bool) → leb 1 p.need ≡ x → (y : Bool) → leb 1 p.left ≡ y
            → Followed (cond x (member_of_lem n clash p mates earlier (alone_of l)) (cond y (size_of p (behind_of size_word l)) (Err Extra))) mates earlier c
        go true x y z = member_means k gs p mates earlier c h (leb-true 1 p.need x) (alone_of l) refl
        go false x true y = size_means k gs p mates earlier c h (leb-false 1 p.need x) (leb-true 1 p.left y) (behind_of size_word l) refl
        go false x false y =
            found_at t0 i Extra (extra n clash t0 i k gs h.lines (in-text n clash t0 i k gs p mates earlier l t h) h.clean
            (omega (arith, leb-false 1 p.need x, h.need), omega (arith, leb-false 1 p.left y, h.left)))

  from_means : (t0 t : Text) (i : ℕ) → Onward t0 t i
  from_means t0 done i k gs p mates earlier c h = end_means t0 i k gs p mates earlier c h
  from_means t0 (unended l) i k gs p mates earlier c h = cut_means t0 i k gs p mates earlier c l h
  from_means t0 (ended l t) i k gs p mates earlier c h = line_means t0 i l t (from_means t0 t (suc i)) k gs p mates earlier c h

  -- ---- the first line

  none_before : (t : Text) (j : ℕ) → j ≤ 0 → Clean (Has n clash t) j
  none_before t zero b f h = h
  none_before t (suc j) b f h = omega arith

  lines_mean : (t : Text) → Means t (check_from t n clash 1 start nobody nobody (no_colours_up_to most))
  lines_mean done = inr (record { line = refl; fault = (nothing, refl, λ o. o); clean = λ j b. none_before done j (omega arith) })
  lines_mean (unended l) =
      line_found n clash (unended l) 0 nothing refl Line (omega arith, omega arith) (none_before (unended l)) (inr (refl, λ o. o)) (λ g b x. omega arith)
  lines_mean (ended l t) = go (behind_of groups_word l) refl
    where
      go : (a : Option ℕ) → behind_of groups_word l ≡ a → Means (ended l t) (after (groups_of a) 1 nobody nobody (no_colours_up_to most) (check_from t n clash 2))
      go None e =
          line_found n clash (ended l t) 0 nothing refl Line (omega arith, omega arith) (none_before (ended l t))
          (inl (inl (tt, λ k q. let r = kind_groups l k q in let z : ◌≡◌ {A = ℕ} 0 1 = cc in omega arith))) (λ g b x. omega arith)
      go (Some k) e = from_means (ended l t) t 1 k [] (begins k) nobody (λ j. nobody j || nobody j) (no_colours_up_to most) held
        where
          clean : (g : SheetFault) → ¬ HasAt n clash (ended l t) 1 nothing (number_of g)
          clean Line x =
              ⊎_elim (λ y. ⊎_elim (λ z. z.1 k (groups_kind l k e)) (λ y. ⊎_elim (λ z. z.0) (λ z. z.0) y) y)
              (λ y. unended_none t y.0) x
          clean Member x = x.1.0
          clean Order x = x.1.0
          clean Twice x = x.1.0
          clean Clash x = x.1.0
          clean Extra x = x
          clean Ends x = x
          clean Missing x = x
          clean Long x = x

          held : Held n clash (ended l t) 1 k [] (begins k) nobody (λ j. nobody j || nobody j) t
          held = record {
            rest = after_next (ended l t) 0 l t (after_whole (ended l t));
            clean = clean_more n clash (ended l t) 0 (none_before (ended l t)) (line_clean n clash (ended l t) 0 nothing refl clean);
            lines = ap (λ (x : Kind). x ∷ []) (groups_kind l k e);
            left = omega arith;
            need = refl;
            floor = refl;
            first = refl;
            fresh = refl;
            entries = λ v x. absurd x;
            mates_in = λ j x. absurd x;
            in_mates = λ j x. absurd x;
            earlier_in = λ j x. absurd x;
            in_earlier = λ j x. absurd x;
          }

  -- ---- the whole sheet

  -- what a sheet's answer says in words
  abbrev pub SheetMeans : ℕ → List ℕ → Result Checked Refused → Type 0
  SheetMeans longest s (Ok d) = Faultless longest s (Has n clash (lines_of s)) (Lacks n (lines_of s))
  SheetMeans longest s (Err r) = SheetRefused longest n clash s (number_of r.why) r.line

  pub sheet_means : (longest : ℕ) (s : List ℕ) → SheetMeans longest s (sheet_up_to most longest n clash s)
  sheet_means longest s = go (leb (length s) longest) refl
    where
      found : length s ≤ longest → (a : Result Checked Refused) → Means (lines_of s) a → SheetMeans longest s a
      found h (Ok d) x = record { short = h; clean = x.clean; full = x.full }
      found h (Err r) x = refusal_make longest s (Has n clash (lines_of s)) sheet_order (Lacks n (lines_of s)) never (λ y. y.2) h (number_of r.why) r.line x
        where
          never : (j : ℕ) → ¬ Has n clash (lines_of s) j 18
          never zero y = y
          never (suc j) y = y.2

      go : (b : Bool) → leb (length s) longest ≡ b
          → SheetMeans longest s (cond b (check_from (lines_of s) n clash 1 start nobody nobody (no_colours_up_to most)) (refused Long 0))
      go true e = found (leb-true (length s) longest e) (check_from (lines_of s) n clash 1 start nobody nobody (no_colours_up_to most)) (lines_mean (lines_of s))
      go false e = (refl, leb-false (length s) longest e)
