-- A line of a sheet, by what those before it say: the first fault that it has, or that it has none.
--
--   Held n clash t0 i k gs p mates earlier t : the first i lines of t0, of which t are the rest, say k and gs and have no fault, and what is known is that
--
-- Assumes nothing.
use Prim.Native.Nat.{ℕ, suc, ◌+◌, ◌-◌, ◌≤◌, ◌<◌}
use mathlib.Core.Path.{◌≡◌, refl, sym, ap, subst, ◌∙◌}
use mathlib.Core.Logic.{inl, inr, ⊎_elim}
use mathlib.Core.List.{List, [], ◌∷◌}
use mathlib.Core.Bool.{Bool, true, false, cond, ◌&&◌, ◌||◌}
use native.Mathlib.Omega.{arith}
use lib.Dec.{T, eqb, eqb→eq}
use lib.ListN.{length}
use Rattle.std.specs.Prelude.{None, Some}
use Rattle.sets.specs.Lists.{In, any}
use Rattle.sets.proofs.TestLaws.{and_l, and_r, and_t, or_l, or_r, or_cases, eqb_of, any_get, any_make}
use Rattle.lines.specs.Text.{Text, ended, line_no_lem, Within}
use Rattle.lines.specs.Words.{alone_of}
use Rattle.sheets.specs.Check.{size_word, behind_of, placed, none as nobody}
use Rattle.sheets.specs.declared.SheetFault.{SheetFault}
use Rattle.sheets.specs.declared.SheetFault.TheVariants.{Long, Line, Member, Order, Twice, Clash, Ends, Missing, Extra}
use Rattle.sheets.specs.declared.Progress.{Progress}
use Rattle.texts.specs.Faults.{Unended, Outside, place, Clean}
use Rattle.texts.specs.SheetFaults.{Kind, size_line, member_line, kind_of, kind_at, Group, says, laid, before, need_of, MemberPlace, OverPlace}
use Rattle.texts.specs.SheetFaults.{earliest, first_in, first_of, floor_of, now_of, earlier_of, StandsIn, ClashIn, MemberAt, HasAt, Has, sheet_order}
use Rattle.texts.proofs.ListLines.{unended_none}
use Rattle.texts.proofs.SheetKinds.{size_kind, member_kind, kind_size, kind_member}
use Rattle.texts.proofs.SheetSteps.{opening}
use Rattle.texts.proofs.SheetFaultLaws.{number_of, After, after_next, stands_split, split_stands, Found, line_clean, line_found, clean_more}

abbrev fresh_in : List ℕ → Bool
fresh_in [] = true
fresh_in (v ∷ us) = false

-- the latest group has no member yet
abbrev pub fresh_of : List Group → Bool
fresh_of [] = false
fresh_of (g ∷ gs) = fresh_in g.members

module _ (n : ℕ) (clash : ℕ → ℕ → Bool) where
  pub record Held (t0 : Text) (i k : ℕ) (gs : List Group) (p : Progress) (mates earlier : ℕ → Bool) (t : Text) : Type 0 where
    pub rest : After t0 i t
    pub clean : (j : ℕ) → j ≤ i → Clean (Has n clash t0) j
    pub lines : before t0 i ≡ laid (says k gs)
    pub left : k ≡ p.left + length gs
    pub need : p.need ≡ need_of gs
    pub floor : p.floor ≡ floor_of gs
    pub first : p.first ≡ first_of gs
    pub fresh : p.fresh ≡ fresh_of gs
    pub entries : (v : ℕ) → In v (now_of gs) → (1 ≤ v) × (v ≤ n)
    pub mates_in : (j : ℕ) → T (mates j) → In (suc j) (now_of gs)
    pub in_mates : (j : ℕ) → In (suc j) (now_of gs) → T (mates j)
    pub earlier_in : (j : ℕ) → T (earlier j) → StandsIn (earlier_of gs) (suc j)
    pub in_earlier : (j : ℕ) → StandsIn (earlier_of gs) (suc j) → T (earlier j)

  -- ---- after the last group, ended or not

  module _ (t0 : Text) (i k : ℕ) (gs : List Group) (e : before t0 i ≡ laid (says k gs)) (w : Within t0 (suc i)) (c : (j : ℕ) → j ≤ i → Clean (Has n clash t0) j) where
    pub extra : OverPlace (says k gs) → Found n clash t0 Extra (suc i)
    extra o = line_found n clash t0 i (says k gs) e Extra w c o low
      where
        low : (g : SheetFault) → place sheet_order (number_of g) < place sheet_order (number_of Extra) → ¬ HasAt n clash t0 (suc i) (says k gs) (number_of g)
        low Line c x = ⊎_elim (λ y. ⊎_elim (λ z. z.0) (λ y. ⊎_elim (λ z. omega (arith, z.0.1, o.1)) (λ z. omega (arith, z.0, o.0)) y) y) (λ y. y.1 o) x
        low Member c x = omega (arith, x.1.0, o.0)
        low Order c x = omega (arith, x.1.0, o.0)
        low Twice c x = omega (arith, x.1.0, o.0)
        low Clash c x = omega (arith, x.1.0, o.0)
        low Extra c x = omega arith
        low Ends c x = x
        low Missing c x = x
        low Long c x = x

    pub misshaped : HasAt n clash t0 (suc i) (says k gs) (number_of Line) → Found n clash t0 Line (suc i)
    misshaped a = line_found n clash t0 i (says k gs) e Line w c a (λ g c x. omega arith)

  -- ---- a line that is ended

  module _ (t0 : Text) (i k : ℕ) (gs : List Group) (p : Progress) (mates earlier : ℕ → Bool) (l : List ℕ) (t : Text) (h : Held t0 i k gs p mates earlier (ended l t)) where
    pub in-text : Within t0 (suc i)
    in-text = (omega arith, omega (arith, h.rest.many))

    kind_is : kind_at t0 (suc i) ≡ kind_of l
    kind_is = let e : i ≡ i + 0 = omega arith in ap kind_of (ap (line_no_lem t0) e ∙ h.rest.line 0)

    closed : ¬ Unended t0 (suc i)
    closed u = let e : suc i ≡ suc (i + 0) = omega arith in unended_none t (h.rest.cut_back 0 (subst (Unended t0) e u))

    refuse : (f : SheetFault) → HasAt n clash t0 (suc i) (says k gs) (number_of f)
        → ((g : SheetFault) → place sheet_order (number_of g) < place sheet_order (number_of f) → ¬ HasAt n clash t0 (suc i) (says k gs) (number_of g)) → Found n clash t0 f (suc i)
    refuse f a low = line_found n clash t0 i (says k gs) h.lines f in-text h.clean a low

    -- ---- at the place of a size

    pub no_size : p.need < 1 → 1 ≤ p.left → ((s : ℕ) → 1 ≤ s → ¬ (behind_of size_word l ≡ Some s)) → Found n clash t0 Line (suc i)
    no_size a b e =
        misshaped t0 i k gs h.lines in-text h.clean
        (inl (inr (inl ((omega (arith, h.need), omega (arith, h.left)), λ s c q. e s c (kind_size l s (sym kind_is ∙ q))))))

    pub size_held : p.need < 1 → 1 ≤ p.left → (s : ℕ) → 1 ≤ s → behind_of size_word l ≡ Some s
        → Held t0 (suc i) k (record { size = s; members = [] } ∷ gs) (opening p s) nobody (λ j. earlier j || mates j) t
    size_held a b s c e = record {
      rest = after_next t0 i l t h.rest;
      clean = clean_more n clash t0 i h.clean (line_clean n clash t0 i (says k gs) h.lines clean);
      lines = ap (λ (x : Kind). x ∷ before t0 i) (kind_is ∙ size_kind l s e) ∙ ap (λ (x : List Kind). size_line s ∷ x) h.lines;
      left = omega (arith, h.left);
      need = omega arith;
      floor = h.first;
      first = h.first;
      fresh = refl;
      entries = λ v x. absurd x;
      mates_in = λ j x. absurd x;
      in_mates = λ j x. absurd x;
      earlier_in = λ j x. split_stands gs (suc j) (⊎_elim (λ y. inr (h.earlier_in j y)) (λ y. inl (h.mates_in j y)) (or_cases (earlier j) (mates j) x));
      in_earlier = λ j x. ⊎_elim (λ y. or_r (earlier j) (mates j) (h.in_mates j y)) (λ y. or_l (earlier j) (mates j) (h.in_earlier j y)) (stands_split gs (suc j) x);
    }
      where
        none : need_of gs < 1
        none = omega (arith, h.need)

        clean : (g : SheetFault) → ¬ HasAt n clash t0 (suc i) (says k gs) (number_of g)
        clean Line x = ⊎_elim (λ y. ⊎_elim (λ z. z.0) (λ y. ⊎_elim (λ z. z.1 s c (kind_is ∙ size_kind l s e)) (λ z. omega (arith, z.0, none)) y) y) (λ y. closed y.0) x
        clean Member x = omega (arith, x.1.0, none)
        clean Order x = omega (arith, x.1.0, none)
        clean Twice x = omega (arith, x.1.0, none)
        clean Clash x = omega (arith, x.1.0, none)
        clean Extra x = omega (arith, x.1, h.left)
        clean Ends x = x
        clean Missing x = x
        clean Long x = x

    -- ---- at the place of a member

    module _ (a : 1 ≤ p.need) where
      here : MemberPlace (says k gs)
      here = subst (λ (x : ℕ). 1 ≤ x) h.need a

      pub no_member : alone_of l ≡ None → Found n clash t0 Line (suc i)
      no_member e =
          misshaped t0 i k gs h.lines in-text h.clean
          (inl (inr (inr (here, λ u q. let r = kind_member l u (sym kind_is ∙ q) in let z : ◌≡◌ {A = ℕ} 0 1 = cc in omega arith))))

      module _ (u : ℕ) (e : alone_of l ≡ Some u) where
        stands : MemberAt t0 (suc i) (says k gs) u
        stands = (here, kind_is ∙ member_kind l u e)

        that : (v : ℕ) → kind_at t0 (suc i) ≡ member_line v → v ≡ u
        that v q = let z : member_line v ≡ member_line u = sym q ∙ stands.1 in cc

        shaped : ¬ HasAt n clash t0 (suc i) (says k gs) (number_of Line)
        shaped x = ⊎_elim (λ y. ⊎_elim (λ z. z.0) (λ y. ⊎_elim (λ z. omega (arith, z.0.0, here)) (λ z. z.1 u stands.1) y) y) (λ y. closed y.0) x

        entered : (1 ≤ u) × (u ≤ n) → ¬ HasAt n clash t0 (suc i) (says k gs) (number_of Member)
        entered b x = ⊎_elim (λ y. omega (arith, that x.0 x.1.1, b.0)) (λ y. omega (arith, that x.0 x.1.1, b.1)) x.2

        ordered : p.floor < u → ¬ HasAt n clash t0 (suc i) (says k gs) (number_of Order)
        ordered b x = omega (arith, that x.0 x.1.1, x.2, h.floor)

        back : 1 ≤ u → suc (u - 1) ≡ u
        back b = omega arith

        calm : any n (λ j. mates j && clash (u - 1) j) ≡ false → ¬ HasAt n clash t0 (suc i) (says k gs) (number_of Clash)
        calm c x =
            let o = subst (ClashIn clash (now_of gs)) (that x.0 x.1.1) x.2 in
            let v = o.0 in
            let w = h.entries v o.1 in
            let z : suc (v - 1) ≡ v = omega (arith, w.0) in
            subst T c (any_make n (λ j. mates j && clash (u - 1) j) (v - 1) (omega (arith, w.0, w.1))
            (and_t (mates (v - 1)) (clash (u - 1) (v - 1)) (h.in_mates (v - 1) (subst (λ (y : ℕ). In y (now_of gs)) (sym z) o.1)) o.2))

        pub outside : Outside n u → Found n clash t0 Member (suc i)
        outside o = refuse Member (u, stands, o) low
          where
            low : (g : SheetFault) → place sheet_order (number_of g) < place sheet_order (number_of Member) → ¬ HasAt n clash t0 (suc i) (says k gs) (number_of g)
            low Line c x = shaped x
            low Member c x = omega arith
            low Order c x = omega arith
            low Twice c x = omega arith
            low Clash c x = omega arith
            low Extra c x = omega arith
            low Ends c x = x
            low Missing c x = x
            low Long c x = x

        module _ (b : (1 ≤ u) × (u ≤ n)) where
          pub unordered : u ≤ p.floor → Found n clash t0 Order (suc i)
          unordered d = refuse Order (u, stands, omega (arith, h.floor)) low
            where
              low : (g : SheetFault) → place sheet_order (number_of g) < place sheet_order (number_of Order) → ¬ HasAt n clash t0 (suc i) (says k gs) (number_of g)
              low Line c x = shaped x
              low Member c x = entered b x
              low Order c x = omega arith
              low Twice c x = omega arith
              low Clash c x = omega arith
              low Extra c x = omega arith
              low Ends c x = x
              low Missing c x = x
              low Long c x = x

          module _ (d : p.floor < u) where
            pub twice : earlier (u - 1) ≡ true → Found n clash t0 Twice (suc i)
            twice q = refuse Twice (u, stands, subst (StandsIn (earlier_of gs)) (back b.0) (h.earlier_in (u - 1) (subst T (sym q) tt))) low
              where
                low : (g : SheetFault) → place sheet_order (number_of g) < place sheet_order (number_of Twice) → ¬ HasAt n clash t0 (suc i) (says k gs) (number_of g)
                low Line c x = shaped x
                low Member c x = entered b x
                low Order c x = ordered d x
                low Twice c x = omega arith
                low Clash c x = omega arith
                low Extra c x = omega arith
                low Ends c x = x
                low Missing c x = x
                low Long c x = x

            module _ (q : earlier (u - 1) ≡ false) where
              once : ¬ HasAt n clash t0 (suc i) (says k gs) (number_of Twice)
              once x = subst T q (h.in_earlier (u - 1) (subst (StandsIn (earlier_of gs)) (that x.0 x.1.1 ∙ sym (back b.0)) x.2))

              pub clashes : any n (λ j. mates j && clash (u - 1) j) ≡ true → Found n clash t0 Clash (suc i)
              clashes c =
                  let w = any_get n (λ j. mates j && clash (u - 1) j) (subst T (sym c) tt) in
                  let j = w.0 in
                  let z : suc j - 1 ≡ j = omega arith in
                  refuse Clash (
                    u,
                    stands,
                    (
                      suc j,
                      h.mates_in j (and_l (mates j) (clash (u - 1) j) w.2),
                      subst (λ (y : ℕ). T (clash (u - 1) y)) (sym z) (and_r (mates j) (clash (u - 1) j) w.2),
                    ),
                  ) low
                where
                  low : (g : SheetFault) → place sheet_order (number_of g) < place sheet_order (number_of Clash) → ¬ HasAt n clash t0 (suc i) (says k gs) (number_of g)
                  low Line c x = shaped x
                  low Member c x = entered b x
                  low Order c x = ordered d x
                  low Twice c x = once x
                  low Clash c x = omega arith
                  low Extra c x = omega arith
                  low Ends c x = x
                  low Missing c x = x
                  low Long c x = x

              pub member_clean : any n (λ j. mates j && clash (u - 1) j) ≡ false → (g : SheetFault) → ¬ HasAt n clash t0 (suc i) (says k gs) (number_of g)
              member_clean c Line x = shaped x
              member_clean c Member x = entered b x
              member_clean c Order x = ordered d x
              member_clean c Twice x = once x
              member_clean c Clash x = calm c x
              member_clean c Extra x = omega (arith, x.0, here)
              member_clean c Ends x = x
              member_clean c Missing x = x
              member_clean c Long x = x

  first_held : (us : List ℕ) (f u first : ℕ) (fresh : Bool) → fresh ≡ fresh_in us → first ≡ first_in us f → cond fresh u first ≡ earliest u us
  first_held [] f u first fresh a b = rw a
  first_held (v ∷ us) f u first fresh a b = rw a b

  pub member_held : (t0 : Text) (i k : ℕ) (g : Group) (gs : List Group) (p : Progress) (mates earlier : ℕ → Bool) (l : List ℕ) (t : Text)
      → Held t0 i k (g ∷ gs) p mates earlier (ended l t) → 1 ≤ p.need → (u : ℕ) → alone_of l ≡ Some u → (1 ≤ u) × (u ≤ n) → p.floor < u
      → earlier (u - 1) ≡ false → any n (λ j. mates j && clash (u - 1) j) ≡ false
      → Held t0 (suc i) k (record { size = g.size; members = u ∷ g.members } ∷ gs) (placed p u) (λ j. mates j || eqb (u - 1) j) earlier t
  member_held t0 i k g gs p mates earlier l t h a u e b d c q = record {
    rest = after_next t0 i l t h.rest;
    clean = clean_more n clash t0 i h.clean (line_clean n clash t0 i (says k (g ∷ gs)) h.lines (member_clean t0 i k (g ∷ gs) p mates earlier l t h a u e b d c q));
    lines = ap (λ (x : Kind). x ∷ before t0 i) (kind_is t0 i k (g ∷ gs) p mates earlier l t h ∙ member_kind l u e) ∙ ap (λ (x : List Kind). member_line u ∷ x) h.lines;
    left = h.left;
    need = omega (arith, h.need);
    floor = refl;
    first = first_held g.members (first_of gs) u p.first p.fresh h.fresh h.first;
    fresh = refl;
    entries = λ v x. ⊎_elim (λ y. (omega (arith, b.0), omega (arith, b.1))) (λ y. h.entries v y) x;
    mates_in = λ j x. ⊎_elim (λ y. inr (h.mates_in j y)) (λ y. inl (omega (arith, eqb→eq (u - 1) j y, b.0))) (or_cases (mates j) (eqb (u - 1) j) x);
    in_mates = λ j x. ⊎_elim (λ y. or_r (mates j) (eqb (u - 1) j) (eqb_of (u - 1) j (omega arith))) (λ y. or_l (mates j) (eqb (u - 1) j) (h.in_mates j y)) x;
    earlier_in = h.earlier_in;
    in_earlier = h.in_earlier;
  }
