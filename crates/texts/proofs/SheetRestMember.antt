-- What is left of a sheet that is accepted, with a member at its front. Assumes nothing.
use Prim.Native.Nat.{ℕ, ◌+◌, ◌-◌, ◌≤◌, ◌<◌, zero-le}
use mathlib.Core.Path.{◌≡◌, refl, sym, ap, subst, ◌∙◌}
use mathlib.Core.Logic.{◌⊎◌, inl, inr, ⊎_elim}
use mathlib.Core.List.{List, [], ◌∷◌, ◌++◌, append_assoc}
use mathlib.Core.Bool.{Bool, cond, ◌&&◌, ◌||◌}
use native.Mathlib.Decide.{dec_lt}
use native.Mathlib.Omega.{arith}
use lib.Dec.{T, eqb, eqb→eq}
use lib.ListN.{length, take, drop, set, length-set}
use lib.Seq.{get_or-set_same, get_or-set_other, length-take-le}
use Rattle.sets.specs.Lists.{bit}
use Rattle.sets.proofs.TestLaws.{and_t, or_l, or_r, or_cases, any_make, eqb_of, bit_few}
use Rattle.clashes.specs.Divisions.{at}
use Rattle.clashes.specs.Matrix.{Valid}
use Rattle.lines.specs.Text.{Text, ended}
use Rattle.lines.specs.Numeral.{one_line}
use Rattle.sheets.specs.Check.{placed}
use Rattle.sheets.specs.declared.Progress.{Progress}
use Rattle.sheet_texts.specs.Sheet.{members_of, member_lines, groups_text}
use Rattle.texts.proofs.LineBytes.{bytes_of}
use Rattle.texts.proofs.Numbered.{members_none, members_next}
use Rattle.texts.proofs.SheetSteps.{SaysMember}
use Rattle.texts.proofs.SheetRest.{Known, Rest, no_length, fresh_cases, line_text, at_take}

module _ (most n : ℕ) (few : n ≤ most) (clash : ℕ → ℕ → Bool) (valid : Valid n clash) where
  module _ (p : Progress) (mates earlier : ℕ → Bool) (colours : List ℕ) (st : Known most n p mates earlier colours) (l : List ℕ) (q : Progress) (i g : ℕ)
      (s : SaysMember n clash p mates earlier l q i g) where
    pub member_known : Known most n (placed p (i + 1)) (λ j. mates j || eqb i j) earlier (set colours i (p.opened - 1))
    member_known = record {
      size = length-set colours i (p.opened - 1) ∙ st.size;
      mate_floor = λ j x. ⊎_elim (λ y. omega (arith, st.mate_floor j y, s.above)) (λ y. omega (arith, eqb→eq i j y)) (or_cases (mates j) (eqb i j) x);
      mate_group = λ j x.
          ⊎_elim (λ y. omega (arith, st.mate_group j y, mate_stays j y))
          (λ y. omega (arith, ap (at (set colours i (p.opened - 1))) (eqb→eq i j y), here, st.inside s.need)) (or_cases (mates j) (eqb i j) x);
      mate_old = λ j x. refl;
      early = λ j x. omega (arith, st.early j x, early_stays j x);
      wants = zero-le;
      inside = λ h. st.inside s.need;
      lowest = λ h. absurd (omega arith);
    }
      where
        here : at (set colours i (p.opened - 1)) i ≡ p.opened - 1
        here = get_or-set_same colours i (p.opened - 1) 0 (omega (arith, s.below, st.size))

        mate_stays : (j : ℕ) → T (mates j) → at (set colours i (p.opened - 1)) j ≡ at colours j
        mate_stays j x = get_or-set_other colours i j (p.opened - 1) 0 (λ e. omega (arith, st.mate_floor j x, s.above))

        early_stays : (j : ℕ) → T (earlier j) → at (set colours i (p.opened - 1)) j ≡ at colours j
        early_stays j x = get_or-set_other colours i j (p.opened - 1) 0 (λ e. subst T (ap earlier e ∙ s.apart) x)

    pub member_rest : (t : Text) (k : ℕ) (w : List ℕ) → Rest most n clash t (placed p (i + 1)) (λ j. mates j || eqb i j) earlier (set colours i (p.opened - 1)) k w
        → Rest most n clash (ended l t) p mates earlier colours k w
    member_rest t k w r = record {
      size = r.size;
      many = r.many;
      kept = λ j x. kept j (or_cases (earlier j) (mates j) x);
      below = r.below;
      older = r.older;
      group = group;
      later = λ j h e.
          ⊎_elim (λ (f : (bit p.fresh ≡ 0) × (first ≡ p.first)). omega (arith, r.later j h (omega (arith, f.0)), f.1))
          (λ f. later j h e f.0 f.1 (dec_lt (at w j) p.opened)) (fresh_cases p.fresh (i + 1) p.first);
      used = λ j g h e b.
          ⊎_elim (λ (f : (bit p.fresh ≡ 0) × (first ≡ p.first)). r.used j g h (omega (arith, f.0)) b)
          (λ f. used j g h e b f.0 f.1 (dec_lt g p.opened)) (fresh_cases p.fresh (i + 1) p.first);
      some = λ g e b. some g e b (dec_lt g p.opened);
      free = λ x y hx hy e c. let f = r.free x y hx hy e c in free x y hx hy e c (met x f.0) (met y f.1);
      members = i ∷ r.members;
      count = omega (arith, r.count, s.need);
      ours = λ h. ours;
      lines = text;
    }
      where
        first : ℕ
        first = cond p.fresh (i + 1) p.first

        here : at w i + 1 ≡ p.opened
        here =
            let a = r.kept i (or_r (earlier i) (mates i || eqb i i) (or_r (mates i) (eqb i i) (eqb_of i i refl))) in
            let b = get_or-set_same colours i (p.opened - 1) 0 (omega (arith, s.below, st.size)) in
            omega (arith, st.inside s.need)

        kept : (j : ℕ) → T (earlier j) ⊎ T (mates j) → at w j ≡ at colours j
        kept j (inl x) = r.kept j (or_l (earlier j) (mates j || eqb i j) x) ∙ get_or-set_other colours i j (p.opened - 1) 0 (λ e. subst T (ap earlier e ∙ s.apart) x)
        kept j (inr x) =
            r.kept j (or_r (earlier j) (mates j || eqb i j) (or_l (mates j) (eqb i j) x))
            ∙ get_or-set_other colours i j (p.opened - 1) 0 (λ e. omega (arith, st.mate_floor j x, s.above))

        group : (j : ℕ) → j < n → at w j + 1 ≡ p.opened → T (mates j) ⊎ ((p.floor ≤ j) × (1 ≤ p.need))
        group j h e =
            ⊎_elim (λ x. ⊎_elim (λ y. inl y) (λ y. inr (omega (arith, eqb→eq i j y, s.above), s.need)) (or_cases (mates j) (eqb i j) x))
            (λ x. inr (omega (arith, x.0, s.above), s.need)) (r.group j h e)

        later : (j : ℕ) → j < n → p.opened ≤ at w j + bit p.fresh → bit p.fresh ≡ 1 → first ≡ i + 1 → Dec (at w j < p.opened) → p.first ≤ j
        later j h e f z (no d) = omega (arith, r.later j h (omega arith), st.lowest f, s.above)
        later j h e f z (yes d) =
            ⊎_elim (λ x. ⊎_elim (λ y. omega (arith, st.mate_old j y)) (λ y. omega (arith, eqb→eq i j y, st.lowest f, s.above)) (or_cases (mates j) (eqb i j) x))
            (λ x. omega (arith, x.0, st.lowest f, s.above)) (r.group j h (omega arith))

        used : (j g : ℕ) → j < n → p.opened ≤ g + bit p.fresh → g < at w j → bit p.fresh ≡ 1 → first ≡ i + 1 → Dec (g < p.opened) → (x : ℕ) × (x < j) × (at w x ≡ g)
        used j g h e b f z (no d) = r.used j g h (omega arith) b
        used j g h e b f z (yes d) = (i, omega (arith, r.later j h (omega arith)), omega (arith, here))

        some : (g : ℕ) → p.opened ≤ g + bit p.fresh → g < k → Dec (g < p.opened) → (x : ℕ) × (x < n) × (at w x ≡ g)
        some g e b (no d) = r.some g (omega arith) b
        some g e b (yes d) = (i, s.below, omega (arith, here, bit_few p.fresh))

        met : (x : ℕ) → T (earlier x || (mates x || eqb i x)) → T (earlier x || mates x) ⊎ (i ≡ x)
        met x h =
            ⊎_elim (λ y. inl (or_l (earlier x) (mates x) y))
            (λ y. ⊎_elim (λ z. inl (or_r (earlier x) (mates x) z)) (λ z. inr (eqb→eq i x z)) (or_cases (mates x) (eqb i x) y))
            (or_cases (earlier x) (mates x || eqb i x) h)

        clear : (y : ℕ) → y < n → at w i ≡ at w y → T (clash i y) → T (earlier y || mates y) → ⊥
        clear y h e c x =
            ⊎_elim (λ z. omega (arith, st.early y z, kept y (inl z), here))
            (λ z. subst T s.free (any_make n (λ j. mates j && clash i j) y h (and_t (mates y) (clash i y) z c)))
            (or_cases (earlier y) (mates y) x)

        free : (x y : ℕ) → x < n → y < n → at w x ≡ at w y → T (clash x y) → T (earlier x || mates x) ⊎ (i ≡ x) → T (earlier y || mates y) ⊎ (i ≡ y)
            → T (earlier x || mates x) × T (earlier y || mates y)
        free x y hx hy e c (inl a) (inl b) = (a, b)
        free x y hx hy e c (inr a) (inl b) = absurd (clear y hy (ap (at w) a ∙ e) (subst (λ (z : ℕ). T (clash z y)) (sym a) c) b)
        free x y hx hy e c (inl a) (inr b) = absurd (clear x hx (ap (at w) b ∙ sym e) (subst (λ (z : ℕ). T (clash z x)) (sym b) (valid.both_ways x y hx hy c)) a)
        free x y hx hy e c (inr a) (inr b) = absurd (valid.no_self x hx (subst (λ (z : ℕ). T (clash x z)) (sym b ∙ a) c))

        long : length (take n w) ≡ n
        long = length-take-le n w (omega (arith, r.size))

        after_it : r.members ≡ members_of (drop (i + 1) (take n w)) (i + 1) (p.opened - 1)
        after_it = go (dec_lt 1 p.need)
          where
            go : Dec (1 < p.need) → r.members ≡ members_of (drop (i + 1) (take n w)) (i + 1) (p.opened - 1)
            go (yes h) = r.ours (omega arith)
            go (no h) =
                no_length r.members (omega (arith, r.count))
                ∙ sym (members_none (take n w) (p.opened - 1) (i + 1) (λ j a b e.
                let d : j < n = omega (arith, long) in
                ⊎_elim (λ x. ⊎_elim (λ y. omega (arith, st.mate_floor j y, s.above)) (λ y. omega (arith, eqb→eq i j y)) (or_cases (mates j) (eqb i j) x))
                (λ x. omega (arith, x.1)) (r.group j d (omega (arith, at_take n w j d, st.inside s.need)))))

        ours : i ∷ r.members ≡ members_of (drop p.floor (take n w)) p.floor (p.opened - 1)
        ours =
            ap (λ (x : List ℕ). i ∷ x) after_it
            ∙ sym (members_next (take n w) (p.opened - 1) p.floor i s.above (omega (arith, long, s.below)) (omega (arith, at_take n w i s.below, here)) (λ j a b d e.
            let f : j < n = omega (arith, long) in
            ⊎_elim (λ x. ⊎_elim (λ y. omega (arith, st.mate_floor j y)) (λ y. omega (arith, eqb→eq i j y)) (or_cases (mates j) (eqb i j) x))
            (λ x. omega (arith, x.0)) (r.group j f (omega (arith, at_take n w j f, st.inside s.need)))))

        text : bytes_of (ended l t) ≡ member_lines (i ∷ r.members) ++ groups_text (take n w) p.opened p.left
        text =
            ap (λ (x : List ℕ). x ++ 10 ∷ bytes_of t) s.line
            ∙ line_text [] (i + 1) (bytes_of t)
            ∙ ap (λ (x : List ℕ). one_line [] (i + 1) ++ x) r.lines
            ∙ sym (append_assoc (one_line [] (i + 1)) (member_lines r.members) (groups_text (take n w) p.opened p.left))
