-- What is left of a sheet that is accepted, from what is known so far: its lines are those that the final group numbers would be written as. At its end,
-- and with a size at its front.
--
--   Known most n p mates earlier colours : what holds of what is known before a line
--   Rest most n clash t p mates earlier colours k w : what the lines t are, where the check of them accepts with k and the group numbers w
--
-- Assumes nothing.
use Prim.Native.Nat.{ℕ, suc, ◌+◌, ◌-◌, ◌≤◌, ◌<◌}
use mathlib.Core.Path.{◌≡◌, refl, sym, ap, ◌∙◌}
use mathlib.Core.Logic.{◌⊎◌, inl, inr, ⊎_elim}
use mathlib.Core.List.{List, [], ◌∷◌, ◌++◌, append_assoc}
use mathlib.Core.Bool.{Bool, true, false, cond, ◌||◌}
use native.Mathlib.Omega.{arith}
use lib.Dec.{T}
use lib.ListN.{length, take, drop}
use lib.Seq.{get_or-take, length-take-le}
use Rattle.sets.specs.Lists.{bit, all}
use Rattle.sets.proofs.TestLaws.{or_l, or_r, or_cases, all_get}
use Rattle.clashes.specs.Divisions.{at}
use Rattle.clashes.specs.Matrix.{Valid}
use Rattle.lines.specs.Text.{Text, done, ended}
use Rattle.lines.specs.Numeral.{numeral, one_line}
use Rattle.sheets.specs.Check.{size_word, none as nobody}
use Rattle.sheets.specs.declared.Progress.{Progress}
use Rattle.sheet_texts.specs.Sheet.{members_of, member_lines, groups_text}
use Rattle.texts.proofs.LineBytes.{bytes_of}
use Rattle.texts.proofs.Numbered.{members_skip}
use Rattle.texts.proofs.SheetSteps.{opening, SaysSize}

pub record Known (most n : ℕ) (p : Progress) (mates earlier : ℕ → Bool) (colours : List ℕ) : Type 0 where
  pub size : length colours ≡ most
  pub mate_floor : (j : ℕ) → T (mates j) → j < p.floor
  pub mate_group : (j : ℕ) → T (mates j) → at colours j + 1 ≡ p.opened
  pub mate_old : (j : ℕ) → T (mates j) → bit p.fresh ≡ 0
  pub early : (j : ℕ) → T (earlier j) → at colours j + 1 < p.opened
  pub wants : bit p.fresh ≤ p.need
  pub inside : 1 ≤ p.need → 1 ≤ p.opened
  pub lowest : bit p.fresh ≡ 1 → p.floor ≡ p.first

pub record Rest (most n : ℕ) (clash : ℕ → ℕ → Bool) (t : Text) (p : Progress) (mates earlier : ℕ → Bool) (colours : List ℕ) (k : ℕ) (w : List ℕ) : Type 0 where
  pub size : length w ≡ most
  pub many : k ≡ p.opened + p.left
  -- what is known stays
  pub kept : (j : ℕ) → T (earlier j || mates j) → at w j ≡ at colours j
  pub below : (j : ℕ) → j < n → at w j < k
  -- an entry of an earlier group was met, one of this group too or it is still to come, and those of later groups come after this one's first
  pub older : (j : ℕ) → j < n → at w j + 1 < p.opened → T (earlier j)
  pub group : (j : ℕ) → j < n → at w j + 1 ≡ p.opened → T (mates j) ⊎ ((p.floor ≤ j) × (1 ≤ p.need))
  pub later : (j : ℕ) → j < n → p.opened ≤ at w j + bit p.fresh → p.first ≤ j
  -- each number to come is used, and before any greater one
  pub used : (j g : ℕ) → j < n → p.opened ≤ g + bit p.fresh → g < at w j → (i : ℕ) × (i < j) × (at w i ≡ g)
  pub some : (g : ℕ) → p.opened ≤ g + bit p.fresh → g < k → (i : ℕ) × (i < n) × (at w i ≡ g)
  -- a clash within a group is one among those met
  pub free : (x y : ℕ) → x < n → y < n → at w x ≡ at w y → T (clash x y) → T (earlier x || mates x) × T (earlier y || mates y)
  -- the lines: this group's members to come, then the groups to come
  pub members : List ℕ
  pub count : length members ≡ p.need
  pub ours : 1 ≤ p.need → members ≡ members_of (drop p.floor (take n w)) p.floor (p.opened - 1)
  pub lines : bytes_of t ≡ member_lines members ++ groups_text (take n w) p.opened p.left

pub no_length : (l : List ℕ) → length l ≡ 0 → l ≡ []
no_length [] e = refl
no_length (x ∷ l) e = absurd (omega arith)

pub fresh_cases : (b : Bool) (x y : ℕ) → ((bit b ≡ 0) × (cond b x y ≡ y)) ⊎ ((bit b ≡ 1) × (cond b x y ≡ x))
fresh_cases true x y = inr (refl, refl)
fresh_cases false x y = inl (refl, refl)

-- a word and a numeral, ended, and what follows
pub line_text : (w : List ℕ) (u : ℕ) (t : List ℕ) → (w ++ numeral u) ++ 10 ∷ t ≡ one_line w u ++ t
line_text w u t = simp append_assoc

pub at_take : (n : ℕ) (w : List ℕ) (j : ℕ) → j < n → at (take n w) j ≡ at w j
at_take n w j h = get_or-take n w j 0 h

module _ (most n : ℕ) (few : n ≤ most) (clash : ℕ → ℕ → Bool) (valid : Valid n clash) where
  -- ---- at the end

  module _ (p : Progress) (mates earlier : ℕ → Bool) (w : List ℕ) (st : Known most n p mates earlier w) where
    pub at-end : p.need < 1 → p.left < 1 → T (all n (λ j. earlier j || mates j)) → Rest most n clash done p mates earlier w p.opened w
    at-end d f a =
        let bare : bit p.fresh ≡ 0 = omega (arith, st.wants) in
        record {
          size = st.size;
          many = omega arith;
          kept = λ j h. refl;
          below = under;
          older = λ j h l. ⊎_elim (λ x. x) (λ x. absurd (omega (arith, st.mate_group j x))) (or_cases (earlier j) (mates j) (seen j h));
          group = λ j h e. ⊎_elim (λ x. absurd (omega (arith, st.early j x))) (λ x. inl x) (or_cases (earlier j) (mates j) (seen j h));
          later = λ j h l. omega (arith, under j h);
          used = λ j g h l b. absurd (omega (arith, under j h));
          some = λ g l b. absurd (omega arith);
          free = λ x y hx hy e c. (seen x hx, seen y hy);
          members = [];
          count = omega arith;
          ours = λ l. absurd (omega arith);
          lines = let z : p.left ≡ 0 = omega arith in sym (ap (groups_text (take n w) p.opened) z);
        }
      where
        seen : (j : ℕ) → j < n → T (earlier j || mates j)
        seen j h = all_get n (λ j. earlier j || mates j) a j h

        under : (j : ℕ) → j < n → at w j < p.opened
        under j h = ⊎_elim (λ x. omega (arith, st.early j x)) (λ x. omega (arith, st.mate_group j x)) (or_cases (earlier j) (mates j) (seen j h))

  -- ---- a size

  module _ (p : Progress) (mates earlier : ℕ → Bool) (colours : List ℕ) (st : Known most n p mates earlier colours) (l : List ℕ) (q : Progress)
      (s : SaysSize n clash p mates earlier l q) where
    pub size_known : Known most n (opening p s.size) nobody (λ j. earlier j || mates j) colours
    size_known = record {
      size = st.size;
      mate_floor = λ j x. absurd x;
      mate_group = λ j x. absurd x;
      mate_old = λ j x. absurd x;
      early = λ j x. ⊎_elim (λ y. omega (arith, st.early j y)) (λ y. omega (arith, st.mate_group j y)) (or_cases (earlier j) (mates j) x);
      wants = s.some;
      inside = λ h. omega arith;
      lowest = λ h. refl;
    }

    pub size_rest : (t : Text) (k : ℕ) (w : List ℕ) → Rest most n clash t (opening p s.size) nobody (λ j. earlier j || mates j) colours k w
        → Rest most n clash (ended l t) p mates earlier colours k w
    size_rest t k w r =
        let bare : bit p.fresh ≡ 0 = omega (arith, st.wants, s.none) in
        record {
          size = r.size;
          many = omega (arith, r.many, s.left);
          kept = stays;
          below = r.below;
          older = λ j h e. ⊎_elim (λ x. x) (λ x. absurd (omega (arith, st.mate_group j x, stays j (or_r (earlier j) (mates j) x)))) (met_before j h (omega arith));
          group = λ j h e. ⊎_elim (λ x. absurd (omega (arith, st.early j x, stays j (or_l (earlier j) (mates j) x)))) (λ x. inl x) (met_before j h (omega arith));
          later = λ j h e. r.later j h (omega arith);
          used = λ j g h e b. r.used j g h (omega arith) b;
          some = λ g e b. r.some g (omega arith) b;
          free = λ x y hx hy e c. let f = r.free x y hx hy e c in (back x f.0, back y f.1);
          members = [];
          count = omega (arith, s.none);
          ours = λ h. absurd (omega (arith, s.none));
          lines = text;
        }
      where
        stays : (j : ℕ) → T (earlier j || mates j) → at w j ≡ at colours j
        stays j x = r.kept j (or_l (earlier j || mates j) false x)

        met_before : (j : ℕ) → j < n → at w j < p.opened → T (earlier j) ⊎ T (mates j)
        met_before j h e = or_cases (earlier j) (mates j) (r.older j h (omega arith))

        back : (x : ℕ) → T ((earlier x || mates x) || false) → T (earlier x || mates x)
        back x h = ⊎_elim (λ y. y) (λ y. absurd y) (or_cases (earlier x || mates x) false h)

        all_of : r.members ≡ members_of (take n w) 0 p.opened
        all_of =
            let z : p.opened + 1 - 1 ≡ p.opened = omega arith in
            let y : p.first ≡ 0 + p.first = omega arith in
            r.ours s.some
            ∙ ap (members_of (drop p.first (take n w)) p.first) z
            ∙ ap (λ (x : ℕ). members_of (drop x (take n w)) x p.opened) y
            ∙ sym (members_skip (take n w) p.opened p.first 0 (λ j a b h e.
            let d : j < n = omega (arith, length-take-le n w (omega (arith, r.size))) in
            ⊎_elim (λ x. x) (λ x. omega (arith, x.0)) (r.group j d (omega (arith, at_take n w j d)))))

        text : bytes_of (ended l t) ≡ groups_text (take n w) p.opened p.left
        text =
            let z : p.left ≡ suc (p.left - 1) = omega (arith, s.left) in
            let m = members_of (take n w) 0 p.opened in
            let u : s.size ≡ length m = sym r.count ∙ ap length all_of in
            let after = groups_text (take n w) (p.opened + 1) (p.left - 1) in
            ap (λ (x : List ℕ). x ++ 10 ∷ bytes_of t) s.line
            ∙ line_text size_word s.size (bytes_of t)
            ∙ ap (λ (x : ℕ). one_line size_word x ++ bytes_of t) u
            ∙ ap (λ (x : List ℕ). one_line size_word (length m) ++ x) (r.lines ∙ ap (λ (x : List ℕ). member_lines x ++ after) all_of)
            ∙ sym (append_assoc (one_line size_word (length m)) (member_lines m) after)
            ∙ sym (ap (groups_text (take n w) p.opened) z)
