-- One turn of the loop over a sheet's lines, and what each line keeps: group numbers that fit a byte, members below n.
use Prim.Native.Nat.{ℕ, ◌+◌, ◌-◌, ◌≤◌, ◌<◌}
use mathlib.Core.Path.{◌≡◌, sym, ap, subst, fun_ext, ◌∙◌}
use mathlib.Core.List.{List}
use mathlib.Core.Bool.{Bool, true, false, cond, ◌&&◌}
use native.Mathlib.Omega.{arith}
use borrow.Author.Tests.{leb-true, leb-false, ltb-true, lt-leb, le-leb}
use lib.Dec.{leb, ltb}
use lib.ListN.{length, take, drop, set, length-set, drop_of_length-le}
use Rattle.std.specs.Prelude.{Option, Some, None, Result, Ok, Err, IfSome}
use Rattle.sets.specs.Lists.{bit, any}
use Rattle.sets.specs.Set.{has, IsWith, IsJoin}
use Rattle.lines.specs.Text.{Text, lines_of, line_end_lem}
use Rattle.lines.specs.Words.{alone_of}
use Rattle.lines.proofs.Basics.{cond_cases}
use Rattle.lines.proofs.Lines.{line_ended, line_unended}
use Rattle.lists.specs.Read.{inside}
use Rattle.lists.proofs.Fold.{inside_is}
use Rattle.sheets.specs.Check.{no_colours_up_to, refused, size_word, groups_word, behind_of, groups_of, size_of, placed, member_of_lem, step_of, finish, cut, none, after, check_from, start, sheet_up_to}
use Rattle.sheets.specs.Sound.{SoundUpTo, Within}
use Rattle.sheets.specs.declared.SheetFault.{SheetFault}
use Rattle.sheets.specs.declared.SheetFault.TheVariants.{Long}
use Rattle.sheets.specs.declared.Progress.{Progress}
use Rattle.sheets.specs.declared.Step.{Step}
use Rattle.sheets.specs.declared.Step.TheVariants.{Count, Place}
use Rattle.sheets.proofs.Sets.{empty_is, empty_within, with_within}

module _ (most : ℕ) where
  -- ---- what a line keeps

  abbrev pub Kept : ℕ → Result Step SheetFault → Type 0
  Kept n (Err f) = Unit {0}
  Kept n (Ok (Count p)) = SoundUpTo most p
  Kept n (Ok (Place p i g)) = SoundUpTo most p × (i < n) × (g < most)

  groups_kept : (n : ℕ) (a : Option ℕ) → Kept n (groups_of a)
  groups_kept n None = tt
  groups_kept n (Some k) = record { rises = omega arith; floored = omega arith; wants = omega arith; small = omega arith; inside = λ h. h }

  module _ (n : ℕ) (few : n ≤ most) (p : Progress) (s : SoundUpTo most p) where
    size_kept : p.need < 1 → (a : Option ℕ) → Kept n (size_of p a)
    size_kept z None = tt
    size_kept z (Some k) =
        cond_cases (Kept n) (leb 1 k) _ _
        (λ e. record {
          rises = omega (arith, s.rises, s.wants);
          floored = omega arith;
          wants = leb-true 1 k e;
          small = s.small;
          inside = λ _. omega arith;
        })
        (λ _. tt)

    -- a group's first is the first member, or the one that it had
    first_kept : (u : ℕ) (b : Bool) → p.opened ≤ p.first + bit b → p.first + bit b ≤ p.floor + 1 → p.floor < u → u ≤ n
        → (p.opened ≤ cond b u p.first + 0) × (cond b u p.first + 0 ≤ u + 1) × (cond b u p.first ≤ most)
    first_kept u true x y f h = (omega arith, omega arith, omega arith)
    first_kept u false x y f h = (omega arith, omega arith, s.small)

    placed_kept : (u : ℕ) → 1 ≤ u → u ≤ n → p.floor < u → 1 ≤ p.need → SoundUpTo most (placed p u) × (u - 1 < n) × (p.opened - 1 < most)
    placed_kept u l h f d =
        let r = first_kept u p.fresh s.rises s.floored f h in
        (record { rises = r.0; floored = r.1; wants = omega arith; small = r.2; inside = λ _. s.inside d }, omega arith, omega (arith, s.rises, s.floored))

    member_kept : (clash : ℕ → ℕ → Bool) (mates earlier : ℕ → Bool) → 1 ≤ p.need → (a : Option ℕ) → Kept n (member_of_lem n clash p mates earlier a)
    member_kept clash mates earlier d None = tt
    member_kept clash mates earlier d (Some u) =
        cond_cases (Kept n) (inside n u) _ _
        (λ i. cond_cases (Kept n) (ltb p.floor u) _ _
        (λ f. cond_cases (Kept n) (earlier (u - 1)) _ _ (λ _. tt)
        (λ _. cond_cases (Kept n) (any n (λ j. mates j && clash (u - 1) j)) _ _ (λ _. tt)
        (λ _. placed_kept u (inside_is n u i).0 (inside_is n u i).1 (ltb-true p.floor u f) d)))
        (λ _. tt))
        (λ _. tt)

  pub step_kept : (n : ℕ) → n ≤ most → (p : Option Progress) → IfSome p (SoundUpTo most) → (clash : ℕ → ℕ → Bool) (mates earlier : ℕ → Bool) (l : List ℕ)
      → Kept n (step_of n clash p mates earlier l)
  step_kept n few None s clash mates earlier l = groups_kept n (behind_of groups_word l)
  step_kept n few (Some p) s clash mates earlier l =
      cond_cases (Kept n) (leb 1 p.need) _ _
      (λ e. member_kept n few p s clash mates earlier (leb-true 1 p.need e) (alone_of l))
      (λ e. cond_cases (Kept n) (leb 1 p.left) _ _ (λ _. size_kept n few p s (leb-false 1 p.need e) (behind_of size_word l)) (λ _. tt))

  -- ---- the loop's places

  module _ (s : List ℕ) (n : ℕ) (clash : ℕ → ℕ → Bool) where
    pub check_halts : (a e k : ℕ) (p : Option Progress) (m w : ℕ → Bool) (g : List ℕ) → e ≡ line_end_lem s a → a < length s → length s ≤ e
        → check_from (lines_of (drop a s)) n clash k p m w g ≡ Err (cut p k)
    check_halts a e k p m w g q i l = ap (λ (t : Text). check_from t n clash k p m w g) (line_unended s a e q i l)

    pub check_ends : (a k : ℕ) (p : Option Progress) (m w : ℕ → Bool) (g : List ℕ) → length s ≤ a → check_from (lines_of (drop a s)) n clash k p m w g ≡ finish n p m w g k
    check_ends a k p m w g l = rw (drop_of_length-le s l)

    pub check_short : (longest : ℕ) → length s ≤ longest → check_from (lines_of s) n clash 1 start none none (no_colours_up_to most) ≡ sheet_up_to most longest n clash s
    check_short longest l = sym (ap (λ (b : Bool). cond b (check_from (lines_of s) n clash 1 start none none (no_colours_up_to most)) (refused Long 0)) (le-leb _ _ l))

    pub check_long : (longest : ℕ) → longest < length s → sheet_up_to most longest n clash s ≡ refused Long 0
    check_long longest l = rw (lt-leb (length s) longest l)

    -- a line that is ended at e, and what it does
    module _ (a e k : ℕ) (p : Option Progress) (m w : ℕ) (g : List ℕ) (q : e ≡ line_end_lem s a) (l : e < length s) where
      pub turn : (st : Result Step SheetFault) → step_of n clash p (has m) (has w) (take (e - a) (drop a s)) ≡ st
          → check_from (lines_of (drop a s)) n clash k p (has m) (has w) g ≡ after st k (has m) (has w) g (check_from (lines_of (drop (e + 1) s)) n clash (k + 1))
      turn st x =
          ap (λ (t : Text). check_from t n clash k p (has m) (has w) g) (line_ended s a e q l)
          ∙ ap (λ (y : Result Step SheetFault). after y k (has m) (has w) g (check_from (lines_of (drop (e + 1) s)) n clash (k + 1))) x

      -- the rest of the sheet, with what is known next, is what it was
      pub record Turned (p' : Option Progress) (m' w' : ℕ) (g' : List ℕ) : Type 0 where
        pub sound : IfSome p' (SoundUpTo most)
        pub within : Within n m'
        pub size : length g' ≡ most
        pub same : check_from (lines_of (drop (e + 1) s)) n clash (k + 1) p' (has m') (has w') g' ≡ check_from (lines_of (drop a s)) n clash k p (has m) (has w) g

      module _ (few : n ≤ most) (z : length g ≡ most) (i : Within n m) (so : IfSome p (SoundUpTo most)) where
        keeps : (st : Result Step SheetFault) → step_of n clash p (has m) (has w) (take (e - a) (drop a s)) ≡ st → Kept n st
        keeps st x = subst (Kept n) x (step_kept n few p so clash (has m) (has w) (take (e - a) (drop a s)))

        pub place_below : (p₁ : Progress) (j c : ℕ) → step_of n clash p (has m) (has w) (take (e - a) (drop a s)) ≡ Ok (Place p₁ j c) → j < most
        place_below p₁ j c x = omega (arith, (keeps (Ok (Place p₁ j c)) x).1)

        pub turned_count : (p₁ : Progress) → step_of n clash p (has m) (has w) (take (e - a) (drop a s)) ≡ Ok (Count p₁)
            → (p' : Option Progress) (m' w' w₁ : ℕ) (g' : List ℕ) → IsJoin w m w₁ → g' ≡ g → p' ≡ Some p₁ → m' ≡ 0 → w' ≡ w₁ → Turned p' m' w' g'
        turned_count p₁ x p' m' w' w₁ g' U eg ep em ew =
            rw (eg, ep, em, ew) (record {
              sound = keeps (Ok (Count p₁)) x;
              within = empty_within n;
              size = z;
              same = rw (empty_is, fun_ext U) (sym (turn (Ok (Count p₁)) x));
            })

        pub turned_place : (p₁ : Progress) (j c : ℕ) → step_of n clash p (has m) (has w) (take (e - a) (drop a s)) ≡ Ok (Place p₁ j c)
            → (p' : Option Progress) (m' w' m₁ : ℕ) (g' : List ℕ) → IsWith m j m₁ → g' ≡ set g j c → p' ≡ Some p₁ → m' ≡ m₁ → w' ≡ w → Turned p' m' w' g'
        turned_place p₁ j c x p' m' w' m₁ g' U eg ep em ew =
            let d = keeps (Ok (Place p₁ j c)) x in
            rw (eg, ep, em, ew) (record {
              sound = d.0;
              within = with_within n m j m₁ d.1 U i;
              size = length-set g j c ∙ z;
              same = rw (fun_ext U) (sym (turn (Ok (Place p₁ j c)) x));
            })
