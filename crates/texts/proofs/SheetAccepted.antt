-- A sheet that is accepted is the text of a clash-free division of the entries, byte for byte. Assumes nothing.
use Prim.Native.Nat.{ℕ, ◌+◌, ◌-◌, ◌≤◌, ◌<◌, zero-le}
use mathlib.Core.Path.{◌≡◌, refl, sym, ap, subst, ◌∙◌}
use mathlib.Core.Logic.{inr}
use mathlib.Core.List.{List, ◌∷◌, ◌++◌}
use mathlib.Core.Bool.{Bool, true, false, cond, ◌||◌}
use native.Mathlib.Nat.{not-suc-le-zero}
use native.Mathlib.Omega.{arith}
use borrow.Author.Tests.{leb-true, leb-false}
use lib.Dec.{T, leb, eqb}
use lib.ListN.{length, take, set, length-replicate}
use lib.Seq.{get_or-take, length-take-le}
use Rattle.std.specs.Prelude.{Option, None, Some, Result, Ok, Err}
use Rattle.sets.specs.Lists.{all}
use Rattle.clashes.specs.Divisions.{at, Division, clash_free, groups}
use Rattle.clashes.specs.Matrix.{Valid}
use Rattle.clashes.proofs.ColouringLaws.{proper_free}
use Rattle.lines.specs.Text.{Text, done, unended, ended, lines_of}
use Rattle.lines.specs.Numeral.{numeral, one_line}
use Rattle.lines.proofs.Basics.{cond_cases}
use Rattle.sheets.specs.Check.{met, step_of, groups_word, behind_of, groups_of, placed, none as nobody, start, no_colours_up_to, after, check_from, sheet_up_to}
use Rattle.sheets.specs.declared.Progress.{Progress}
use Rattle.sheets.specs.declared.SheetFault.{SheetFault}
use Rattle.sheets.specs.declared.Refused.{Refused}
use Rattle.sheets.specs.declared.Division.{Division as Checked}
use Rattle.sheets.specs.declared.Step.{Step}
use Rattle.sheets.specs.declared.Step.TheVariants.{Count, Place}
use Rattle.sheet_texts.specs.Sheet.{member_lines, groups_text, sheet_text}
use Rattle.texts.specs.Sheets.{SheetOf}
use Rattle.texts.proofs.LineBytes.{bytes_of, bytes_are}
use Rattle.texts.proofs.Numerals.{behind_numeral}
use Rattle.texts.proofs.Numbered.{canon_make, groups_make}
use Rattle.texts.proofs.SheetSteps.{opening, begins, Says, says}
use Rattle.texts.proofs.SheetRest.{Known, Rest, no_length, line_text, at-end, size_known, size_rest}
use Rattle.texts.proofs.SheetRestMember.{member_known, member_rest}

-- what a check finds, where it accepts: P of k and the colours, and the entries are n
abbrev Found : ℕ → (ℕ → List ℕ → Type 0) → Result Checked Refused → Type 0
Found n P (Ok d) = P d.groups d.colours × (d.entries ≡ n)
Found n P (Err r) = Unit {0}

found_map : (n : ℕ) (P Q : ℕ → List ℕ → Type 0) (a : Result Checked Refused) → ((k : ℕ) (w : List ℕ) → P k w → Q k w) → Found n P a → Found n Q a
found_map n P Q (Ok d) f x = (f d.groups d.colours x.0, x.1)
found_map n P Q (Err r) f x = tt

-- ---- all lines but the first

met_is : (p : Progress) → met p ≡ true → (p.need < 1) × (p.left < 1)
met_is p e = go (leb 1 p.need) refl (leb 1 p.left) refl e
  where
    go : (x : Bool) → leb 1 p.need ≡ x → (y : Bool) → leb 1 p.left ≡ y → cond x false (cond y false true) ≡ true → (p.need < 1) × (p.left < 1)
    go false x false y e = (leb-false 1 p.need x, leb-false 1 p.left y)
    go false x true y e = absurd (subst T (sym e) tt)
    go true x y z e = absurd (subst T (sym e) tt)

module _ (most n : ℕ) (few : n ≤ most) (clash : ℕ → ℕ → Bool) (valid : Valid n clash) where
  rest : (t : Text) (line : ℕ) (p : Progress) (mates earlier : ℕ → Bool) (c : List ℕ) → Known most n p mates earlier c
      → Found n (Rest most n clash t p mates earlier c) (check_from t n clash line (Some p) mates earlier c)
  rest done line p mates earlier c st =
      let F = Found n (Rest most n clash done p mates earlier c) in
      cond_cases F (met p) _ _
      (λ e. cond_cases F (all n (λ j. earlier j || mates j)) _ _
      (λ g. let m = met_is p e in (at-end most n few clash valid p mates earlier c st m.0 m.1 (subst T (sym g) tt), refl))
      (λ _. tt))
      (λ _. tt)
  rest (unended l) line p mates earlier c st = tt
  rest (ended l t) line p mates earlier c st = go (step_of n clash (Some p) mates earlier l) (says n clash p mates earlier l) (rest t (line + 1))
    where
      go : (s : Result Step SheetFault) → Says n clash p mates earlier l s
          → ((p : Progress) (mates earlier : ℕ → Bool) (c : List ℕ) → Known most n p mates earlier c
          → Found n (Rest most n clash t p mates earlier c) (check_from t n clash (line + 1) (Some p) mates earlier c))
          → Found n (Rest most n clash (ended l t) p mates earlier c) (after s line mates earlier c (check_from t n clash (line + 1)))
      go (Err f) y r = tt
      go (Ok (Count q)) y r =
          let E : ℕ → Bool = λ j. earlier j || mates j in
          let o = check_from t n clash (line + 1) (Some (opening p y.size)) nobody E c in
          subst (λ (x : Progress). Found n (Rest most n clash (ended l t) p mates earlier c) (check_from t n clash (line + 1) (Some x) nobody E c)) (sym y.next)
          (found_map n (Rest most n clash t (opening p y.size) nobody E c) (Rest most n clash (ended l t) p mates earlier c) o
          (λ k w z. size_rest most n few clash valid p mates earlier c st l q y t k w z)
          (r (opening p y.size) nobody E c (size_known most n few clash valid p mates earlier c st l q y)))
      go (Ok (Place q i g)) y r =
          let M : ℕ → Bool = λ j. mates j || eqb i j in
          let d = set c i (p.opened - 1) in
          let o = check_from t n clash (line + 1) (Some (placed p (i + 1))) M earlier d in
          subst (λ (x : ℕ). Found n (Rest most n clash (ended l t) p mates earlier c) (check_from t n clash (line + 1) (Some q) M earlier (set c i x))) (sym y.group)
          (subst (λ (x : Progress). Found n (Rest most n clash (ended l t) p mates earlier c) (check_from t n clash (line + 1) (Some x) M earlier d)) (sym y.next)
          (found_map n (Rest most n clash t (placed p (i + 1)) M earlier d) (Rest most n clash (ended l t) p mates earlier c) o
          (λ k w z. member_rest most n few clash valid p mates earlier c st l q i g y t k w z)
          (r (placed p (i + 1)) M earlier d (member_known most n few clash valid p mates earlier c st l q i g y))))

-- ---- the first line

module _ (most longest n : ℕ) (few : n ≤ most) (clash : ℕ → ℕ → Bool) (valid : Valid n clash) where
  begins_known : (k : ℕ) → Known most n (begins k) nobody (λ j. nobody j || nobody j) (no_colours_up_to most)
  begins_known k = record {
    size = length-replicate most 0;
    mate_floor = λ j x. absurd x;
    mate_group = λ j x. absurd x;
    mate_old = λ j x. absurd x;
    early = λ j x. absurd x;
    wants = zero-le;
    inside = λ h. absurd (not-suc-le-zero h);
    lowest = λ h. refl;
  }

  -- after "groups K" nothing is known but K
  module _ (t : Text) (g k : ℕ) (w : List ℕ) (r : Rest most n clash t (begins g) nobody (λ j. nobody j || nobody j) (no_colours_up_to most) k w) where
    abbrev c : List ℕ
    c = take n w

    long : length c ≡ n
    long = length-take-le n w (omega (arith, r.size))

    at_is : (j : ℕ) → j < n → at c j ≡ at w j
    at_is j h = get_or-take n w j 0 h

    divides : Division n c
    divides = record {
      numbered = canon_make 0 c (λ j g h b.
          let d : j < n = omega (arith, long) in
          let u = r.used j g d zero-le (omega (arith, at_is j d)) in
          inr (u.0, u.1, at_is u.0 (omega (arith, u.1)) ∙ u.2));
      long = long;
    }

    counted : groups 0 c ≡ k
    counted =
        groups_make c k (λ j h. let d : j < n = omega (arith, long) in omega (arith, r.below j d, at_is j d))
        (λ g h. let u = r.some g zero-le h in (u.0, omega (arith, u.1, long), at_is u.0 u.1 ∙ u.2))

    parted : T (clash_free n clash c)
    parted = proper_free n clash c (λ x y hx hy h e. (r.free x y hx hy (sym (at_is x hx) ∙ e ∙ at_is y hy) h).0)

    left_is : groups 0 c ≡ g
    left_is = counted ∙ r.many ∙ (omega arith)

    whole : (l : List ℕ) → l ≡ groups_word ++ numeral g → bytes_of (ended l t) ≡ sheet_text c
    unfolding sheet_text
    whole l e =
        let z = no_length r.members r.count in
        ap (λ (x : List ℕ). x ++ 10 ∷ bytes_of t) e
        ∙ line_text groups_word g (bytes_of t)
        ∙ ap (λ (x : List ℕ). one_line groups_word g ++ x) (r.lines ∙ ap (λ (x : List ℕ). member_lines x ++ groups_text c 0 g) z)
        ∙ ap (λ (x : ℕ). one_line groups_word x ++ groups_text c 0 x) (sym left_is)

    is_sheet : (l : List ℕ) → l ≡ groups_word ++ numeral g → length (bytes_of (ended l t)) ≤ longest → SheetOf longest n clash (bytes_of (ended l t)) k c
    is_sheet l e h = record { short = h; division = divides; free = search parted; many = counted; text = whole l e }

  -- ---- the whole sheet

  -- the bytes b, if they are not too many, are the sheet of the first n colours
  abbrev Sheet : List ℕ → ℕ → List ℕ → Type 0
  Sheet b k w = length b ≤ longest → SheetOf longest n clash b k (take n w)

  lines_accepted : (t : Text) → Found n (Sheet (bytes_of t)) (check_from t n clash 1 start nobody nobody (no_colours_up_to most))
  lines_accepted done = tt
  lines_accepted (unended l) = tt
  lines_accepted (ended l t) = go (behind_of groups_word l) refl
    where
      go : (a : Option ℕ) → behind_of groups_word l ≡ a
          → Found n (Sheet (bytes_of (ended l t))) (after (groups_of a) 1 nobody nobody (no_colours_up_to most) (check_from t n clash 2))
      go None e = tt
      go (Some g) e =
          let E : ℕ → Bool = λ j. nobody j || nobody j in
          let o = check_from t n clash 2 (Some (begins g)) nobody E (no_colours_up_to most) in
          found_map n (Rest most n clash t (begins g) nobody E (no_colours_up_to most)) (Sheet (bytes_of (ended l t))) o
          (λ k w r z. is_sheet t g k w r l (behind_numeral groups_word l g e) z) (rest most n few clash valid t 2 (begins g) nobody E (no_colours_up_to most) (begins_known g))

  -- what is accepted with k is the sheet of a division into k groups, which the first n colours are
  pub sheet_accepted : (s : List ℕ) (d : Checked) → sheet_up_to most longest n clash s ≡ Ok d
      → SheetOf longest n clash s d.groups (take n d.colours) × (d.entries ≡ n)
  sheet_accepted s d a =
      let P : ℕ → List ℕ → Type 0 = λ k w. SheetOf longest n clash s k (take n w) in
      subst (Found n P) a
      (cond_cases (Found n P) (leb (length s) longest) _ _
      (λ e. let x = check_from (lines_of s) n clash 1 start nobody nobody (no_colours_up_to most) in
      found_map n (Sheet (bytes_of (lines_of s))) P x
      (λ k w f. subst (λ (b : List ℕ). SheetOf longest n clash b k (take n w)) (bytes_are s)
      (f (subst (λ (b : List ℕ). length b ≤ longest) (sym (bytes_are s)) (leb-true (length s) longest e))))
      (lines_accepted (lines_of s)))
      (λ _. tt))
