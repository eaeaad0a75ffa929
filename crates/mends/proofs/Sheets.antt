-- Mending a sheet's bytes, for a list whose rows are known: what is printed is a report and the sheet of a clash-free division; and the sheet of such a
-- division comes back byte for byte.
--
--   Fitting most longest : every sheet of up to `most` entries has at most `longest` bytes, and its numbers at most 7 digits
use Prim.Native.Nat.{ℕ, ◌+◌, ◌≤◌, ◌<◌}
use mathlib.Core.Path.{◌≡◌, refl, sym, ap, ◌∙◌}
use mathlib.Core.Logic.{◌⊎◌, inl, inr}
use mathlib.Core.List.{List, [], ◌∷◌, ◌++◌}
use mathlib.Core.Bool.{Bool, true, false, cond}
use native.Mathlib.Omega.{arith}
use borrow.Author.Tests.{leb-true, leb-false, le-leb}
use lib.Dec.{leb}
use Rattle.std.specs.Prelude.{Option, None, Some, Ok, Err}
use lib.ListN.{length}
use Rattle.clashes.specs.Divisions.{Canon, groups}
use Rattle.clashes.specs.Matrix.{Valid}
use Rattle.lines.specs.Text.{Text, done, unended, ended, lines_of}
use Rattle.lists.specs.Read.{most_entries, longest_text}
use Rattle.sheets.specs.Check.{groups_word, size_word, behind_of}
use Rattle.sheets.specs.declared.Refused.{Refused}
use Rattle.sheets.specs.declared.SheetFault.TheVariants.{Long, Ends, Line, Extra}
use Rattle.sheet_texts.specs.Sheet.{sheet_text}
use Rattle.sheet_texts.proofs.Lengths.{sheet_fits}
use Rattle.texts.specs.Sheets.{SheetOf}
use Rattle.mends.specs.declared.Counts.{Counts}
use Rattle.mends.specs.declared.Step.TheVariants.{Size}
use Rattle.mends.specs.Typed.{Typed, is, faulty, group, groups_of, size_of, after, typed_from, typed_of}
use Rattle.mends.specs.Mend.{mended}
use Rattle.mends.specs.Report.{output_text}
use Rattle.mends.specs.Promise.{printed, refused, mend_typed, mend_sheet_up_to}
use Rattle.mends.proofs.MendedLaws.{mended_division, mended_free}
use Rattle.mends.proofs.Passing.{sheet_groups, passing_same, passing_silent}
use Rattle.mends.proofs.Retyped.{sheet_typed}

pub record Fitting (most longest : ℕ) : Type 0 where
  pub sevens : most < 9999999
  pub short : (c : List ℕ) → Canon 0 c → length c ≤ most → length (sheet_text c) ≤ longest

pub today : Fitting most_entries longest_text
today = record { sevens = omega arith; short = sheet_fits }

-- ---- no member stands before the first size

abbrev pub Headed : Typed → Type 0
Headed (is [] gs) = Unit {0}
Headed (is (u ∷ us) gs) = ⊥
Headed (faulty f k) = Unit {0}

grouped : (t : Typed) → Headed (group t)
grouped (is us gs) = tt
grouped (faulty f k) = tt

-- where no member is to come
rest_headed : (t : Text) (line left : ℕ) → Headed (typed_from t line (Some (record { left = left; need = 0 })))
rest_headed done line left = go (leb 1 left)
  where
    go : (b : Bool) → Headed (cond (cond b false true) (is [] []) (faulty Ends line))
    go true = tt
    go false = tt
rest_headed (unended l) line left = go (leb 1 left)
  where
    go : (b : Bool) → Headed (cond (cond b false true) (faulty Extra line) (faulty Line line))
    go true = tt
    go false = tt
rest_headed (ended l t) line left = size (leb 1 left) (behind_of size_word l)
  where
    some : (b : Bool) (d : Counts) → Headed (after (cond b (Ok (Size d)) (Err Line)) line (typed_from t (line + 1)))
    some true d = grouped (typed_from t (line + 1) (Some d))
    some false d = tt

    size : (b : Bool) (a : Option ℕ) → Headed (after (cond b (size_of (record { left = left; need = 0 }) a) (Err Extra)) line (typed_from t (line + 1)))
    size true None = tt
    size true (Some s) = some (leb 1 s) _
    size false a = tt

pub headed : (t : Text) → Headed (typed_of t)
headed done = tt
headed (unended l) = tt
headed (ended l t) = go (behind_of groups_word l)
  where
    go : (a : Option ℕ) → Headed (after (groups_of a) 1 (typed_from t 2))
    go None = tt
    go (Some k) = rest_headed t 2 k

-- ---- what is printed

abbrev long_one : Refused
long_one = record { why = Long; line = 0 }

module _ (longest n : ℕ) (clash : ℕ → ℕ → Bool) (s : List ℕ) where
  pub record Printed (x : List ℕ) : Type 0 where
    pub short : length s ≤ longest
    pub groups : List (List ℕ)
    pub typed : typed_of (lines_of s) ≡ is [] groups
    pub text : x ≡ output_text n clash groups

  pub printed_is : (x : List ℕ) → mend_sheet_up_to longest n clash s ≡ printed x → Printed x
  printed_is x e = go (leb (length s) longest) refl (typed_of (lines_of s)) refl (headed (lines_of s)) e
    where
      go : (b : Bool) → leb (length s) longest ≡ b → (t : Typed) → typed_of (lines_of s) ≡ t → Headed t → cond b (mend_typed n clash t) (refused long_one) ≡ printed x → Printed x
      go true l (is [] gs) q h e = let z : output_text n clash gs ≡ x = cc in record { short = leb-true (length s) longest l; groups = gs; typed = q; text = sym z }
      go true l (is (u ∷ us) gs) q h e = absurd h
      go true l (faulty f k) q h e = let z : ◌≡◌ {A = ℕ} 0 1 = cc in absurd (omega arith)
      go false l t q h e = let z : ◌≡◌ {A = ℕ} 0 1 = cc in absurd (omega arith)

  -- refused: 18, or what was typed has that fault
  pub refused_is : (r : Refused) → mend_sheet_up_to longest n clash s ≡ refused r
      → ((r.why ≡ Long) × (r.line ≡ 0) × (longest < length s)) ⊎ ((length s ≤ longest) × (typed_of (lines_of s) ≡ faulty r.why r.line))
  refused_is r e = go (leb (length s) longest) refl (typed_of (lines_of s)) refl e
    where
      go : (b : Bool) → leb (length s) longest ≡ b → (t : Typed) → typed_of (lines_of s) ≡ t → cond b (mend_typed n clash t) (refused long_one) ≡ refused r
          → ((r.why ≡ Long) × (r.line ≡ 0) × (longest < length s)) ⊎ ((length s ≤ longest) × (typed_of (lines_of s) ≡ faulty r.why r.line))
      go true l (is us gs) q e = let z : ◌≡◌ {A = ℕ} 0 1 = cc in absurd (omega arith)
      go true l (faulty g j) q e =
          let z : ◌≡◌ {A = Refused} (record { why = g; line = j }) r = cc in
          inr (leb-true (length s) longest l, q ∙ ap (λ (x : Refused). faulty x.why x.line) z)
      go false l t q e =
          let z : r ≡ long_one = cc in
          inl (ap (λ (x : Refused). x.why) z, ap (λ (x : Refused). x.line) z, leb-false (length s) longest l)

module _ (most longest : ℕ) (fit : Fitting most longest) (n : ℕ) (few : n ≤ most) (clash : ℕ → ℕ → Bool) (valid : Valid n clash) where
  -- the mended sheet is that of a clash-free division
  pub mended_sheet : (gs : List (List ℕ)) → SheetOf longest n clash (sheet_text (mended n clash gs)) (groups 0 (mended n clash gs)) (mended n clash gs)
  mended_sheet gs =
      let d = mended_division n clash gs in
      record {
        short = fit.short (mended n clash gs) d.numbered (omega (arith, d.long));
        division = d;
        free = mended_free n clash gs valid;
        many = refl;
        text = refl;
      }

  -- the sheet of a clash-free division comes back byte for byte, with no report
  pub sheet_back : (s : List ℕ) (k : ℕ) (c : List ℕ) → SheetOf longest n clash s k c → mend_sheet_up_to longest n clash s ≡ printed s
  sheet_back s k c q =
      let d = q.division in
      let e = q.text in
      let h : length c < 9999999 = omega (arith, d.long, fit.sevens) in
      let t : typed_of (lines_of s) ≡ is [] (sheet_groups c) = ap (λ (x : List ℕ). typed_of (lines_of x)) e ∙ sheet_typed c d.numbered h in
      let m : output_text n clash (sheet_groups c) ≡ s =
      ap (λ (x : List ℕ). x ++ sheet_text (mended n clash (sheet_groups c))) (passing_silent n clash c d.numbered d.long q.free)
      ∙ ap sheet_text (passing_same n clash c d.numbered d.long q.free) ∙ sym e in
      ap (λ (b : Bool). cond b (mend_typed n clash (typed_of (lines_of s))) (refused long_one)) (le-leb (length s) longest q.short)
      ∙ ap (mend_typed n clash) t
      ∙ ap printed m
