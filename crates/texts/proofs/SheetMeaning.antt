-- The words leave one answer to a sheet: one division or one refusal, and not both. Checking gives just that.
use Prim.Native.Nat.{ℕ, ◌≤◌, ◌<◌}
use mathlib.Core.Path.{◌≡◌, refl, sym, ap, subst, ◌∙◌}
use mathlib.Core.Logic.{◌⊎◌, inl, inr}
use mathlib.Core.List.{List}
use mathlib.Core.Bool.{Bool}
use native.Mathlib.Omega.{arith}
use borrow.Author.Tests.{eqb-true}
use lib.Dec.{T, eqb}
use lib.ListN.{length, take}
use Rattle.std.specs.Prelude.{Result, Ok, Err}
use Rattle.clashes.specs.Divisions.{clash_free, groups}
use Rattle.clashes.specs.Matrix.{Valid}
use Rattle.lines.specs.Text.{Text, lines_of}
use Rattle.sheets.specs.Check.{accepted, sheet_up_to}
use Rattle.sheets.specs.declared.Refused.{Refused}
use Rattle.sheets.specs.declared.Division.{Division as Checked}
use Rattle.sheet_texts.specs.Sheet.{sheet_text}
use Rattle.sheet_texts.proofs.Calls.{read_up_to_free}
use Rattle.texts.specs.Faults.{Faultless}
use Rattle.texts.specs.Sheets.{SheetOf}
use Rattle.texts.specs.SheetFaults.{Saying, OverPlace, Has, sheet_order, LacksAt, Lacks, SheetRefused}
use Rattle.texts.proofs.Refusals.{if_cases, refusal_one, refusal_none}
use Rattle.texts.proofs.SheetKinds.{laid_one}
use Rattle.texts.proofs.SheetAccepted.{sheet_accepted}
use Rattle.texts.proofs.SheetFaultLaws.{number_of, has_known}
use Rattle.texts.proofs.SheetRefused.{SheetMeans, sheet_means}

module _ (n : ℕ) (clash : ℕ → ℕ → Bool) where
  -- ---- one refusal

  lacks_one : (t : Text) (f g : ℕ) → Lacks n t f → Lacks n t g → f ≡ g
  lacks_one t f g a b = go (cases f a.2) (cases g (subst (λ (x : Saying). LacksAt n x g) (laid_one b.0 a.0 (sym b.1 ∙ a.1)) b.2))
    where
      cases : (f : ℕ) → LacksAt n a.0 f → ((f ≡ 35) × ¬ OverPlace a.0) ⊎ ((f ≡ 36) × OverPlace a.0)
      cases f h = if_cases (eqb f 35) h (λ e x. inl (eqb-true f 35 e, x)) (λ _ h. if_cases (eqb f 36) h (λ e x. inr (eqb-true f 36 e, x.0)) (λ _ h. absurd h))

      go : ((f ≡ 35) × ¬ OverPlace a.0) ⊎ ((f ≡ 36) × OverPlace a.0) → ((g ≡ 35) × ¬ OverPlace a.0) ⊎ ((g ≡ 36) × OverPlace a.0) → f ≡ g
      go (inl x) (inl y) = x.0 ∙ sym y.0
      go (inl x) (inr y) = absurd (x.1 y.1)
      go (inr x) (inl y) = absurd (y.1 x.1)
      go (inr x) (inr y) = x.0 ∙ sym y.0

  module _ (longest : ℕ) (s : List ℕ) where
    pub sheet_refusal_one : (f g k j : ℕ) → SheetRefused longest n clash s f k → SheetRefused longest n clash s g j → (f ≡ g) × (k ≡ j)
    sheet_refusal_one = refusal_one longest s (Has n clash (lines_of s)) sheet_order (Lacks n (lines_of s)) (has_known n clash (lines_of s)) (lacks_one (lines_of s))

    -- ---- a division's text has no fault

    -- numbers of more than 7 digits are not read
    module _ (sevens : n < 10000000) where
      read_back : (k : ℕ) (c : List ℕ) → SheetOf longest n clash s k c → (w : List ℕ) × (take n w ≡ c) × (sheet_up_to n longest n clash s ≡ accepted n k w)
      read_back k c q =
          let e = q.division.long in
          let short = subst (λ (b : List ℕ). length b ≤ longest) q.text q.short in
          let free = subst (λ (m : ℕ). T (clash_free m clash c)) (sym e) q.free in
          let f = read_up_to_free n longest c q.division.numbered (omega arith) (omega arith) short clash free in (
            f.0,
            ap (λ (m : ℕ). take m f.0) (sym e) ∙ f.1,
            ap (sheet_up_to n longest n clash) q.text
                ∙ ap (λ (m : ℕ). sheet_up_to n longest m clash (sheet_text c)) (sym e)
                ∙ f.2
                ∙ ap (λ (m : ℕ). accepted m (groups 0 c) f.0) e
                ∙ ap (λ (m : ℕ). accepted n m f.0) q.many,
          )

      sheet_faultless : (k : ℕ) (c : List ℕ) → SheetOf longest n clash s k c → Faultless longest s (Has n clash (lines_of s)) (Lacks n (lines_of s))
      sheet_faultless k c q =
          subst (SheetMeans n n clash longest s) (read_back k c q).2 (sheet_means n n clash longest s)

      pub sheet_unrefused : (k : ℕ) (c : List ℕ) → SheetOf longest n clash s k c → (f j : ℕ) → ¬ SheetRefused longest n clash s f j
      sheet_unrefused k c q = refusal_none longest s (Has n clash (lines_of s)) sheet_order (Lacks n (lines_of s)) (sheet_faultless k c q)

      -- ---- one division

      pub sheet_one : (k m : ℕ) (c d : List ℕ) → SheetOf longest n clash s k c → SheetOf longest n clash s m d → (k ≡ m) × (c ≡ d)
      sheet_one k m c d a b =
          let x = read_back k c a in
          let y = read_back m d b in
          let e : accepted n k x.0 ≡ accepted n m y.0 = sym x.2 ∙ y.2 in
          let q : found k x.0 ≡ found m y.0 = cc in
          (ap (λ (o : Checked). o.groups) q, sym x.1 ∙ ap (λ (o : Checked). take n o.colours) q ∙ y.1)
        where
          found : ℕ → List ℕ → Checked
          found k w = record { groups = k; entries = n; colours = w }

    -- ---- what checking answers

    -- each sheet of a clash-free division is accepted with it
    module _ (most : ℕ) (room : n ≤ most) (sevens : n < 10000000) (valid : Valid n clash) where
      pub sheet_taken : (k : ℕ) (c : List ℕ) → SheetOf longest n clash s k c
          → (d : Checked) × (sheet_up_to most longest n clash s ≡ Ok d) × (d.groups ≡ k) × (take n d.colours ≡ c) × (d.entries ≡ n)
      sheet_taken k c q = go (sheet_up_to most longest n clash s) refl (sheet_means most n clash longest s)
        where
          go : (a : Result Checked Refused) → sheet_up_to most longest n clash s ≡ a → SheetMeans most n clash longest s a
              → (d : Checked) × (sheet_up_to most longest n clash s ≡ Ok d) × (d.groups ≡ k) × (take n d.colours ≡ c) × (d.entries ≡ n)
          go (Ok d) e x =
              let r = sheet_accepted most longest n room clash valid s d e in
              let o = sheet_one sevens d.groups k _ c r.0 q in
              (d, e, o.0, o.1, r.1)
          go (Err r) e x = absurd (sheet_unrefused sevens k c q (number_of r.why) r.line x)

    -- each sheet that is refused in words is refused so
    pub sheet_returned : (most f k : ℕ) → SheetRefused longest n clash s f k
        → (r : Refused) × (sheet_up_to most longest n clash s ≡ Err r) × (number_of r.why ≡ f) × (r.line ≡ k)
    sheet_returned most f k h = go (sheet_up_to most longest n clash s) refl (sheet_means most n clash longest s)
      where
        go : (a : Result Checked Refused) → sheet_up_to most longest n clash s ≡ a → SheetMeans most n clash longest s a
            → (r : Refused) × (sheet_up_to most longest n clash s ≡ Err r) × (number_of r.why ≡ f) × (r.line ≡ k)
        go (Ok d) e x = absurd (refusal_none longest s (Has n clash (lines_of s)) sheet_order (Lacks n (lines_of s)) x f k h)
        go (Err r) e x = let o = sheet_refusal_one (number_of r.why) f r.line k x h in (r, e, o.0, o.1)
