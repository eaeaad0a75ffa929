-- What follows from the promise of a call that checks a sheet against a clash text, for any limits.
--
--   Opened plain most longest list s room n rows : the list is one of n entries with these rows, there is room for their group numbers, and the check is the sheet's
use Prim.Native.Nat.{ℕ, ◌≤◌, ◌<◌}
use mathlib.Core.Path.{◌≡◌, refl, sym, ap, subst, ◌∙◌}
use mathlib.Core.Logic.{◌⊎◌, inl, inr, ⊎_elim}
use mathlib.Core.List.{List, ◌++◌}
use mathlib.Core.Bool.{Bool, cond}
use native.Mathlib.Omega.{arith}
use native.Mathlib.Decide.{dec_lt}
use borrow.Author.Tests.{le-leb, lt-leb}
use lib.ListN.{length, take, drop}
use lib.Seq.{take_at, drop_at}
use Rattle.std.specs.Prelude.{Result, Ok, Err}
use Rattle.clashes.specs.Matrix.{matrix}
use Rattle.lines.specs.Text.{Text, lines_of}
use Rattle.lists.specs.Read.{read_up_to}
use Rattle.lists.specs.Promise.{number_of as list_number_of}
use Rattle.lists.specs.declared.Fault.{Fault}
use Rattle.lists.specs.declared.Fault.TheVariants as list
use Rattle.lists.specs.declared.Unread.{Unread}
use Rattle.lists.specs.declared.Gathered.{Gathered}
use Rattle.sheets.specs.Check.{of_sheet, sheet_up_to, against_up_to, check_up_to}
use Rattle.sheets.specs.Promise.{numbers_of_lem, answer_in, written_of, CheckPromiseUpTo}
use Rattle.sheets.specs.declared.Numbers.{Numbers}
use Rattle.sheets.specs.declared.Text.{Text as Which}
use Rattle.sheets.specs.declared.Text.TheVariants.{TheList, TheSheet}
use Rattle.sheets.specs.declared.SheetFault.{SheetFault}
use Rattle.sheets.specs.declared.SheetFault.TheVariants.{Long, Line, Member, Order, Twice, Clash, Ends, Missing, Extra}
use Rattle.sheets.specs.declared.Refused.{Refused}
use Rattle.sheets.specs.declared.Unchecked.{Unchecked}
use Rattle.sheets.specs.declared.Unchecked.TheVariants.{OfList, Short, OfSheet}
use Rattle.sheets.specs.declared.Division.{Division as Checked}
use Rattle.texts.specs.Listed.{ListOf}
use Rattle.texts.specs.ListColumns.{ColumnOf}
use Rattle.texts.specs.ListFaults.{ListRefused}
use Rattle.texts.specs.Sheets.{SheetOf}
use Rattle.texts.specs.SheetFaults.{SheetRefused}
use Rattle.texts.proofs.ListAccepted.{list_accepted}
use Rattle.texts.proofs.ListRefused.{list_refused}
use Rattle.texts.proofs.ListMeaning.{list_valid, list_taken, list_returned}
use Rattle.texts.proofs.SheetAccepted.{sheet_accepted}
use Rattle.texts.proofs.SheetFaultLaws.{number_of}
use Rattle.texts.proofs.SheetRefused.{SheetMeans, sheet_means}
use Rattle.texts.proofs.SheetMeaning.{sheet_taken, sheet_returned}

-- a refusal in numbers, of one of the two texts
abbrev pub refused_of : Which → ℕ → ℕ → ℕ → Numbers
refused_of text f k c = record { number = f; line = k; column = c; groups = 0; text = text }

-- 18 names no line, and only a list's fault of shape a column
list_numbers : (t : Text) (f : Fault) (k c : ℕ) → (list_number_of f ≡ list_number_of list.Long → k ≡ 0) → ColumnOf t (list_number_of f) k c
    → numbers_of_lem (Err (OfList (record { why = f; line = k; column = c }))) ≡ refused_of TheList (list_number_of f) k c
list_numbers t list.Line k c h w = refl
list_numbers t list.Digit k c h w = refl
list_numbers t list.Space k c h w = refl
list_numbers t list.Unended k c h w = refl
list_numbers t list.Headless k c h w = ap (refused_of TheList 11 k) (sym w)
list_numbers t list.Second k c h w = ap (refused_of TheList 12 k) (sym w)
list_numbers t list.Size k c h w = ap (refused_of TheList 13 k) (sym w)
list_numbers t list.Room k c h w = ap (refused_of TheList 17 k) (sym w)
list_numbers t list.Vertex k c h w = ap (refused_of TheList 14 k) (sym w)
list_numbers t list.Loop k c h w = ap (refused_of TheList 15 k) (sym w)
list_numbers t list.Repeat k c h w = ap (refused_of TheList 20 k) (sym w)
list_numbers t list.Count k c h w = ap (refused_of TheList 16 k) (sym w)
list_numbers t list.Long k c h w = ap (λ (j : ℕ). refused_of TheList 18 j 0) (sym (h refl)) ∙ ap (refused_of TheList 18 k) (sym w)

sheet_numbers : (f : SheetFault) (k : ℕ) → (number_of f ≡ number_of Long → k ≡ 0) → numbers_of_lem (Err (OfSheet (record { why = f; line = k }))) ≡ refused_of TheSheet (number_of f) k 0
sheet_numbers Line k h = refl
sheet_numbers Member k h = refl
sheet_numbers Order k h = refl
sheet_numbers Twice k h = refl
sheet_numbers Clash k h = refl
sheet_numbers Ends k h = refl
sheet_numbers Missing k h = refl
sheet_numbers Extra k h = refl
sheet_numbers Long k h = ap (λ (j : ℕ). refused_of TheSheet 18 j 0) (sym (h refl))

-- ---- the three ways of a check

module _ (plain : Bool) (most longest : ℕ) (list s : List ℕ) (room : ℕ) where
  record Opened (n : ℕ) (rows : List ℕ) : Type 0 where
    listed : ListOf plain most longest list n rows
    fits : n ≤ room
    same : check_up_to plain most longest list s room ≡ of_sheet (sheet_up_to most longest n (matrix rows) s)

  record Crowded (n : ℕ) (rows : List ℕ) : Type 0 where
    listed : ListOf plain most longest list n rows
    crowd : room < n
    same : check_up_to plain most longest list s room ≡ Err Short

  record Unopened (u : Unread) : Type 0 where
    unlisted : ListRefused plain most longest list most (list_number_of u.why) u.line u.column
    same : check_up_to plain most longest list s room ≡ Err (OfList u)

  abbrev Ways : Type 0
  Ways = ((u : Unread) × Unopened u) ⊎ (((n : ℕ) × (rows : List ℕ) × Crowded n rows) ⊎ ((n : ℕ) × (rows : List ℕ) × Opened n rows))

  answered : (r : Result Gathered Unread) → read_up_to plain most longest list most ≡ r
      → check_up_to plain most longest list s room ≡ against_up_to most longest r s room
  answered r e = ap (λ (x : Result Gathered Unread). against_up_to most longest x s room) e

  opened : (f : Gathered) → read_up_to plain most longest list most ≡ Ok f → f.n ≤ room → Opened f.n (take f.n f.rows)
  opened f e h =
      let l = list_accepted plain most longest list most f e in
      record {
        listed = l.0;
        fits = h;
        same =
            answered (Ok f) e
            ∙ ap (λ (b : Bool). cond b (of_sheet (sheet_up_to most longest f.n (matrix f.rows) s)) (Err Short)) (le-leb f.n room h)
            ∙ ap (λ (m : ℕ → ℕ → Bool). of_sheet (sheet_up_to most longest f.n m s)) (sym l.2);
      }

  crowded : (f : Gathered) → read_up_to plain most longest list most ≡ Ok f → room < f.n → Crowded f.n (take f.n f.rows)
  crowded f e h = record { listed = (list_accepted plain most longest list most f e).0; crowd = h; same = answered (Ok f) e ∙ rw (lt-leb f.n room h) }

  check_ways : Ways
  check_ways = go (read_up_to plain most longest list most) refl
    where
      pick : (f : Gathered) → read_up_to plain most longest list most ≡ Ok f → Dec (room < f.n) → Ways
      pick f e (yes h) = inr (inl (f.n, take f.n f.rows, crowded f e h))
      pick f e (no h) = inr (inr (f.n, take f.n f.rows, opened f e (omega arith)))

      go : (r : Result Gathered Unread) → read_up_to plain most longest list most ≡ r → Ways
      go (Ok f) e = pick f e (dec_lt room f.n)
      go (Err u) e = inl (u, record { unlisted = list_refused plain most longest list most u e; same = answered (Err u) e })

  -- ---- from the words

  module _ (n : ℕ) (rows : List ℕ) (l : ListOf plain most longest list n rows) where
    opened_so : n ≤ room → Opened n rows
    opened_so h =
        let r = list_taken plain most longest list most n rows l l.few in
        let f = r.0 in
        subst (Opened n) r.3 (subst (λ (m : ℕ). Opened m (take m f.rows)) r.2 (opened f r.1 (omega (arith, r.2))))

    crowded_so : room < n → Crowded n rows
    crowded_so h =
        let r = list_taken plain most longest list most n rows l l.few in
        let f = r.0 in
        subst (Crowded n) r.3 (subst (λ (m : ℕ). Crowded m (take m f.rows)) r.2 (crowded f r.1 (omega (arith, r.2))))

-- ---- the call

-- what a check of a sheet finds, as the pair's answer
sheet_answer : (o : Result Checked Refused) (k : ℕ) → Ok k ≡ answer_in (of_sheet o) → (d : Checked) × (o ≡ Ok d) × (d.groups ≡ k)
sheet_answer (Ok d) k e = (d, refl, let q : d.groups ≡ k = cc in q)
sheet_answer (Err r) k e = let z : ◌≡◌ {A = ℕ} 0 1 = cc in absurd (omega arith)

sheet_refusal : (o : Result Checked Refused) (r : Refused) → Err (OfSheet r) ≡ answer_in (of_sheet o) → o ≡ Err r
sheet_refusal (Ok d) r e = let z : ◌≡◌ {A = ℕ} 0 1 = cc in absurd (omega arith)
sheet_refusal (Err w) r e = let q : w ≡ r = cc in ap (λ (x : Refused). Err x) q

-- a sheet's check finds no fault of the list, and no want of room
sheet_alone : (o : Result Checked Refused) (u : Unread) → Err (OfList u) ≡ answer_in (of_sheet o) → ⊥
sheet_alone (Ok d) u e = let z : ◌≡◌ {A = ℕ} 0 1 = cc in omega arith
sheet_alone (Err w) u e = let z : ◌≡◌ {A = ℕ} 0 1 = cc in omega arith

sheet_room : (o : Result Checked Refused) → Err Short ≡ answer_in (of_sheet o) → ⊥
sheet_room (Ok d) e = let z : ◌≡◌ {A = ℕ} 0 1 = cc in omega arith
sheet_room (Err w) e = let z : ◌≡◌ {A = ℕ} 0 1 = cc in omega arith

module _ (plain : Bool) (most longest : ℕ) (list s old new : List ℕ) where
  module _ (a : Result ℕ Unchecked) (x : CheckPromiseUpTo plain most longest list s old a new) where
    -- the answer and the lent bytes, where it is known what the check finds
    answer_is : (o : Result Checked Unchecked) → check_up_to plain most longest list s (length old) ≡ o → a ≡ answer_in o
    answer_is o e = x.answer ∙ ap answer_in e

    lent_is : (o : Result Checked Unchecked) → check_up_to plain most longest list s (length old) ≡ o → new ≡ written_of o old
    lent_is o e = x.lent ∙ ap (λ (y : Result Checked Unchecked). written_of y old) e

    pub check_taken : (n : ℕ) (rows : List ℕ) → ListOf plain most longest list n rows → n < 10000000 → n ≤ length old → (k : ℕ) (c : List ℕ)
        → SheetOf longest n (matrix rows) s k c
        → (a ≡ Ok k) × (new ≡ c ++ drop n old)
    check_taken n rows l sevens h k c q =
        let w = opened_so plain most longest list s (length old) n rows l h in
        let r = sheet_taken n (matrix rows) longest s most l.few sevens (list_valid plain most longest list n rows l) k c q in
        let d = r.0 in
        let e = w.same ∙ ap of_sheet r.1 in (
          answer_is (Ok d) e ∙ ap (λ (i : ℕ). Ok i) r.2,
          lent_is (Ok d) e ∙ ap (λ (m : ℕ). take m d.colours ++ drop m old) r.4 ∙ ap (λ (y : List ℕ). y ++ drop n old) r.3,
        )

    pub check_unread_so : (f k c : ℕ) → ListRefused plain most longest list most f k c → numbers_of_lem a ≡ refused_of TheList f k c
    check_unread_so f k c h =
        let r = list_returned plain most longest list most f k c h in
        let u = r.0 in
        let g = list_refused plain most longest list most u r.1 in
        ap numbers_of_lem (answer_is _ (answered plain most longest list s (length old) (Err u) r.1))
        ∙ list_numbers (lines_of list) u.why u.line u.column (λ e. (subst (λ (i : ℕ). ListRefused plain most longest list most i u.line u.column) e g).0.0) g.1
        ∙ ap (λ (i : ℕ). refused_of TheList i u.line u.column) r.2 ∙ ap (λ (i : ℕ). refused_of TheList f i u.column) r.3 ∙ ap (refused_of TheList f k) r.4

    pub check_short_so : (n : ℕ) (rows : List ℕ) → ListOf plain most longest list n rows → length old < n → a ≡ Err Short
    check_short_so n rows l h = answer_is _ (crowded_so plain most longest list s (length old) n rows l h).same

    pub check_refused_so : (n : ℕ) (rows : List ℕ) → ListOf plain most longest list n rows → n ≤ length old → (f k : ℕ)
        → SheetRefused longest n (matrix rows) s f k
        → numbers_of_lem a ≡ refused_of TheSheet f k 0
    check_refused_so n rows l h f k q =
        let r = sheet_returned n (matrix rows) longest s most f k q in
        let w = r.0 in
        let g = subst (λ (i : ℕ). SheetRefused longest n (matrix rows) s i w.line) (sym r.2) (subst (SheetRefused longest n (matrix rows) s f) (sym r.3) q) in
        ap numbers_of_lem (answer_is _ ((opened_so plain most longest list s (length old) n rows l h).same ∙ ap of_sheet r.1))
        ∙ sheet_numbers w.why w.line (λ e. (subst (λ (i : ℕ). SheetRefused longest n (matrix rows) s i w.line) e g).0)
        ∙ ap (λ (i : ℕ). refused_of TheSheet i w.line 0) r.2 ∙ ap (λ (i : ℕ). refused_of TheSheet f i 0) r.3

  -- a refused check leaves the lent bytes
  pub check_unread : (u : Unread) → CheckPromiseUpTo plain most longest list s old (Err (OfList u)) new
      → ListRefused plain most longest list most (list_number_of u.why) u.line u.column × (new ≡ old)
  check_unread u x =
      ⊎_elim
      (λ w. let e : ◌≡◌ {A = Result ℕ Unchecked} (Err (OfList u)) (Err (OfList w.0)) = answer_is _ x _ w.1.same in
      let p : w.0 ≡ u = cc in (
        subst (λ (v : Unread). ListRefused plain most longest list most (list_number_of v.why) v.line v.column) p w.1.unlisted,
        lent_is _ x _ w.1.same,
      ))
      (λ v. ⊎_elim (λ w. let e : ◌≡◌ {A = Result ℕ Unchecked} (Err (OfList u)) (Err Short) = answer_is _ x _ w.2.same in let z : ◌≡◌ {A = ℕ} 0 1 = cc in absurd (omega arith))
      (λ w. absurd (sheet_alone (sheet_up_to most longest w.0 (matrix w.1) s) u (answer_is _ x _ w.2.same))) v)
      (check_ways plain most longest list s (length old))

  pub check_short : CheckPromiseUpTo plain most longest list s old (Err Short) new
      → (n : ℕ) × (rows : List ℕ) × ListOf plain most longest list n rows × (length old < n) × (new ≡ old)
  check_short x =
      ⊎_elim (λ w. let e : ◌≡◌ {A = Result ℕ Unchecked} (Err Short) (Err (OfList w.0)) = answer_is _ x _ w.1.same in let z : ◌≡◌ {A = ℕ} 0 1 = cc in absurd (omega arith))
      (λ v. ⊎_elim (λ w. (w.0, w.1, w.2.listed, w.2.crowd, lent_is _ x _ w.2.same))
      (λ w. absurd (sheet_room (sheet_up_to most longest w.0 (matrix w.1) s) (answer_is _ x _ w.2.same))) v)
      (check_ways plain most longest list s (length old))

  pub check_refused : (r : Refused) → CheckPromiseUpTo plain most longest list s old (Err (OfSheet r)) new
      → (n : ℕ) × (rows : List ℕ) × ListOf plain most longest list n rows × (n ≤ length old) × SheetRefused longest n (matrix rows) s (number_of r.why) r.line × (new ≡ old)
  check_refused r x =
      ⊎_elim (λ w. let e : ◌≡◌ {A = Result ℕ Unchecked} (Err (OfSheet r)) (Err (OfList w.0)) =
      answer_is _ x _ w.1.same in let z : ◌≡◌ {A = ℕ} 0 1 = cc in absurd (omega arith))
      (λ v. ⊎_elim (λ w. let e : ◌≡◌ {A = Result ℕ Unchecked} (Err (OfSheet r)) (Err Short) = answer_is _ x _ w.2.same in let z : ◌≡◌ {A = ℕ} 0 1 = cc in absurd (omega arith))
      (λ w. let e = sheet_refusal (sheet_up_to most longest w.0 (matrix w.1) s) r (answer_is _ x _ w.2.same) in (
        w.0,
        w.1,
        w.2.listed,
        w.2.fits,
        subst (SheetMeans most w.0 (matrix w.1) longest s) e (sheet_means most w.0 (matrix w.1) longest s),
        lent_is _ x _ (w.2.same ∙ ap of_sheet e),
      )) v)
      (check_ways plain most longest list s (length old))

  pub check_accepted : (k : ℕ) → CheckPromiseUpTo plain most longest list s old (Ok k) new
      → (n : ℕ) × (rows : List ℕ) × ListOf plain most longest list n rows × (n ≤ length old) × SheetOf longest n (matrix rows) s k (take n new) × (drop n new ≡ drop n old)
  check_accepted k x =
      ⊎_elim (λ w. let e : ◌≡◌ {A = Result ℕ Unchecked} (Ok k) (Err (OfList w.0)) =
      answer_is _ x _ w.1.same in let z : ◌≡◌ {A = ℕ} 0 1 = cc in absurd (omega arith))
      (λ v. ⊎_elim (λ w. let e : ◌≡◌ {A = Result ℕ Unchecked} (Ok k) (Err Short) = answer_is _ x _ w.2.same in let z : ◌≡◌ {A = ℕ} 0 1 = cc in absurd (omega arith))
      (λ w. open_way w.0 w.1 w.2) v)
      (check_ways plain most longest list s (length old))
    where
      open_way : (n : ℕ) (rows : List ℕ) → Opened plain most longest list s (length old) n rows
          → (n : ℕ) × (rows : List ℕ) × ListOf plain most longest list n rows × (n ≤ length old) × SheetOf longest n (matrix rows) s k (take n new) × (drop n new ≡ drop n old)
      open_way n rows w =
          let a = sheet_answer (sheet_up_to most longest n (matrix rows) s) k (answer_is (Ok k) x _ w.same) in
          let d = a.0 in
          let l = w.listed in
          let r = sheet_accepted most longest n l.few (matrix rows) (list_valid plain most longest list n rows l) s d a.1 in
          let c = take n d.colours in
          let z : new ≡ c ++ drop n old =
          lent_is (Ok k) x (Ok d) (w.same ∙ ap of_sheet a.1)
          ∙ ap (λ (m : ℕ). take m d.colours ++ drop m old) r.1 in (
            n,
            rows,
            l,
            w.fits,
            subst (λ (m : ℕ). SheetOf longest n (matrix rows) s m (take n new)) a.2
                (subst (SheetOf longest n (matrix rows) s d.groups) (sym (ap (take n) z ∙ take_at c (drop n old) n r.0.division.long)) r.0),
            ap (drop n) z ∙ drop_at c (drop n old) n r.0.division.long,
          )
