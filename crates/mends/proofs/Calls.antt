-- What follows from the promise of a call that mends a sheet, for any limits.
use Prim.Native.Nat.{ℕ, ◌≤◌, ◌<◌}
use mathlib.Core.Path.{◌≡◌, refl, sym, ap, ◌∙◌}
use mathlib.Core.Logic.{◌⊎◌, inl, inr}
use mathlib.Core.List.{List, [], ◌++◌}
use mathlib.Core.Bool.{Bool, true, false, cond}
use native.Mathlib.Omega.{arith}
use borrow.Author.Tests.{leb-true, leb-false, le-leb}
use lib.Dec.{leb}
use Rattle.std.specs.Prelude.{Result, Ok, Err}
use lib.ListN.{length, take, drop}
use Rattle.clashes.specs.Divisions.{groups}
use Rattle.clashes.specs.Matrix.{matrix}
use Rattle.lines.specs.Text.{lines_of}
use Rattle.lines.specs.Numeral.{over}
use Rattle.lists.specs.Read.{read_up_to}
use Rattle.lists.specs.Promise.{number_of as list_number_of}
use Rattle.lists.specs.declared.Gathered.{Gathered}
use Rattle.lists.specs.declared.Unread.{Unread}
use Rattle.sheets.specs.Promise.{CheckPromiseUpTo}
use Rattle.sheets.specs.declared.Refused.{Refused}
use Rattle.sheets.specs.declared.SheetFault.TheVariants.{Long}
use Rattle.sheets.specs.declared.Unchecked.{Unchecked}
use Rattle.sheet_texts.specs.Sheet.{sheet_text}
use Rattle.texts.specs.Listed.{ListOf}
use Rattle.texts.specs.ListFaults.{ListRefused}
use Rattle.texts.specs.Sheets.{SheetOf}
use Rattle.texts.proofs.ListAccepted.{list_accepted}
use Rattle.texts.proofs.ListRefused.{list_refused}
use Rattle.texts.proofs.ListMeaning.{list_valid, list_taken}
use Rattle.texts.proofs.CheckCalls.{check_taken, check_accepted}
use Rattle.mends.specs.Typed.{Typed, is, faulty, typed_of}
use Rattle.mends.specs.Mend.{mended}
use Rattle.mends.specs.Report.{output_text}
use Rattle.mends.specs.Promise.{Mending, printed, unread, refused, mend_typed, mend_sheet_up_to, against_up_to, mend_up_to, answer_of, left_of, MendPromiseUpTo}
use Rattle.mends.specs.declared.Unmended.{Unmended}
use Rattle.mends.specs.declared.Unmended.TheVariants.{OfList, OfSheet, Full}
use Rattle.mends.proofs.Sheets.{Fitting, printed_is, refused_is, mended_sheet, sheet_back}

module _ (plain : Bool) (most longest : ℕ) (list s : List ℕ) where
  -- ---- the list's answer

  pub mend_is : (n : ℕ) (rows : List ℕ) → ListOf plain most longest list n rows → mend_up_to plain most longest list s ≡ mend_sheet_up_to longest n (matrix rows) s
  mend_is n rows l =
      let r = list_taken plain most longest list most n rows l l.few in
      let f = r.0 in
      let a = list_accepted plain most longest list most f r.1 in
      ap (λ (x : Result Gathered Unread). against_up_to longest x s) r.1
      ∙ ap (λ (m : ℕ → ℕ → Bool). mend_sheet_up_to longest f.n m s) (sym a.2)
      ∙ ap (λ (k : ℕ). mend_sheet_up_to longest k (matrix (take k f.rows)) s) r.2
      ∙ ap (λ (g : List ℕ). mend_sheet_up_to longest n (matrix g) s) r.3

  record Listed (m : Mending) : Type 0 where
    n : ℕ
    rows : List ℕ
    list_of : ListOf plain most longest list n rows
    same : mend_sheet_up_to longest n (matrix rows) s ≡ m

  record Unlisted (m : Mending) : Type 0 where
    fault : Unread
    list_not : ListRefused plain most longest list most (list_number_of fault.why) fault.line fault.column
    same : unread fault ≡ m

  ways : (m : Mending) → mend_up_to plain most longest list s ≡ m → Listed m ⊎ Unlisted m
  ways m e = go (read_up_to plain most longest list most) refl
    where
      go : (r : Result Gathered Unread) → read_up_to plain most longest list most ≡ r → Listed m ⊎ Unlisted m
      go (Ok g) q =
          let l = (list_accepted plain most longest list most g q).0 in
          inl (record { n = g.n; rows = take g.n g.rows; list_of = l; same = sym (mend_is g.n _ l) ∙ e })
      go (Err why) q =
          inr (record {
            fault = why;
            list_not = list_refused plain most longest list most why q;
            same = sym (ap (λ (x : Result Gathered Unread). against_up_to longest x s) q) ∙ e;
          })

  -- ---- written

  -- the list, the sheet as it was typed, and what was written
  pub record Wrote (old : List ℕ) (k : ℕ) (new : List ℕ) : Type 0 where
    pub n : ℕ
    pub rows : List ℕ
    pub list_of : ListOf plain most longest list n rows
    pub groups : List (List ℕ)
    pub typed : typed_of (lines_of s) ≡ is [] groups
    pub size : k ≡ length (output_text n (matrix rows) groups)
    pub fits : k ≤ length old
    pub bytes : new ≡ over old 0 (output_text n (matrix rows) groups)

  module _ (old : List ℕ) (a : Result ℕ Unmended) (new : List ℕ) (p : MendPromiseUpTo plain most longest list s old a new) where
    answer_is : (m : Mending) → mend_up_to plain most longest list s ≡ m → a ≡ answer_of m (length old)
    answer_is m e = p.answer ∙ ap (λ (x : Mending). answer_of x (length old)) e

    lent_is : (m : Mending) → mend_up_to plain most longest list s ≡ m → new ≡ left_of m old
    lent_is m e = p.lent ∙ ap (λ (x : Mending). left_of x old) e

    -- printed, and there is room
    pub printed_there : (x : List ℕ) → mend_up_to plain most longest list s ≡ printed x → length x ≤ length old → (a ≡ Ok (length x)) × (new ≡ over old 0 x)
    printed_there x e h = (
      answer_is (printed x) e ∙ ap (λ (b : Bool). cond b (Ok (length x)) (Err Full)) (le-leb (length x) (length old) h),
      lent_is (printed x) e ∙ ap (λ (b : Bool). cond b (over old 0 x) old) (le-leb (length x) (length old) h),
    )

  module _ (old new : List ℕ) where
    pub mend_written : (k : ℕ) → MendPromiseUpTo plain most longest list s old (Ok k) new → Wrote old k new
    mend_written k p = go (mend_up_to plain most longest list s) refl
      where
        wrote : (x : List ℕ) → mend_up_to plain most longest list s ≡ printed x → (b : Bool) → leb (length x) (length old) ≡ b
            → Ok k ≡ cond b (Ok (length x)) (Err Full) → new ≡ cond b (over old 0 x) old → Wrote old k new
        wrote x e true l q w =
            let z : k ≡ length x = cc in
            let h = leb-true (length x) (length old) l in
            pick (ways (printed x) e)
          where
            pick : Listed (printed x) ⊎ Unlisted (printed x) → Wrote old k new
            pick (inl y) =
                let t = printed_is longest y.n (matrix y.rows) s x y.same in
                let z : k ≡ length x = cc in
                record {
                  n = y.n;
                  rows = y.rows;
                  list_of = y.list_of;
                  groups = t.groups;
                  typed = t.typed;
                  size = z ∙ ap length t.text;
                  fits = omega (arith, leb-true (length x) (length old) l);
                  bytes = w ∙ ap (over old 0) t.text;
                }
            pick (inr y) = let e = y.same in let z : ◌≡◌ {A = ℕ} 0 1 = cc in absurd (omega arith)
        wrote x e false l q w = let z : ◌≡◌ {A = ℕ} 0 1 = cc in absurd (omega arith)

        go : (m : Mending) → mend_up_to plain most longest list s ≡ m → Wrote old k new
        go (printed x) e = wrote x e (leb (length x) (length old)) refl (answer_is old (Ok k) new p (printed x) e) (lent_is old (Ok k) new p (printed x) e)
        go (unread why) e = let q = answer_is old (Ok k) new p (unread why) e in let z : ◌≡◌ {A = ℕ} 0 1 = cc in absurd (omega arith)
        go (refused why) e = let q = answer_is old (Ok k) new p (refused why) e in let z : ◌≡◌ {A = ℕ} 0 1 = cc in absurd (omega arith)

    -- ---- refused: nothing is written

    pub mend_unread : (u : Unread) → MendPromiseUpTo plain most longest list s old (Err (OfList u)) new
        → ListRefused plain most longest list most (list_number_of u.why) u.line u.column × (new ≡ old)
    mend_unread u p = go (read_up_to plain most longest list most) refl
      where
        bare : (m : Mending) → Err (OfList u) ≡ answer_of m (length old) → new ≡ left_of m old → new ≡ old
        bare (printed x) q w = room (leb (length x) (length old)) q
          where
            room : (b : Bool) → Err (OfList u) ≡ cond b (Ok (length x)) (Err Full) → new ≡ old
            room true q = let z : ◌≡◌ {A = ℕ} 0 1 = cc in absurd (omega arith)
            room false q = let z : ◌≡◌ {A = ℕ} 0 1 = cc in absurd (omega arith)
        bare (unread why) q w = w
        bare (refused why) q w = w

        seen : (m : Mending) → Err (OfList u) ≡ answer_of m (length old) → m ≡ unread u
        seen (printed x) q = room (leb (length x) (length old)) q
          where
            room : (b : Bool) → Err (OfList u) ≡ cond b (Ok (length x)) (Err Full) → printed x ≡ unread u
            room true q = let z : ◌≡◌ {A = ℕ} 0 1 = cc in absurd (omega arith)
            room false q = let z : ◌≡◌ {A = ℕ} 0 1 = cc in absurd (omega arith)
        seen (unread why) q = cc
        seen (refused why) q = let z : ◌≡◌ {A = ℕ} 0 1 = cc in absurd (omega arith)

        same : mend_up_to plain most longest list s ≡ unread u
        same = seen (mend_up_to plain most longest list s) p.answer

        never : (g : Gathered) (b : Bool) (t : Typed) → cond b (mend_typed g.n (matrix g.rows) t) (refused (record { why = Long; line = 0 })) ≡ unread u → ⊥
        never g true (is us gs) e = let z : ◌≡◌ {A = ℕ} 0 1 = cc in omega arith
        never g true (faulty h i) e = let z : ◌≡◌ {A = ℕ} 0 1 = cc in omega arith
        never g false t e = let z : ◌≡◌ {A = ℕ} 0 1 = cc in omega arith

        go : (r : Result Gathered Unread) → read_up_to plain most longest list most ≡ r
            → ListRefused plain most longest list most (list_number_of u.why) u.line u.column × (new ≡ old)
        go (Ok g) q =
            absurd (never g (leb (length s) longest) (typed_of (lines_of s))
            (sym (ap (λ (x : Result Gathered Unread). against_up_to longest x s) q) ∙ same))
        go (Err why) q =
            let e : unread why ≡ unread u = sym (ap (λ (x : Result Gathered Unread). against_up_to longest x s) q) ∙ same in
            let z : ◌≡◌ {A = Result Gathered Unread} (Err why) (Err u) = cc in
            (list_refused plain most longest list most u (q ∙ z), bare (mend_up_to plain most longest list s) p.answer p.lent)

    -- of the sheet: 18; or its lines have that fault
    pub record SheetAtFault (r : Refused) : Type 0 where
      pub n : ℕ
      pub rows : List ℕ
      pub list_of : ListOf plain most longest list n rows
      pub why : ((r.why ≡ Long) × (r.line ≡ 0) × (longest < length s)) ⊎ ((length s ≤ longest) × (typed_of (lines_of s) ≡ faulty r.why r.line))
      pub lent : new ≡ old

    pub mend_refused : (r : Refused) → MendPromiseUpTo plain most longest list s old (Err (OfSheet r)) new → SheetAtFault r
    mend_refused r p = go (mend_up_to plain most longest list s) refl
      where
        room : (x : List ℕ) (b : Bool) → Err (OfSheet r) ≡ cond b (Ok (length x)) (Err Full) → SheetAtFault r
        room x true q = let z : ◌≡◌ {A = ℕ} 0 1 = cc in absurd (omega arith)
        room x false q = let z : ◌≡◌ {A = ℕ} 0 1 = cc in absurd (omega arith)

        pick : (w : Refused) → ◌≡◌ {A = Result ℕ Unmended} (Err (OfSheet r)) (Err (OfSheet w)) → mend_up_to plain most longest list s ≡ refused w
            → Listed (refused w) ⊎ Unlisted (refused w) → SheetAtFault r
        pick w q e (inl y) =
            let z : refused w ≡ refused r = cc in
            record {
              n = y.n;
              rows = y.rows;
              list_of = y.list_of;
              why = refused_is longest y.n (matrix y.rows) s r (y.same ∙ z);
              lent = lent_is old (Err (OfSheet r)) new p (refused w) e;
            }
        pick w q e (inr y) = let e = y.same in let z : ◌≡◌ {A = ℕ} 0 1 = cc in absurd (omega arith)

        go : (m : Mending) → mend_up_to plain most longest list s ≡ m → SheetAtFault r
        go (printed x) e = room x (leb (length x) (length old)) (answer_is old (Err (OfSheet r)) new p (printed x) e)
        go (unread why) e = let q = answer_is old (Err (OfSheet r)) new p (unread why) e in let z : ◌≡◌ {A = ℕ} 0 1 = cc in absurd (omega arith)
        go (refused why) e = pick why (answer_is old (Err (OfSheet r)) new p (refused why) e) e (ways (refused why) e)

    -- 19: the whole output does not fit
    pub record TooLong : Type 0 where
      pub n : ℕ
      pub rows : List ℕ
      pub list_of : ListOf plain most longest list n rows
      pub groups : List (List ℕ)
      pub typed : typed_of (lines_of s) ≡ is [] groups
      pub full : length old < length (output_text n (matrix rows) groups)
      pub lent : new ≡ old

    pub mend_full : MendPromiseUpTo plain most longest list s old (Err Full) new → TooLong
    mend_full p = go (mend_up_to plain most longest list s) refl
      where
        pick : (x : List ℕ) → leb (length x) (length old) ≡ false → new ≡ old → Listed (printed x) ⊎ Unlisted (printed x) → TooLong
        pick x l w (inl y) =
            let t = printed_is longest y.n (matrix y.rows) s x y.same in
            record {
              n = y.n;
              rows = y.rows;
              list_of = y.list_of;
              groups = t.groups;
              typed = t.typed;
              full = omega (arith, leb-false (length x) (length old) l, ap length t.text);
              lent = w;
            }
        pick x l w (inr y) = let e = y.same in let z : ◌≡◌ {A = ℕ} 0 1 = cc in absurd (omega arith)

        room : (x : List ℕ) → mend_up_to plain most longest list s ≡ printed x → (b : Bool) → leb (length x) (length old) ≡ b → Err Full ≡ cond b (Ok (length x)) (Err Full)
            → new ≡ cond b (over old 0 x) old → TooLong
        room x e true l q w = let z : ◌≡◌ {A = ℕ} 0 1 = cc in absurd (omega arith)
        room x e false l q w = pick x l w (ways (printed x) e)

        go : (m : Mending) → mend_up_to plain most longest list s ≡ m → TooLong
        go (printed x) e = room x e (leb (length x) (length old)) refl (answer_is old (Err Full) new p (printed x) e) (lent_is old (Err Full) new p (printed x) e)
        go (unread why) e = let q = answer_is old (Err Full) new p (unread why) e in let z : ◌≡◌ {A = ℕ} 0 1 = cc in absurd (omega arith)
        go (refused why) e = let q = answer_is old (Err Full) new p (refused why) e in let z : ◌≡◌ {A = ℕ} 0 1 = cc in absurd (omega arith)

-- ---- what was written, checked and mended again

module _ (plain : Bool) (most longest : ℕ) (fit : Fitting most longest) (list : List ℕ) (n : ℕ) (rows : List ℕ) (l : ListOf plain most longest list n rows) where
  -- the mended sheet passes the check against the same list
  pub mended_passes : (gs : List (List ℕ)) (old new : List ℕ) (a : Result ℕ Unchecked) → n ≤ length old
      → CheckPromiseUpTo plain most longest list (sheet_text (mended n (matrix rows) gs)) old a new
      → (a ≡ Ok (groups 0 (mended n (matrix rows) gs))) × (new ≡ mended n (matrix rows) gs ++ drop n old)
  mended_passes gs old new a h p =
      let c = mended n (matrix rows) gs in
      check_taken plain most longest list (sheet_text c) old new a p n rows l (omega (arith, l.few, fit.sevens)) h (groups 0 c) c
      (mended_sheet most longest fit n l.few (matrix rows) (list_valid plain most longest list n rows l) gs)

  -- the sheet of a clash-free division comes back byte for byte, wherever it fits
  pub back : (s : List ℕ) (k : ℕ) (c : List ℕ) → SheetOf longest n (matrix rows) s k c → (old new : List ℕ) (a : Result ℕ Unmended) → length s ≤ length old
      → MendPromiseUpTo plain most longest list s old a new → (a ≡ Ok (length s)) × (new ≡ over old 0 s)
  back s k c q old new a h p =
      printed_there plain most longest list s old a new p s
      (mend_is plain most longest list s n rows l
      ∙ sheet_back most longest fit n l.few (matrix rows) (list_valid plain most longest list n rows l) s k c q) h

  -- and so the mended sheet, mended again
  pub mended_again : (gs : List (List ℕ)) (old new : List ℕ) (a : Result ℕ Unmended) → length (sheet_text (mended n (matrix rows) gs)) ≤ length old
      → MendPromiseUpTo plain most longest list (sheet_text (mended n (matrix rows) gs)) old a new
      → (a ≡ Ok (length (sheet_text (mended n (matrix rows) gs)))) × (new ≡ over old 0 (sheet_text (mended n (matrix rows) gs)))
  mended_again gs old new a h p =
      let c = mended n (matrix rows) gs in
      back (sheet_text c) (groups 0 c) c (mended_sheet most longest fit n l.few (matrix rows) (list_valid plain most longest list n rows l) gs) old new a h p

-- a sheet that passes a check comes back byte for byte, and nothing else is written
pub passing_back : (plain : Bool) (most longest : ℕ) → Fitting most longest → (list s lent left : List ℕ) (k : ℕ)
    → CheckPromiseUpTo plain most longest list s lent (Ok k) left
    → (old new : List ℕ) (a : Result ℕ Unmended) → length s ≤ length old → MendPromiseUpTo plain most longest list s old a new → (a ≡ Ok (length s)) × (new ≡ over old 0 s)
passing_back plain most longest fit list s lent left k x old new a h p =
    let (n, rows, l, _, q, _) = check_accepted plain most longest list s lent left k x in
    back plain most longest fit list n rows l s k _ q old new a h p
