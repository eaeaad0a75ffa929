-- What mend prints, by the steps of the code: what mending wrote is that; where it is refused nothing is written, and the line of the refusal is printed,
-- for the list the one that slotsheet prints. Assumes nothing.
use Prim.Native.Nat.{ℕ, suc, ◌+◌, ◌≤◌, ◌<◌}
use mathlib.Core.Path.{◌≡◌, refl, sym, ap, ◌∙◌}
use mathlib.Core.Logic.{◌⊎◌, inl, inr}
use mathlib.Core.List.{List, []}
use mathlib.Core.Bool.{Bool, true, false, cond}
use native.Mathlib.Omega.{arith}
use borrow.Author.Tests.{lt-leb}
use lib.Dec.{leb}
use lib.ListN.{length}
use Rattle.std.specs.Prelude.{Option, Result, Ok, Err}
use Rattle.refusals.specs.Table.{number_of, told}
use Rattle.refusals.specs.declared.Refusal.{Refusal}
use Rattle.lines.specs.Text.{Text, done, unended, ended, lines_of, line_count}
use Rattle.clashes.specs.Matrix.{matrix}
use Rattle.lists.specs.Read.{longest_text, read_of}
use Rattle.lists.specs.declared.Gathered.{Gathered}
use Rattle.lists.specs.declared.Unread.{Unread}
use Rattle.sheets.specs.Promise.{refusal_of_lem}
use Rattle.sheets.specs.declared.SheetFault.{SheetFault}
use Rattle.sheets.specs.declared.SheetFault.TheVariants.{Long, Line, Member, Order, Twice, Clash, Ends, Missing, Extra}
use Rattle.sheets.specs.declared.Refused.{Refused}
use Rattle.mends.specs.Typed.{Typed, is, faulty, group, member, after, met, step_of, typed_from, typed_of, start}
use Rattle.mends.specs.Promise.{Mending, unread, refused, mend_typed, mend_sheet_up_to, against_up_to, mend_of, answer_of, left_of, MendPromise}
use Rattle.mends.specs.Promise as mends
use Rattle.mends.specs.declared.Counts.{Counts}
use Rattle.mends.specs.declared.Step.{Step}
use Rattle.mends.specs.declared.Step.TheVariants.{Groups, Size, Member as Typing}
use Rattle.mends.specs.declared.Unmended.{Unmended}
use Rattle.mends.specs.declared.Unmended.TheVariants.{OfList, OfSheet, Full}
use Rattle.mends.proofs.Sheets.{refused_is}
use Rattle.answers.specs.Printed.{told_text, refused_text, printed, Writes}
use Rattle.answers.specs.Mended.{mending_text, mended_text}
use Rattle.answers.specs.declared.Full as answer
use Rattle.answers.proofs.Laws.{no_room, lines_most, line_told, printed_refused, printed_long}

-- ---- at most seven digits

-- a fault's line is one of the sheet's, or the one past the last
after_line : (st : Result Step SheetFault) (line most : ℕ) (next : Option Counts → Typed)
    → ((c : Option Counts) (f : SheetFault) (k : ℕ) → next c ≡ faulty f k → k ≤ most) → line ≤ most
    → (f : SheetFault) (k : ℕ) → after st line next ≡ faulty f k → k ≤ most
after_line (Err g) line most next h l f k e = let z : line ≡ k = cc in omega arith
after_line (Ok (Groups c)) line most next h l f k e = h _ f k e
after_line (Ok (Size c)) line most next h l f k e = go (next _) (h _ f k) e
  where
    go : (t : Typed) → (t ≡ faulty f k → k ≤ most) → group t ≡ faulty f k → k ≤ most
    go (is us gs) g q = let z : ◌≡◌ {A = ℕ} 0 1 = cc in absurd (omega arith)
    go (faulty x j) g q = g q
after_line (Ok (Typing c u)) line most next h l f k e = go (next _) (h _ f k) e
  where
    go : (t : Typed) → (t ≡ faulty f k → k ≤ most) → member u t ≡ faulty f k → k ≤ most
    go (is us gs) g q = let z : ◌≡◌ {A = ℕ} 0 1 = cc in absurd (omega arith)
    go (faulty x j) g q = g q

typed_line : (t : Text) (line : ℕ) (c : Option Counts) (f : SheetFault) (k : ℕ) → typed_from t line c ≡ faulty f k → k ≤ line + line_count t
typed_line done line c f k e = go (met c) e
  where
    go : (b : Bool) → cond b (is [] []) (faulty Ends line) ≡ faulty f k → k ≤ line + 0
    go true q = let z : ◌≡◌ {A = ℕ} 0 1 = cc in absurd (omega arith)
    go false q = let z : line ≡ k = cc in omega arith
typed_line (unended x) line c f k e = go (met c) e
  where
    go : (b : Bool) → cond b (faulty Extra line) (faulty Line line) ≡ faulty f k → k ≤ line + 1
    go true q = let z : line ≡ k = cc in omega arith
    go false q = let z : line ≡ k = cc in omega arith
typed_line (ended x t) line c f k e =
    after_line (step_of c x) line (line + suc (line_count t)) (typed_from t (line + 1))
    (λ d g j q. omega (arith, typed_line t (line + 1) d g j q)) (omega arith) f k e

-- ---- what mending gives, by its answer

written_so : (m : Mending) (old : List ℕ) (k : ℕ) (new : List ℕ) → Ok k ≡ answer_of m (length old) → new ≡ left_of m old → Writes (mending_text m) old (Ok k) new
written_so (mends.printed x) old k new e w = record { answer = go (leb (length x) (length old)) e; lent = w }
  where
    go : (b : Bool) → ◌≡◌ {A = Result ℕ Unmended} (Ok k) (cond b (Ok (length x)) (Err Full)) → ◌≡◌ {A = Result ℕ answer.Full} (Ok k) (cond b (Ok (length x)) no_room)
    go true q = let z : k ≡ length x = cc in ap Ok z
    go false q = let z : ◌≡◌ {A = ℕ} 0 1 = cc in absurd (omega arith)
written_so (unread u) old k new e w = let z : ◌≡◌ {A = ℕ} 0 1 = cc in absurd (omega arith)
written_so (refused r) old k new e w = let z : ◌≡◌ {A = ℕ} 0 1 = cc in absurd (omega arith)

full_so : (m : Mending) (old new : List ℕ) → Err Full ≡ answer_of m (length old) → new ≡ left_of m old → Writes (mending_text m) old no_room new
full_so (mends.printed x) old new e w = record { answer = go (leb (length x) (length old)) e; lent = w }
  where
    go : (b : Bool) → ◌≡◌ {A = Result ℕ Unmended} (Err Full) (cond b (Ok (length x)) (Err Full)) → no_room ≡ cond b (Ok (length x)) no_room
    go true q = let z : ◌≡◌ {A = ℕ} 0 1 = cc in absurd (omega arith)
    go false q = refl
full_so (unread u) old new e w = let z : ◌≡◌ {A = ℕ} 0 1 = cc in absurd (omega arith)
full_so (refused r) old new e w = let z : ◌≡◌ {A = ℕ} 0 1 = cc in absurd (omega arith)

unread_so : (m : Mending) (room : ℕ) (u : Unread) → Err (OfList u) ≡ answer_of m room → m ≡ unread u
unread_so (mends.printed x) room u e = go (leb (length x) room) e
  where
    go : (b : Bool) → ◌≡◌ {A = Result ℕ Unmended} (Err (OfList u)) (cond b (Ok (length x)) (Err Full)) → mends.printed x ≡ unread u
    go true q = let z : ◌≡◌ {A = ℕ} 0 1 = cc in absurd (omega arith)
    go false q = let z : ◌≡◌ {A = ℕ} 0 1 = cc in absurd (omega arith)
unread_so (unread v) room u e = let z : v ≡ u = cc in ap unread z
unread_so (refused r) room u e = let z : ◌≡◌ {A = ℕ} 0 1 = cc in absurd (omega arith)

refused_so : (m : Mending) (room : ℕ) (r : Refused) → Err (OfSheet r) ≡ answer_of m room → m ≡ refused r
refused_so (mends.printed x) room r e = go (leb (length x) room) e
  where
    go : (b : Bool) → ◌≡◌ {A = Result ℕ Unmended} (Err (OfSheet r)) (cond b (Ok (length x)) (Err Full)) → mends.printed x ≡ refused r
    go true q = let z : ◌≡◌ {A = ℕ} 0 1 = cc in absurd (omega arith)
    go false q = let z : ◌≡◌ {A = ℕ} 0 1 = cc in absurd (omega arith)
refused_so (unread u) room r e = let z : ◌≡◌ {A = ℕ} 0 1 = cc in absurd (omega arith)
refused_so (refused q) room r e = let z : q ≡ r = cc in ap refused z

-- ---- and by how the list was read

abbrev long_one : Refused
long_one = record { why = Long; line = 0 }

unread_read : (x : Result Gathered Unread) (s : List ℕ) (u : Unread) → against_up_to longest_text x s ≡ unread u → x ≡ Err u
unread_read (Ok list) s u e = go (leb (length s) longest_text) (typed_of (lines_of s)) e
  where
    go : (b : Bool) (t : Typed) → cond b (mend_typed list.n (matrix list.rows) t) (refused long_one) ≡ unread u → Ok list ≡ Err u
    go true (is us gs) q = let z : ◌≡◌ {A = ℕ} 0 1 = cc in absurd (omega arith)
    go true (faulty g j) q = let z : ◌≡◌ {A = ℕ} 0 1 = cc in absurd (omega arith)
    go false t q = let z : ◌≡◌ {A = ℕ} 0 1 = cc in absurd (omega arith)
unread_read (Err v) s u e = let z : v ≡ u = cc in ap Err z

refused_read : (x : Result Gathered Unread) (s : List ℕ) (r : Refused) → against_up_to longest_text x s ≡ refused r
    → (list : Gathered) × (mend_sheet_up_to longest_text list.n (matrix list.rows) s ≡ refused r)
refused_read (Ok list) s r e = (list, e)
refused_read (Err u) s r e = let z : ◌≡◌ {A = ℕ} 0 1 = cc in absurd (omega arith)

-- a sheet's refusal has no column
sheet_told : (f : SheetFault) (k : ℕ) → told_text (refusal_of_lem f) k 0 ≡ refused_text (number_of (refusal_of_lem f)) (told (refusal_of_lem f) k).line 0
sheet_told Long k = refl
sheet_told Line k = refl
sheet_told Member k = refl
sheet_told Order k = refl
sheet_told Twice k = refl
sheet_told Clash k = refl
sheet_told Ends k = refl
sheet_told Missing k = refl
sheet_told Extra k = refl

module _ (plain : Bool) (list s old : List ℕ) where
  pub mended_written : (k : ℕ) (new : List ℕ) → MendPromise plain list s old (Ok k) new → Writes (mended_text plain list s) old (Ok k) new
  unfolding mended_text
  mended_written k new p = written_so (mend_of plain list s) old k new p.answer p.lent

  pub mended_full : (new : List ℕ) → MendPromise plain list s old (Err Full) new → Writes (mended_text plain list s) old no_room new
  unfolding mended_text
  mended_full new p = full_so (mend_of plain list s) old new p.answer p.lent

  -- the list is at fault: what slotsheet prints for it
  unread_printed : (u : Unread) → mend_of plain list s ≡ unread u → mended_text plain list s ≡ printed plain list
  unfolding mended_text
  unread_printed u e = ap mending_text e ∙ sym (printed_refused plain list u (unread_read (read_of plain list 64) s u e))

  pub mended_unread : (u : Unread) (new : List ℕ) → MendPromise plain list s old (Err (OfList u)) new
      → (new ≡ old) × (mended_text plain list s ≡ printed plain list)
  mended_unread u new p =
      let e = unread_so (mend_of plain list s) (length old) u p.answer in
      (p.lent ∙ ap (λ (m : Mending). left_of m old) e, unread_printed u e)

  -- the sheet is at fault
  refused_line : (r : Refused) (why : Refusal) → mend_of plain list s ≡ refused r → (told why r.line).line < 10000000
  refused_line r why e =
      let w = refused_read (read_of plain list 64) s r e in
      go (refused_is longest_text w.0.n (matrix w.0.rows) s r w.1)
    where
      go : ((r.why ≡ Long) × (r.line ≡ 0) × (longest_text < length s)) ⊎ ((length s ≤ longest_text) × (typed_of (lines_of s) ≡ faulty r.why r.line))
          → (told why r.line).line < 10000000
      go (inl h) = omega (arith, line_told why r.line, h.1)
      go (inr h) = omega (arith, line_told why r.line, h.0, typed_line (lines_of s) 1 start r.why r.line h.1, lines_most s)

  refused_printed : (r : Refused) → mend_of plain list s ≡ refused r
      → mended_text plain list s ≡ refused_text (number_of (refusal_of_lem r.why)) (told (refusal_of_lem r.why) r.line).line 0
  unfolding mended_text
  refused_printed r e = ap mending_text e ∙ sheet_told r.why r.line

  pub mended_refused : (r : Refused) (new : List ℕ) → MendPromise plain list s old (Err (OfSheet r)) new
      → (new ≡ old) × (mended_text plain list s ≡ refused_text (number_of (refusal_of_lem r.why)) (told (refusal_of_lem r.why) r.line).line 0)
      × ((why : Refusal) → (told why r.line).line < 10000000)
  mended_refused r new p =
      let e = refused_so (mend_of plain list s) (length old) r p.answer in
      (p.lent ∙ ap (λ (m : Mending). left_of m old) e, refused_printed r e, λ why. refused_line r why e)

-- ---- a sheet that is too long

module _ (plain : Bool) (list s : List ℕ) where
  -- 18, as slotsheet prints it for a text that is
  pub long_read : (g : Gathered) → read_of plain list 64 ≡ Ok g → longest_text < length s → mended_text plain list s ≡ printed plain s
  unfolding mended_text
  long_read g e h =
      ap (λ (x : Result Gathered Unread). mending_text (against_up_to longest_text x s)) e
      ∙ ap (λ (b : Bool). mending_text (cond b (mend_typed g.n (matrix g.rows) (typed_of (lines_of s))) (refused long_one))) (lt-leb (length s) longest_text h)
      ∙ sheet_told Long 0
      ∙ sym (printed_long plain s h)

  pub long_unread : (u : Unread) → read_of plain list 64 ≡ Err u → mended_text plain list s ≡ printed plain list
  unfolding mended_text
  long_unread u e = ap (λ (x : Result Gathered Unread). mending_text (against_up_to longest_text x s)) e ∙ sym (printed_refused plain list u e)
