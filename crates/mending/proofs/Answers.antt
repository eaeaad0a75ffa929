-- The call's answers: what was gone through is what mends says, and the output is all that was put.
use Prim.Native.Nat.{ℕ, ◌+◌, ◌≤◌, ◌<◌}
use mathlib.Core.Path.{◌≡◌, refl, sym, ap, subst, ◌∙◌}
use mathlib.Core.Logic.{⊎_elim}
use mathlib.Core.List.{List, [], ◌∷◌, ◌++◌, append_assoc}
use mathlib.Core.Bool.{Bool, cond}
use native.Mathlib.Decide.{ℕ_discrete}
use native.Mathlib.Omega.{arith}
use borrow.Author.Tests.{le-leb, lt-leb}
use lib.Dec.{T}
use Rattle.std.specs.Prelude.{Result, Ok, Err}
use lib.ListN.{length, take, length-append}
use lib.Seq.{length-take-le}
use Rattle.sets.specs.Lists.{put, any, members, over as fold}
use Rattle.sets.specs.Set.{has}
use Rattle.sets.proofs.TestLaws.{T→false, any_get}
use Rattle.clashes.specs.Divisions.{Canon, groups, division}
use Rattle.clashes.specs.Matrix.{matrix, Valid}
use Rattle.clashes.proofs.DivisionLaws.{division_canon}
use Rattle.lines.specs.Text.{lines_of}
use Rattle.lines.specs.Numeral.{over, Put}
use Rattle.lists.specs.Read.{most_entries, longest_text, read_of}
use Rattle.lists.specs.declared.Gathered.{Gathered}
use Rattle.lists.specs.declared.Unread.{Unread}
use Rattle.sheets.specs.declared.Refused.{Refused}
use Rattle.sheets.specs.declared.SheetFault.TheVariants.{Long}
use Rattle.sheet_texts.specs.Sheet.{sheet_text}
use Rattle.texts.proofs.ListAccepted.{list_accepted}
use Rattle.texts.proofs.ListMeaning.{list_valid}
use Rattle.mends.specs.declared.Unmended.{Unmended}
use Rattle.mends.specs.declared.Unmended.TheVariants.{OfList, OfSheet, Full}
use Rattle.mends.specs.Typed.{Typed, is, faulty, typed_of}
use Rattle.mends.specs.Mend.{none, Going, closed, group_of, start as nothing_gone, gone, again, admit, group_place, mended}
use Rattle.mends.specs.Report.{dropped_lines, dropped_text, put_text, output_text}
use Rattle.mends.specs.Promise.{Mending, printed, refused, mend_typed, mend_sheet_lem, against_up_to, mend_of, answer_of, left_of, MendPromise}
use Rattle.mends.proofs.Groups.{Apart}
use Rattle.mends.proofs.MendedLaws.{mended_has, mended_apart}
use Rattle.mends.proofs.Sheets.{Headed, headed}
use Rattle.mending.specs.Rows.{RowsAt}
use Rattle.mending.specs.Groups.{sets_of}
use Rattle.mending.specs.Held.{going_of, dropped_of, run, ThroughOf}
use Rattle.mending.specs.Places.{AgainOf, Everyone, NumberedOf}
use Rattle.mending.specs.Calls.{GoneAs, WholeAs, mended_of, Answered}
use Rattle.mending.specs.declared.Gone.{Gone}
use Rattle.mending.specs.declared.groups.Groups.{Groups}
use Rattle.mending.specs.declared.groups.Numbered.{Numbered}
use Rattle.mending.proofs.Dropped.{dropped_are}

-- ---- put again, and in order

module _ (n : ℕ) (clash : ℕ → ℕ → Bool) (v : Valid n clash) (g : Gone) (a : GoneAs n clash g) (e : ℕ) (R : AgainOf n g e) (r : Groups)
    (P : sets_of r ≡ fold (admit n clash) (sets_of g.groups) (members (has e) 64)) where
  pub sets_are : sets_of r ≡ mended_of n clash (going_of g)
  sets_are = P ∙ ap (fold (admit n clash) (going_of g).groups) R.is

  pub sets_apart : Apart (sets_of r)
  sets_apart = subst Apart (sym (sets_are ∙ ap (mended_of n clash) a.is)) (mended_apart n clash a.groups v)

  pub sets_all : Everyone n (sets_of r)
  sets_all = subst (Everyone n) (sym (sets_are ∙ ap (mended_of n clash) a.is)) (mended_has n clash a.groups v)

-- ---- the output

module _ (n : ℕ) (few : n ≤ 64) (order : Numbered) (f : ℕ → ℕ) (N : NumberedOf n f order) where
  pub colours_long : length (take n order.colours) ≡ n
  colours_long = length-take-le n order.colours (omega (arith, N.long))

  pub colours_canon : Canon 0 (take n order.colours)
  colours_canon = subst (Canon 0) (sym N.is) (division_canon ℕ_discrete n f)

  pub colours_groups : order.groups ≡ groups 0 (take n order.colours)
  colours_groups = N.many ∙ sym (ap (groups 0) N.is)

module _ (n : ℕ) (clash : ℕ → ℕ → Bool) (s : List ℕ) (short : length s ≤ 65536) (g : Gone) (w : WholeAs n clash s g) (e : ℕ) (R : AgainOf n g e) (order : Numbered)
    (N : NumberedOf n (group_place (mended_of n clash (going_of g))) order) where
  colours_are : take n order.colours ≡ mended n clash w.through.groups
  colours_are = N.is ∙ ap (λ (y : Going). division ℕ_discrete n (group_place (mended_of n clash y))) w.through.is

  abbrev pub whole_text : List ℕ
  whole_text = dropped_text (dropped_of n s) ++ (put_text (take n order.colours) (members (has e) 64) ++ sheet_text (take n order.colours))

  output_is : whole_text ≡ output_text n clash w.through.groups
  output_is =
      let gs = w.through.groups in
      ap (λ (ls : List ℕ). dropped_text ls ++ (put_text (take n order.colours) (members (has e) 64) ++ sheet_text (take n order.colours))) (dropped_are n s gs w.typed)
      ∙ ap (λ (c : List ℕ). dropped_text (dropped_lines n none 2 gs) ++ (put_text c (members (has e) 64) ++ sheet_text c)) colours_are
      ∙ ap (λ (es : List ℕ). dropped_text (dropped_lines n none 2 gs) ++ (put_text (mended n clash gs) es ++ sheet_text (mended n clash gs)))
      (R.is ∙ ap (again n) w.through.is)
      ∙ sym (append_assoc (dropped_text (dropped_lines n none 2 gs)) (put_text (mended n clash gs) (again n (gone n clash gs))) (sheet_text (mended n clash gs)))

  mend_is : mend_sheet_lem n clash s ≡ printed whole_text
  mend_is =
      ap (λ (b : Bool). cond b (mend_typed n clash (typed_of (lines_of s))) (refused (record { why = Long; line = 0 }))) (le-leb (length s) longest_text short)
      ∙ ap (mend_typed n clash) w.typed
      ∙ ap printed (sym output_is)

  -- its length, by its pieces
  pub whole_length : (b p t : ℕ) → b ≡ g.bytes → p ≡ length (put_text (take n order.colours) (members (has e) 64)) → t ≡ length (sheet_text (take n order.colours))
      → b + p + t ≡ length whole_text
  whole_length b p t eb ep et =
      omega (
        arith,
        w.bytes,
        length-append (dropped_text (dropped_of n s)) (put_text (take n order.colours) (members (has e) 64) ++ sheet_text (take n order.colours)),
        length-append (put_text (take n order.colours) (members (has e) 64)) (sheet_text (take n order.colours)),
      )

  pub answered_full : (old : List ℕ) → length old < length whole_text → Answered (mend_sheet_lem n clash s) old (Err Full) old
  answered_full old h =
      subst (λ (m : Mending). Answered m old (Err Full) old) (sym mend_is)
      (record {
        answer = sym (ap (λ (b : Bool). cond b (Ok (length whole_text)) (Err Full)) (lt-leb (length whole_text) (length old) h));
        lent = sym (ap (λ (b : Bool). cond b (over old 0 whole_text) old) (lt-leb (length whole_text) (length old) h));
      })

  pub answered_written : (old new : List ℕ) (k : ℕ) → length whole_text ≤ length old → Put old 0 whole_text new k → Answered (mend_sheet_lem n clash s) old (Ok k) new
  answered_written old new k h p =
      let z : k ≡ length whole_text = omega (arith, p.0) in
      subst (λ (m : Mending). Answered m old (Ok k) new) (sym mend_is)
      (record {
        answer = ap (λ (y : ℕ). let r : Result ℕ Unmended = Ok y in r) z ∙ sym (ap (λ (b : Bool). cond b (Ok (length whole_text)) (Err Full)) (le-leb (length whole_text) (length old) h));
        lent = p.1 ∙ sym (ap (λ (b : Bool). cond b (over old 0 whole_text) old) (le-leb (length whole_text) (length old) h));
      })

-- ---- a sheet gone through

module _ (n : ℕ) (clash : ℕ → ℕ → Bool) (s old : List ℕ) where
  pub answered_long : 65536 < length s → Answered (mend_sheet_lem n clash s) old (Err (OfSheet (record { why = Long; line = 0 }))) old
  answered_long h =
      subst
      (λ (b : Bool). Answered (cond b (mend_typed n clash (typed_of (lines_of s))) (refused (record { why = Long; line = 0 }))) old
      (Err (OfSheet (record { why = Long; line = 0 }))) old)
      (sym (lt-leb (length s) longest_text h))
      (record { answer = refl; lent = refl })

  pub answered_fault : length s ≤ 65536 → (w : Refused) → ThroughOf n clash s (Err w) → Answered (mend_sheet_lem n clash s) old (Err (OfSheet w)) old
  answered_fault short w t =
      subst (λ (b : Bool). Answered (cond b (mend_typed n clash (typed_of (lines_of s))) (refused (record { why = Long; line = 0 }))) old (Err (OfSheet w)) old)
      (sym (le-leb (length s) longest_text short)) (go (typed_of (lines_of s)) t.ran)
    where
      go : (y : Typed) → ◌≡◌ {A = Result Going Refused} (Err w) (run n clash nothing_gone y) → Answered (mend_typed n clash y) old (Err (OfSheet w)) old
      go (is us gs) q = let z : ◌≡◌ {A = ℕ} 0 1 = cc in absurd (omega arith)
      go (faulty h j) q =
          let z : ◌≡◌ {A = Refused} w (record { why = h; line = j }) = cc in
          subst (λ (x : Refused). Answered (refused x) old (Err (OfSheet w)) old) z (record { answer = refl; lent = refl })

  -- nothing is known before the first group, and nothing more after its end
  closed_nothing : closed n nothing_gone ≡ nothing_gone
  closed_nothing =
      λ i. record {
        seen = none;
        lifted = none;
        mates = none;
        groups = ap (λ (b : Bool). put b none []) (T→false (any n none) (λ a. (any_get n none a).2)) i;
      }

  pub whole_as : (g : Gone) → ThroughOf n clash s (Ok g) → WholeAs n clash s g
  whole_as g t = go (typed_of (lines_of s)) refl (headed (lines_of s)) t.ran
    where
      go : (y : Typed) → typed_of (lines_of s) ≡ y → Headed y → ◌≡◌ {A = Result Going Refused} (Ok (going_of g)) (run n clash nothing_gone y) → WholeAs n clash s g
      go (is [] gs) q h x =
          let z : going_of g ≡ fold (group_of n clash) (closed n nothing_gone) gs = cc in
          record {
            through = record { groups = gs; is = z ∙ ap (λ (y : Going). fold (group_of n clash) y gs) closed_nothing; fits = t.held.0 };
            typed = q;
            bytes = t.held.1;
            small = t.held.2;
          }
      go (is (u ∷ us) gs) q h x = absurd h
      go (faulty f k) q h x = let z : ◌≡◌ {A = ℕ} 0 1 = cc in absurd (omega arith)

-- ---- the list's rows

module _ (plain : Bool) (list : List ℕ) where
  module _ (f : Gathered) (r : read_of plain list 64 ≡ Ok f) where
    pub rows_of : length f.rows ≡ 64 → RowsAt 64 f.n f.rows
    rows_of long =
        let w = list_accepted plain most_entries longest_text list 64 f r in
        let l = w.0 in
        record {
          few = l.few;
          long = omega (arith, l.few);
          straight =
              λ i j t.
              let (k, a) = (l.clashes i j).0 (subst (λ (c : ℕ → ℕ → Bool). T (c i j)) (sym w.2) t) in
              ⊎_elim (λ b. omega (arith, (l.edges k (i + 1) (j + 1) b).1.second.1)) (λ b. omega (arith, (l.edges k (j + 1) (i + 1) b).1.first.1)) a;
        }

    pub rows_valid : Valid f.n (matrix f.rows)
    rows_valid =
        let w = list_accepted plain most_entries longest_text list 64 f r in
        subst (Valid f.n) w.2 (list_valid plain most_entries longest_text list f.n _ w.0)

    pub promised : (s old : List ℕ) (a : Result ℕ Unmended) (new : List ℕ) → Answered (mend_sheet_lem f.n (matrix f.rows) s) old a new
        → MendPromise plain list s old a new
    promised s old a new p =
        let m : mend_sheet_lem f.n (matrix f.rows) s ≡ mend_of plain list s = sym (ap (λ (x : Result Gathered Unread). against_up_to longest_text x s) r) in
        record { answer = p.answer ∙ ap (λ (y : Mending). answer_of y (length old)) m; lent = p.lent ∙ ap (λ (y : Mending). left_of y old) m }

  pub promised_unread : (why : Unread) → read_of plain list 64 ≡ Err why → (s old : List ℕ) → MendPromise plain list s old (Err (OfList why)) old
  promised_unread why r s old =
      let m = sym (ap (λ (x : Result Gathered Unread). against_up_to longest_text x s) r) in
      record { answer = ap (λ (y : Mending). answer_of y (length old)) m; lent = ap (λ (y : Mending). left_of y old) m }
