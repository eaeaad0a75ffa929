-- WHAT MENDING A SHEET GIVES. Read this file first. `MendPromise plain list s old a new` (specs/Promise.antt) is what the call is proved to meet: the sheet s is
-- mended against the clash text `list`, a is the answer, `old` what was lent, `new` what it holds afterwards. Each theorem says what follows from it, for every
-- text and every lent memory, in words that have no mending in them:
--
--   ListOf, ListRefused, SheetOf (texts' specs/)  : what an accepted list is, how one is refused, and what an accepted sheet is
--   typed_of (specs/Typed.antt)                    : a sheet's groups as they were typed, by the shape of its lines alone
--   gone n clash gs .groups (specs/Mend.antt)     : what was kept of each group of the sheet
--   OneGroup gs x y, flat gs (proofs/)            : some group of gs has both entries; the members of the groups gs, one after the other
--
-- The mended sheet is `sheet_text c`, where c is `mended n clash gs`; `Wrote` (proofs/Calls.antt) has n, the list's rows and gs. `plain` is true for the plain
-- reading of the list, and false for the other. proofs/Calls.antt has the same for any limits. That "seen before" is that the same number stands earlier in the
-- sheet is `seen_stands` of proofs/Seen.antt. Assumes nothing.
use mathlib.Core.Path.{◌≡◌}
use mathlib.Core.Bool.{Bool}
use mathlib.Core.List.{List, [], ◌++◌}
use Prim.Native.Nat.{ℕ, suc, ◌≤◌, ◌<◌}
use native.Mathlib.Omega.{arith}
use lib.Dec.{eqb}
use Rattle.std.specs.Prelude.{Result, Ok, Err}
use lib.ListN.{length, drop}
use Rattle.sets.specs.Lists.{count}
use Rattle.clashes.specs.Divisions.{at, groups}
use Rattle.clashes.specs.Matrix.{matrix}
use Rattle.lines.specs.Text.{lines_of}
use Rattle.lines.specs.Numeral.{over}
use Rattle.lists.specs.Promise.{number_of as list_number_of}
use Rattle.lists.specs.declared.Unread.{Unread}
use Rattle.sheets.specs.Promise.{CheckPromise}
use Rattle.sheets.specs.declared.Refused.{Refused}
use Rattle.sheets.specs.declared.Unchecked.{Unchecked}
use Rattle.sheet_texts.specs.Sheet.{sheet_text}
use Rattle.texts.specs.Listed.{ListOf}
use Rattle.texts.specs.ListFaults.{ListRefused}
use Rattle.texts.specs.Sheets.{SheetOf}
use Rattle.texts.proofs.ListMeaning.{list_valid}
use Rattle.mends.specs.Typed.{is, typed_of}
use Rattle.mends.specs.Mend.{gone, mended}
use Rattle.mends.specs.Promise.{MendPromise}
use Rattle.mends.specs.declared.Unmended.{Unmended}
use Rattle.mends.specs.declared.Unmended.TheVariants.{OfList, OfSheet, Full}
use Rattle.mends.proofs.Groups.{OneGroup}
use Rattle.mends.proofs.Seen.{flat}
use Rattle.mends.proofs.MendedLaws.{mended_division, kept_together}
use Rattle.mends.proofs.Passing.{sheet_groups}
use Rattle.mends.proofs.Retyped.{sheet_typed, stands_once}
use Rattle.mends.proofs.Sheets.{today, mended_sheet}
use Rattle.mends.proofs.Calls as calls

module _ (plain : Bool) (list s old new : List ℕ) where
  -- Written, with k: the first k lent bytes are the report and the mended sheet, the others are as they were.
  pub mend_written : (k : ℕ) → MendPromise plain list s old (Ok k) new → calls.Wrote plain 64 65536 list s old k new
  mend_written = calls.mend_written plain 64 65536 list s old new

  -- Refused: for the clash text; for the sheet, by 18 or for its lines' shape; or since the output does not fit. Nothing lent is written.
  pub mend_unread : (u : Unread) → MendPromise plain list s old (Err (OfList u)) new → ListRefused plain 64 65536 list 64 (list_number_of u.why) u.line u.column × (new ≡ old)
  mend_unread = calls.mend_unread plain 64 65536 list s old new

  pub mend_refused : (r : Refused) → MendPromise plain list s old (Err (OfSheet r)) new → calls.SheetAtFault plain 64 65536 list s old new r
  mend_refused = calls.mend_refused plain 64 65536 list s old new

  pub mend_full : MendPromise plain list s old (Err Full) new → calls.TooLong plain 64 65536 list s old new
  mend_full = calls.mend_full plain 64 65536 list s old new

  -- A sheet that passes the check comes back byte for byte, with an empty report.
  pub passing_back : (k : ℕ) (lent left : List ℕ) → CheckPromise plain list s lent (Ok k) left → (a : Result ℕ Unmended) → length s ≤ length old
      → MendPromise plain list s old a new → (a ≡ Ok (length s)) × (new ≡ over old 0 s)
  passing_back k lent left x a h p = calls.passing_back plain 64 65536 today list s lent left k x old new a h p

-- Of the list of n entries, and of the sheet that was typed as gs:
module _ (plain : Bool) (list : List ℕ) (n : ℕ) (rows : List ℕ) (l : ListOf plain 64 65536 list n rows) (gs : List (List ℕ)) where
  abbrev pub sheet : List ℕ
  sheet = sheet_text (mended n (matrix rows) gs)

  -- The mended sheet is that of a clash-free division of the entries.
  pub mended_is : SheetOf 65536 n (matrix rows) sheet (groups 0 (mended n (matrix rows) gs)) (mended n (matrix rows) gs)
  mended_is = mended_sheet 64 65536 today n l.few (matrix rows) (list_valid plain 64 65536 list n rows l) gs

  -- It passes the check against the same list.
  pub mended_passes : (old new : List ℕ) (a : Result ℕ Unchecked) → n ≤ length old → CheckPromise plain list sheet old a new
      → (a ≡ Ok (groups 0 (mended n (matrix rows) gs))) × (new ≡ mended n (matrix rows) gs ++ drop n old)
  mended_passes = calls.mended_passes plain 64 65536 today list n rows l gs

  -- Mending it changes nothing more.
  pub mended_again : (old new : List ℕ) (a : Result ℕ Unmended) → length sheet ≤ length old → MendPromise plain list sheet old a new
      → (a ≡ Ok (length sheet)) × (new ≡ over old 0 sheet)
  mended_again = calls.mended_again plain 64 65536 today list n rows l gs

  -- Every entry stands in it once.
  pub mended_typed : typed_of (lines_of sheet) ≡ is [] (sheet_groups (mended n (matrix rows) gs))
  mended_typed = let d = mended_division n (matrix rows) gs in sheet_typed (mended n (matrix rows) gs) d.numbered (omega (arith, d.long, l.few))

  pub each_once : (e : ℕ) → e < n → count (eqb (suc e)) (flat (sheet_groups (mended n (matrix rows) gs))) ≡ 1
  each_once e h = let d = mended_division n (matrix rows) gs in stands_once (mended n (matrix rows) gs) e (omega (arith, d.long)) d.numbered

  -- An entry that was kept stands with the kept ones of its group.
  pub kept_stay : (x y : ℕ) → x < n → y < n → OneGroup (gone n (matrix rows) gs).groups x y → at (mended n (matrix rows) gs) x ≡ at (mended n (matrix rows) gs) y
  kept_stay = kept_together n (matrix rows) gs (list_valid plain 64 65536 list n rows l)
