-- The very bytes that mend prints for a clash text and a sheet (document 02, Ask 9): the report and the mended sheet, or "refused R line L" and a line feed, with
-- " column C" where the clash text's refusal has one, as slotsheet prints it.
--
--   mending_text m           : of what mending gives
--   mended_text plain list s : of the clash text `list` and the sheet s; repeats are refused where `plain` is true, else allowed
--   MendedPromise plain list s old a new : that is written from the first of the bytes old on, or does not fit, and nothing is written
--   LongSheetPromise plain list old a new : the same for each sheet that is too long
--
-- What mending gives is said in crates/mends/specs. Assumes nothing.
use Rattle.std.specs.Prelude.{ℕ, ◌<◌, List, Bool, length, Result}
use Rattle.lists.specs.Read.{longest_text}
use Rattle.lists.specs.Promise.{refusal_of_lem as list_refusal_of}
use Rattle.sheets.specs.Promise.{refusal_of_lem}
use Rattle.mends.specs.Promise.{Mending, printed, unread, refused, mend_of}
use Rattle.answers.specs.Printed.{told_text, Writes}
use Rattle.answers.specs.declared.Full.{Full}

abbrev pub mending_text : Mending → List ℕ
mending_text (printed x) = x
mending_text (unread u) = told_text (list_refusal_of u.why) u.line u.column
mending_text (refused r) = told_text (refusal_of_lem r.why) r.line 0

unfoldable pub mended_text : Bool → List ℕ → List ℕ → List ℕ
mended_text plain list s = mending_text (mend_of plain list s)

abbrev pub MendedPromise : Bool → List ℕ → List ℕ → List ℕ → Result ℕ Full → List ℕ → Type 0
MendedPromise plain list s old a new = Writes (mended_text plain list s) old a new

abbrev pub LongSheetPromise : Bool → List ℕ → List ℕ → Result ℕ Full → List ℕ → Type 0
LongSheetPromise plain list old a new = (s : List ℕ) → longest_text < length s → MendedPromise plain list s old a new
