-- What mending promises, over the call: a clash text, a sheet, and bytes lent for the output. And document 01's numbers of its answer.
--
--   Mending             : what a sheet mended gives, whatever the room: the whole output; the clash text's own refusal; or the sheet's
--   mend_sheet_lem n clash s : the sheet s, mended for a list of n entries
--   mend_of plain list s : the same against the clash text `list`; `plain` says by which reading the list is read
--   answer_of m room     : the answer, where there is room for so many bytes
--   left_of m old        : what the lent bytes hold afterwards
--   numbers_of_lem a    : the numbers of an answer: the refusal's (0: accepted), its line and column, the output's length, and which text is at fault; those
--                         that it does not name are 0. 19 is told with the sheet, as 5 is by a check
--   MendPromise plain list s old a new : mending the sheet s against the list, with the bytes old lent, answers a and leaves the bytes new
--
-- What depends on a limit is stated for lists of up to `most` entries and texts of up to `longest` bytes (`mend_sheet_up_to longest`, .., `MendPromiseUpTo plain
-- most longest`) and is then named for today's limits. Assumes nothing.
use Rattle.std.specs.Prelude.{ℕ, ◌≡◌, List, Bool, cond, leb, length, Result, Ok, Err}
use Rattle.refusals.specs.Table.{told_at, accepted}
use Rattle.refusals.specs.declared.Refusal.{Refusal}
use Rattle.refusals.specs.declared.Refusal.TheVariants as refusal
use Rattle.clashes.specs.Matrix.{matrix}
use Rattle.lines.specs.Text.{lines_of}
use Rattle.lines.specs.Numeral.{over}
use Rattle.lists.specs.Read.{read_up_to, most_entries, longest_text}
use Rattle.lists.specs.Promise.{refusal_of_lem as list_refusal_of}
use Rattle.lists.specs.declared.Gathered.{Gathered}
use Rattle.lists.specs.declared.Unread.{Unread}
use Rattle.sheets.specs.Promise.{refusal_of_lem}
use Rattle.sheets.specs.declared.Refused.{Refused}
use Rattle.sheets.specs.declared.SheetFault.TheVariants.{Long}
use Rattle.sheets.specs.declared.Text.{Text}
use Rattle.sheets.specs.declared.Text.TheVariants.{Neither, TheList, TheSheet}
use Rattle.mends.specs.Typed.{Typed, is, faulty, typed_of}
use Rattle.mends.specs.Report.{output_text}
use Rattle.mends.specs.declared.Unmended.{Unmended}
use Rattle.mends.specs.declared.Unmended.TheVariants.{OfList, OfSheet, Full}
use Rattle.mends.specs.declared.Numbers.{Numbers}

pub data Mending : Type 0 where
  printed : List ℕ → Mending
  unread : Unread → Mending
  refused : Refused → Mending

-- "Refusals: clash text's own, then 18, 30, 35, 37"
abbrev pub mend_typed : ℕ → (ℕ → ℕ → Bool) → Typed → Mending
mend_typed n clash (is us gs) = printed (output_text n clash gs)
mend_typed n clash (faulty f k) = refused (record { why = f; line = k })

abbrev pub mend_sheet_up_to : ℕ → ℕ → (ℕ → ℕ → Bool) → List ℕ → Mending
mend_sheet_up_to longest n clash s = cond (leb (length s) longest) (mend_typed n clash (typed_of (lines_of s))) (refused (record { why = Long; line = 0 }))

abbrev pub against_up_to : ℕ → Result Gathered Unread → List ℕ → Mending
against_up_to longest (Err why) s = unread why
against_up_to longest (Ok list) s = mend_sheet_up_to longest list.n (matrix list.rows) s

-- with as many rows to read into as a list can have, so that 17 cannot arise
abbrev pub mend_up_to : Bool → ℕ → ℕ → List ℕ → List ℕ → Mending
mend_up_to plain most longest list s = against_up_to longest (read_up_to plain most longest list most) s

-- "19 last", for the whole output
abbrev pub answer_of : Mending → ℕ → Result ℕ Unmended
answer_of (printed x) room = cond (leb (length x) room) (Ok (length x)) (Err Full)
answer_of (unread why) room = Err (OfList why)
answer_of (refused why) room = Err (OfSheet why)

-- the output from the first byte on and the others as they were; refused: nothing is written
abbrev pub left_of : Mending → List ℕ → List ℕ
left_of (printed x) old = cond (leb (length x) (length old)) (over old 0 x) old
left_of (unread why) old = old
left_of (refused why) old = old

pub record MendPromiseUpTo (plain : Bool) (most longest : ℕ) (list s old : List ℕ) (a : Result ℕ Unmended) (new : List ℕ) : Type 0 where
  -- written, with the output's length, or refused with the first refusal that there is, its text, its line and its column
  pub answer : a ≡ answer_of (mend_up_to plain most longest list s) (length old)
  -- written: the output, and the bytes after it as they were; refused: nothing is written
  pub lent : new ≡ left_of (mend_up_to plain most longest list s) old

-- ---- the numbers

abbrev pub refused_in_lem : Text → Refusal → ℕ → ℕ → Numbers
refused_in_lem text r k c = let t = told_at r k c in record { number = t.number; line = t.line; column = t.column; length = 0; text = text }

abbrev pub numbers_of_lem : Result ℕ Unmended → Numbers
numbers_of_lem (Ok k) = record { number = accepted; line = 0; column = 0; length = k; text = Neither }
numbers_of_lem (Err (OfList u)) = refused_in_lem TheList (list_refusal_of u.why) u.line u.column
numbers_of_lem (Err (OfSheet r)) = refused_in_lem TheSheet (refusal_of_lem r.why) r.line 0
numbers_of_lem (Err Full) = refused_in_lem TheSheet refusal.Full 0 0

-- ---- today's limits

abbrev pub mend_sheet_lem : ℕ → (ℕ → ℕ → Bool) → List ℕ → Mending
mend_sheet_lem n clash s = mend_sheet_up_to longest_text n clash s

abbrev pub mend_of : Bool → List ℕ → List ℕ → Mending
mend_of plain list s = mend_up_to plain most_entries longest_text list s

abbrev pub MendPromise : Bool → List ℕ → List ℕ → List ℕ → Result ℕ Unmended → List ℕ → Type 0
MendPromise plain list s old a new = MendPromiseUpTo plain most_entries longest_text list s old a new
