-- What mend prints, from what the calls promise: what `mend_sheet` writes, where it writes; the line of a refused sheet; and of a refused list the very line that
-- slotsheet prints. And each promise leaves one answer and one state of the lent bytes. Assumes nothing.
use Prim.Native.Nat.{ℕ}
use mathlib.Core.Path.{◌≡◌}
use mathlib.Core.List.{List}
use mathlib.Core.Bool.{Bool}
use native.Mathlib.Omega.{arith}
use Rattle.std.specs.Prelude.{Result, Ok, Err}
use Rattle.refusals.specs.Table.{number_of, told}
use Rattle.lists.specs.declared.Unread.{Unread}
use Rattle.sheets.specs.Promise.{refusal_of_lem}
use Rattle.sheets.specs.declared.Refused.{Refused}
use Rattle.mends.specs.Promise.{MendPromise}
use Rattle.mends.specs.declared.Unmended.TheVariants.{OfList, OfSheet}
use Rattle.answers.specs.Printed.{refused_text, printed}
use Rattle.answers.specs.Mended.{mended_text, MendedPromise, LongSheetPromise}
use Rattle.answers.specs.declared.Full.{Full}
use Rattle.answers.proofs.Calls.{writes_unique, long, long_enough}
use Rattle.answers.proofs.MendLaws.{mended_written, mended_unread, mended_refused}

module _ (plain : Bool) (list s old new : List ℕ) where
  -- the same bytes, in the same room
  pub written_printed : (k : ℕ) → MendPromise plain list s old (Ok k) new → MendedPromise plain list s old (Ok k) new
  written_printed k p = mended_written plain list s old k new p

  -- "exactly as slotsheet would"
  pub unread_printed : (u : Unread) → MendPromise plain list s old (Err (OfList u)) new → mended_text plain list s ≡ printed plain list
  unread_printed u p = (mended_unread plain list s old u new p).1

  pub refused_printed : (r : Refused) → MendPromise plain list s old (Err (OfSheet r)) new
      → mended_text plain list s ≡ refused_text (number_of (refusal_of_lem r.why)) (told (refusal_of_lem r.why) r.line).line 0
  refused_printed r p = (mended_refused plain list s old r new p).1

-- ---- one answer

pub mended_unique : (plain : Bool) (list s old : List ℕ) (a b : Result ℕ Full) (new other : List ℕ) → MendedPromise plain list s old a new
    → MendedPromise plain list s old b other → (a ≡ b) × (new ≡ other)
mended_unique plain list s = writes_unique (mended_text plain list s)

pub long_sheet_unique : (plain : Bool) (list old : List ℕ) (a b : Result ℕ Full) (new other : List ℕ) → LongSheetPromise plain list old a new
    → LongSheetPromise plain list old b other → (a ≡ b) × (new ≡ other)
long_sheet_unique plain list old a b new other p q =
    let s = long 65537 in
    let h = long_enough 65537 (omega arith) in
    mended_unique plain list s old a b new other (p s h) (q s h)
