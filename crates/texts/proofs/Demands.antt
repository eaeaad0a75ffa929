-- WHAT THE ANSWERS TO TEXTS MEAN. Read this file first. `ReadPromise plain s old a new` (lists) and `CheckPromise plain list s old a new` (sheets) are
-- what the calls are proved to meet: a is the answer, `old` what was lent, `new` what it holds afterwards. Each theorem says what follows from them, for
-- every text and every lent memory, over the texts' lines as they stand; no reading is in the words that it is said with. They are in specs/:
--
--   ListOf plain most longest s n rows          (Listed)      : the text s is a list of n entries, and the n rows are its clashes
--   ListRefused plain most longest s room f k c (ListFaults)  : the text s is refused with the number f, the line k and the column c
--   SheetOf longest n clash s k c               (Sheets)      : the sheet s is the text of c, a clash-free division of n entries into k groups
--   SheetRefused longest n clash s f k          (SheetFaults) : the sheet s is refused with the number f and the line k
--
-- `plain` is true for the plain reading, which refuses a repeat, and false for the other, which allows it: each theorem is about both. That both answer
-- alike to what is written, and wherever the plain one refuses no repeat, is `calls_alike` and `reads_alike` of lists/proofs/Calls.antt.
-- Numbers of faults are the table's (crate refusals). proofs/ReadCalls.antt and CheckCalls.antt have the same for any limits. Assumes nothing.
use mathlib.Core.Path.{◌≡◌}
use mathlib.Core.Bool.{Bool, true, false}
use mathlib.Core.Logic.{◌↔◌}
use mathlib.Core.List.{List, ◌++◌}
use Prim.Native.Nat.{ℕ, ◌≤◌, ◌<◌}
use native.Mathlib.Omega.{arith}
use lib.ListN.{length, take, drop}
use Rattle.std.specs.Prelude.{Result, Ok, Err}
use Rattle.refusals.specs.Table.{number_of}
use Rattle.refusals.specs.declared.Refusal.TheVariants.{Room, Repeat}
use Rattle.clashes.specs.Matrix.{matrix}
use Rattle.lines.specs.Text.{lines_of}
use Rattle.lists.specs.Promise.{refusal_of_lem as list_refusal, read_numbers, ReadPromise}
use Rattle.lists.specs.declared.Unread.{Unread}
use Rattle.sheets.specs.Promise.{refusal_of_lem as sheet_refusal, numbers_of_lem, CheckPromise}
use Rattle.sheets.specs.declared.Text.TheVariants.{TheList, TheSheet}
use Rattle.sheets.specs.declared.Refused.{Refused}
use Rattle.sheets.specs.declared.Unchecked.{Unchecked}
use Rattle.sheets.specs.declared.Unchecked.TheVariants.{OfList, Short, OfSheet}
use Rattle.texts.specs.Listed.{RepeatAt, ListOf}
use Rattle.texts.specs.ListFaults.{ListRefused}
use Rattle.texts.specs.Sheets.{SheetOf}
use Rattle.texts.specs.SheetFaults.{SheetRefused}
use Rattle.texts.proofs.ListMeaning as lists
use Rattle.texts.proofs.SheetMeaning as sheets
use Rattle.texts.proofs.ReadCalls as reading
use Rattle.texts.proofs.CheckCalls as checking

-- ---- reading a clash text

module _ (plain : Bool) (s old new : List ℕ) where
  -- Accepted with n: the text is a list of n entries, whose clashes are those of the first n lent rows; the others are as they were.
  pub list_accepted : (n : ℕ) → ReadPromise plain s old (Ok n) new → ListOf plain 64 65536 s n (take n new) × (n ≤ length old) × (drop n new ≡ drop n old)
  list_accepted = reading.read_accepted plain 64 65536 s old new

  -- Every list for which there is room is accepted, and its rows are stored.
  pub list_taken : (a : Result ℕ Unread) → ReadPromise plain s old a new → (n : ℕ) (rows : List ℕ) → ListOf plain 64 65536 s n rows → n ≤ length old
      → (a ≡ Ok n) × (new ≡ rows ++ drop n old)
  list_taken = reading.read_taken plain 64 65536 s old new

  -- Refused: line k has this fault, no line before it has any, and none that comes before it in the order is in line k; or so at the end; or 18. The column
  -- of 10, 21, 22 and 23 is that of the first byte at which line k can no longer begin any permitted line, or one past its end; any other has 0. Nothing
  -- lent is written.
  pub list_refused : (u : Unread) → ReadPromise plain s old (Err u) new
      → ListRefused plain 64 65536 s (length old) (number_of (list_refusal u.why)) u.line u.column × (new ≡ old)
  list_refused = reading.read_refused plain 64 65536 s old new

  -- Every text that the words refuse is refused with that number, that line and that column.
  pub list_returned : (a : Result ℕ Unread) → ReadPromise plain s old a new → (f k c : ℕ) → ListRefused plain 64 65536 s (length old) f k c
      → read_numbers a ≡ record { number = f; place = k; column = c; size = 0 }
  list_returned = reading.read_returned plain 64 65536 s old new

-- The words leave one list, or one refusal, one line and one column, and not both.
module _ (plain : Bool) (most longest : ℕ) (s : List ℕ) where
  pub one_list : (n m : ℕ) (rows cols : List ℕ) → ListOf plain most longest s n rows → ListOf plain most longest s m cols → (n ≡ m) × (rows ≡ cols)
  one_list = lists.list_one plain most longest s

  pub one_list_refusal : (room f g k j c d : ℕ) → ListRefused plain most longest s room f k c → ListRefused plain most longest s room g j d
      → (f ≡ g) × (k ≡ j) × (c ≡ d)
  one_list_refusal = lists.list_refusal_one plain most longest s

  pub list_or_refusal : (n : ℕ) (rows : List ℕ) → ListOf plain most longest s n rows → (room : ℕ) → n ≤ room → (f k c : ℕ)
      → ¬ ListRefused plain most longest s room f k c
  list_or_refusal = lists.list_unrefused plain most longest s

  -- With as many rows lent as a list can have entries, 17 cannot arise.
  pub never_room : (k c : ℕ) → ¬ ListRefused plain most longest s most (number_of Room) k c
  never_room = lists.never_room plain most longest s

-- The plain reading's lists are those of the other one in which no edge stands twice, and only it refuses a repeat.
module _ (most longest : ℕ) (s : List ℕ) where
  pub plain_list : (n : ℕ) (rows : List ℕ) → ListOf true most longest s n rows ↔ (ListOf false most longest s n rows × ((k : ℕ) → ¬ RepeatAt (lines_of s) k))
  plain_list = lists.list_plain most longest s

  pub never_repeat : (room k c : ℕ) → ¬ ListRefused false most longest s room (number_of Repeat) k c
  never_repeat = lists.never_repeat most longest s

-- ---- checking a sheet against a clash text

module _ (plain : Bool) (list s old new : List ℕ) where
  -- Accepted with k: the first n lent bytes are a division, clash-free for the list that was read, into k groups, and the sheet is its text, byte for
  -- byte; the other bytes are as they were.
  pub check_accepted : (k : ℕ) → CheckPromise plain list s old (Ok k) new
      → (n : ℕ) × (rows : List ℕ) × ListOf plain 64 65536 list n rows × (n ≤ length old) × SheetOf 65536 n (matrix rows) s k (take n new) × (drop n new ≡ drop n old)
  check_accepted = checking.check_accepted plain 64 65536 list s old new

  -- Not accepted: the clash text is refused, the colour bytes are fewer than n, or the sheet is refused, in this order. Nothing lent is written.
  pub check_unread : (u : Unread) → CheckPromise plain list s old (Err (OfList u)) new
      → ListRefused plain 64 65536 list 64 (number_of (list_refusal u.why)) u.line u.column × (new ≡ old)
  check_unread = checking.check_unread plain 64 65536 list s old new

  pub check_short : CheckPromise plain list s old (Err Short) new → (n : ℕ) × (rows : List ℕ) × ListOf plain 64 65536 list n rows × (length old < n) × (new ≡ old)
  check_short = checking.check_short plain 64 65536 list s old new

  pub check_refused : (r : Refused) → CheckPromise plain list s old (Err (OfSheet r)) new
      → (n : ℕ) × (rows : List ℕ) × ListOf plain 64 65536 list n rows × (n ≤ length old) × SheetRefused 65536 n (matrix rows) s (number_of (sheet_refusal r.why)) r.line × (new ≡ old)
  check_refused = checking.check_refused plain 64 65536 list s old new

  module _ (a : Result ℕ Unchecked) (p : CheckPromise plain list s old a new) where
    -- Each of these wherever the words say so, with that number, that line, that column, and which text is at fault.
    pub check_unread_so : (f k c : ℕ) → ListRefused plain 64 65536 list 64 f k c
        → numbers_of_lem a ≡ record { number = f; line = k; column = c; groups = 0; text = TheList }
    check_unread_so = checking.check_unread_so plain 64 65536 list s old new a p

    module _ (n : ℕ) (rows : List ℕ) (l : ListOf plain 64 65536 list n rows) where
      pub check_short_so : length old < n → a ≡ Err Short
      check_short_so = checking.check_short_so plain 64 65536 list s old new a p n rows l

      pub check_refused_so : n ≤ length old → (f k : ℕ) → SheetRefused 65536 n (matrix rows) s f k
          → numbers_of_lem a ≡ record { number = f; line = k; column = 0; groups = 0; text = TheSheet }
      check_refused_so = checking.check_refused_so plain 64 65536 list s old new a p n rows l

      -- Every sheet that is the text of a clash-free division is accepted, with it.
      pub check_taken : n ≤ length old → (k : ℕ) (c : List ℕ) → SheetOf 65536 n (matrix rows) s k c → (a ≡ Ok k) × (new ≡ c ++ drop n old)
      check_taken = checking.check_taken plain 64 65536 list s old new a p n rows l (omega (arith, l.few))

-- The words leave one division, or one refusal and one line, and not both.
module _ (longest n : ℕ) (clash : ℕ → ℕ → Bool) (s : List ℕ) where
  pub one_sheet_refusal : (f g k j : ℕ) → SheetRefused longest n clash s f k → SheetRefused longest n clash s g j → (f ≡ g) × (k ≡ j)
  one_sheet_refusal = sheets.sheet_refusal_one n clash longest s

  -- a number in a text has at most 7 digits
  pub one_division : n < 10000000 → (k m : ℕ) (c d : List ℕ) → SheetOf longest n clash s k c → SheetOf longest n clash s m d → (k ≡ m) × (c ≡ d)
  one_division = sheets.sheet_one n clash longest s

  pub sheet_or_refusal : n < 10000000 → (k : ℕ) (c : List ℕ) → SheetOf longest n clash s k c → (f j : ℕ) → ¬ SheetRefused longest n clash s f j
  sheet_or_refusal = sheets.sheet_unrefused n clash longest s
