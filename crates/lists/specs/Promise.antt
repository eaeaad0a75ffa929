-- What the callable functions promise, and the papers' numbers of their answers.
--
--   refusal_of_lem f        : the refusal of the table (crate refusals) that a fault is
--   number_of f              : its number
--   Numbers                 : an answer in numbers: the refusal (0: accepted), its line or row, its column, and n or the text's length; 0 where
--                             not named
--   read_numbers a          : the numbers of reading's answer
--   write_numbers a         : the numbers of writing's answer
--   ReadPromise plain s old a new : reading the text s with the rows old lent answers a and leaves the rows new; repeats are refused where
--                             `plain` is true, else allowed
--   WritePromise rows old a new : writing the list of these rows with the bytes old lent answers a and leaves the bytes new
--
-- Both promises are stated for any limits (`ReadPromiseUpTo plain most longest`, `WritePromiseUpTo most`) and then named for today's.
-- Assumes nothing.
use Rattle.std.specs.Prelude.{ℕ, ◌≡◌, List, Bool, Result, Ok, Err, length}
use Rattle.refusals.specs.Table.{Told, told, told_at, accepted}
use Rattle.refusals.specs.Table as table
use Rattle.refusals.specs.declared.Refusal.{Refusal}
use Rattle.refusals.specs.declared.Refusal.TheVariants as refusal
use Rattle.lists.specs.Read.{most_entries, longest_text, read_up_to, answer_in, written_of}
use Rattle.lists.specs.Write.{text_of, answer_of, left_of}
use Rattle.clashes.specs.Matrix.{numbers, JudgedUpTo}
use Rattle.refusals.specs.declared.Invalid.{Invalid}
use Rattle.lists.specs.declared.Fault.{Fault}
use Rattle.lists.specs.declared.Fault.TheVariants.{Line, Headless, Second, Size, Room, Vertex, Loop, Count, Long, Repeat, Digit, Space, Unended}
use Rattle.lists.specs.declared.Unread.{Unread}
use Rattle.lists.specs.declared.Unwritten.{Unwritten}
use Rattle.lists.specs.declared.Unwritten.TheVariants.{OfRows, Full}

-- 10 to 18, and 20 to 23, by their names in the table
abbrev pub refusal_of_lem : Fault → Refusal
refusal_of_lem Line = refusal.Line
refusal_of_lem Headless = refusal.Headless
refusal_of_lem Second = refusal.Second
refusal_of_lem Size = refusal.Size
refusal_of_lem Vertex = refusal.Vertex
refusal_of_lem Loop = refusal.Loop
refusal_of_lem Count = refusal.Count
refusal_of_lem Room = refusal.Room
refusal_of_lem Long = refusal.Long
refusal_of_lem Repeat = refusal.Repeat
refusal_of_lem Digit = refusal.Digit
refusal_of_lem Space = refusal.Space
refusal_of_lem Unended = refusal.Unended

abbrev pub number_of : Fault → ℕ
number_of f = table.number_of (refusal_of_lem f)

pub record Numbers : Type 0 where
  pub number : ℕ
  pub place : ℕ
  pub column : ℕ
  pub size : ℕ

abbrev pub read_numbers : Result ℕ Unread → Numbers
read_numbers (Ok n) = record { number = accepted; place = 0; column = 0; size = n }
read_numbers (Err u) = let t = told_at (refusal_of_lem u.why) u.line u.column in record { number = t.number; place = t.line; column = t.column; size = 0 }

-- a refusal of the rows, or 19, which names none
abbrev pub at_row : Told → Numbers
at_row t = record { number = t.number; place = t.row; column = 0; size = 0 }

abbrev pub write_numbers : Result ℕ Unwritten → Numbers
write_numbers (Ok n) = record { number = accepted; place = 0; column = 0; size = n }
write_numbers (Err (OfRows i)) = at_row (numbers (Err i))
write_numbers (Err Full) = at_row (told refusal.Full 0)

pub record ReadPromiseUpTo (plain : Bool) (most longest : ℕ) (s old : List ℕ) (a : Result ℕ Unread) (new : List ℕ) : Type 0 where
  -- accepted with n, or refused with the first refusal that the text has, its line, and its column
  pub answer : a ≡ answer_in (read_up_to plain most longest s (length old))
  -- accepted: the first n rows are the list's, the others as they were; refused: nothing is written
  pub lent : new ≡ written_of (read_up_to plain most longest s (length old)) old

pub record WritePromiseUpTo (most : ℕ) (rows old : List ℕ) (a : Result ℕ Unwritten) (new : List ℕ) : Type 0 where
  -- 1 to 4: what is wrong with the rows, if anything
  pub verdict : Result Unit Invalid
  pub judged : JudgedUpTo most rows verdict
  -- the text's length, or the first refusal
  pub answer : a ≡ answer_of verdict (text_of rows) (length old)
  -- accepted: the text, and the bytes after it as they were; refused: nothing is written
  pub lent : new ≡ left_of verdict (text_of rows) old

-- ---- today's limits

abbrev pub ReadPromise : Bool → List ℕ → List ℕ → Result ℕ Unread → List ℕ → Type 0
ReadPromise plain s old a new = ReadPromiseUpTo plain most_entries longest_text s old a new

abbrev pub WritePromise : List ℕ → List ℕ → Result ℕ Unwritten → List ℕ → Type 0
WritePromise rows old a new = WritePromiseUpTo most_entries rows old a new
