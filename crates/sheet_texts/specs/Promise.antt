-- What writing a sheet promises, and document 01's numbers of its answer.
--
--   refused_as t      : the numbers of a refusal, told as document 01's table (crate refusals) has it
--   numbers_of_lem a  : the numbers of the answer: the refusal's (0: accepted), the index that it names, and the text's length; those that it
--                       does not name are 0
--   answer_of c room   : what writing answers for the colour bytes c, where there is room for so many bytes: 1, 38, 19, or the length
--   written a x old   : what the lent bytes hold afterwards, where the answer is a and the sheet x
--   WritePromise c old a new : writing the sheet of the colour bytes c, with the bytes old lent, answers a and leaves the bytes new
--
-- Answer and promise are stated for up to `most` entries (`answer_up_to most`, `WritePromiseUpTo most`) and then named for today's limit.
-- Assumes nothing.
use Rattle.std.specs.Prelude.{ℕ, ◌≡◌, List, cond, leb, length, Result, Ok, Err}
use Rattle.refusals.specs.Table.{Told, told, accepted}
use Rattle.refusals.specs.declared.Refusal.TheVariants as refusal
use Rattle.lines.specs.Numeral.{over}
use Rattle.lists.specs.Read.{most_entries}
use Rattle.sheet_texts.specs.Sheet.{numbering, sheet_text}
use Rattle.sheet_texts.specs.declared.Numbers.{Numbers}
use Rattle.sheet_texts.specs.declared.Unwritten.{Unwritten}
use Rattle.sheet_texts.specs.declared.Unwritten.TheVariants.{Many, Colours, Full}

abbrev pub refused_as : Told → Numbers
refused_as t = record { number = t.number; index = t.index; length = 0 }

abbrev pub numbers_of_lem : Result ℕ Unwritten → Numbers
numbers_of_lem (Ok k) = record { number = accepted; index = 0; length = k }
numbers_of_lem (Err Many) = refused_as (told refusal.Many 0)
numbers_of_lem (Err (Colours i)) = refused_as (told refusal.Colours i)
numbers_of_lem (Err Full) = refused_as (told refusal.Full 0)

abbrev pub judged : Result ℕ ℕ → List ℕ → ℕ → Result ℕ Unwritten
judged (Err i) x room = Err (Colours i)
judged (Ok k) x room = cond (leb (length x) room) (Ok (length x)) (Err Full)

abbrev pub answer_up_to : ℕ → List ℕ → ℕ → Result ℕ Unwritten
answer_up_to most c room = cond (leb (length c) most) (judged (numbering c) (sheet_text c) room) (Err Many)

-- the text from the first byte on and the others as they were; refused: nothing is written
abbrev pub written : Result ℕ Unwritten → List ℕ → List ℕ → List ℕ
written (Ok k) x old = over old 0 x
written (Err w) x old = old

pub record WritePromiseUpTo (most : ℕ) (c old : List ℕ) (a : Result ℕ Unwritten) (new : List ℕ) : Type 0 where
  pub answer : a ≡ answer_up_to most c (length old)
  pub lent : new ≡ written (answer_up_to most c (length old)) (sheet_text c) old

-- ---- today's limit

abbrev pub answer_of : List ℕ → ℕ → Result ℕ Unwritten
answer_of c room = answer_up_to most_entries c room

abbrev pub WritePromise : List ℕ → List ℕ → Result ℕ Unwritten → List ℕ → Type 0
WritePromise c old a new = WritePromiseUpTo most_entries c old a new
