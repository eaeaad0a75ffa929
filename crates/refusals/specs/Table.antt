-- Document 01, "Numbers given for a refusal", and document 02's refusals: the one table of numbers. Every promise goes through it by number.
--
--   Beside          : what is returned with a refusal: nothing, a row, the nodes, a line, a spot (a line and a column), or an index
--   Entry, entry r  : a row of the table: the number of the refusal r, and what is returned with it
--   number_of r      : its number
--   accepted        : 0, the number of an answer that is no refusal
--   Told            : an answer in the table's numbers: its number, and each number that can be returned with one, 0 where it is not named
--   told_at r x c   : the refusal r, with x where the table says that a number is returned with it, and x and the column c where it is a spot
--   told r x        : the same of a refusal that has no column
--   fine            : accepted, with none of these
--   If b P Q        : P where b is true, else Q; so a promise says "where the number is that of MANY, this; where it is that of STRAY, .."
--
-- `number_unique` of proofs/TableLaws.antt: no two refusals have one number, and none has the number 0. Assumes nothing.
use Rattle.std.specs.Prelude.{Bool, true, false, ℕ}
use Rattle.refusals.specs.declared.Refusal.{Refusal}
use Rattle.refusals.specs.declared.Refusal.TheVariants.{Many, Stray, Itself, OneSided, Short, Budget, Line, Headless, Second, Size, Vertex, Loop, Count, Room, Long, Full, Repeat, Digit, Space, Unended, SheetLine, Member, Order, Twice, Clash, Ends, Missing, Extra, Colours}

pub data Beside : Type 0 where
  nothing : Beside
  a_row : Beside
  the_nodes : Beside
  a_line : Beside
  a_spot : Beside
  an_index : Beside

pub record Entry : Type 0 where
  pub number : ℕ
  pub beside : Beside

abbrev pub row : ℕ → Beside → Entry
row n b = record { number = n; beside = b }

-- no., name, also returned
abbrev pub entry : Refusal → Entry
entry Many = row 1 nothing
entry Stray = row 2 a_row
entry Itself = row 3 a_row
entry OneSided = row 4 a_row
entry Short = row 5 nothing
entry Budget = row 6 the_nodes
entry Line = row 10 a_spot
entry Headless = row 11 a_line
entry Second = row 12 a_line
entry Size = row 13 a_line
entry Vertex = row 14 a_line
entry Loop = row 15 a_line
entry Count = row 16 a_line
entry Room = row 17 a_line
entry Long = row 18 nothing
entry Full = row 19 nothing
entry Repeat = row 20 a_line
entry Digit = row 21 a_spot
entry Space = row 22 a_spot
entry Unended = row 23 a_spot
entry SheetLine = row 30 a_line
entry Member = row 31 a_line
entry Order = row 32 a_line
entry Twice = row 33 a_line
entry Clash = row 34 a_line
entry Ends = row 35 a_line
entry Missing = row 36 a_line
entry Extra = row 37 a_line
entry Colours = row 38 an_index

abbrev pub number_of : Refusal → ℕ
number_of r = (entry r).number

abbrev pub accepted : ℕ
accepted = 0

-- ---- answers in the table's numbers

pub record Told : Type 0 where
  pub number : ℕ
  pub row : ℕ
  pub nodes : ℕ
  pub line : ℕ
  pub column : ℕ
  pub index : ℕ

-- "every result number not named is 0"
abbrev pub with : ℕ → Beside → ℕ → ℕ → Told
with n nothing x c = record { number = n; row = 0; nodes = 0; line = 0; column = 0; index = 0 }
with n a_row x c = record { number = n; row = x; nodes = 0; line = 0; column = 0; index = 0 }
with n the_nodes x c = record { number = n; row = 0; nodes = x; line = 0; column = 0; index = 0 }
with n a_line x c = record { number = n; row = 0; nodes = 0; line = x; column = 0; index = 0 }
with n a_spot x c = record { number = n; row = 0; nodes = 0; line = x; column = c; index = 0 }
with n an_index x c = record { number = n; row = 0; nodes = 0; line = 0; column = 0; index = x }

abbrev pub told_at : Refusal → ℕ → ℕ → Told
told_at r x c = with (entry r).number (entry r).beside x c

abbrev pub told : Refusal → ℕ → Told
told r x = told_at r x 0

abbrev pub fine : Told
fine = with accepted nothing 0 0

-- ---- promises by number

abbrev pub If : Bool → Type 0 → Type 0 → Type 0
If true P Q = P
If false P Q = Q
