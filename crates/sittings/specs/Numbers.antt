-- Document 01's numbers of each answer, as the C interface hands them out: the refusal (0: accepted) and what is returned beside it; every number
-- that an answer does not name is 0. Each is read off the one definition of its own crate.
--
--   verdict_numbers : of `validity`
--   bound_numbers  : of the two bounds
--   walk_numbers   : of the two walks; refused_walk_lem : of one that is refused, with this row and nodes
--   read_numbers   : of reading a list
--   written_lem, refused_write_lem : of a writing that was done, with this length, and of one that is refused, with this place
--   list_numbers   : of writing a list
--   sheet_numbers  : of writing a sheet
--   check_numbers  : of checking a sheet
--   mend_numbers   : of mending a sheet
--   part_numbers   : of the place of the line at fault
--   printed_numbers : of writing what slotsheet prints
--
-- Assumes nothing.
use Rattle.std.specs.Prelude.{ℕ, Result, Ok, Err}
use Rattle.refusals.specs.Table.{accepted, number_of, told}
use Rattle.refusals.specs.declared.Refusal.{Refusal}
use Rattle.refusals.specs.declared.Refusal.TheVariants.{Full as full}
use Rattle.refusals.specs.declared.Invalid.{Invalid}
use Rattle.refusals.specs.declared.Unsolved.{Unsolved}
use Rattle.clashes.specs.Matrix.{numbers}
use Rattle.bounds.specs.Lent.{verdict_of, value_of, members_of}
use Rattle.bounds.specs.declared.Bound.{Bound}
use Rattle.walk.specs.Promise as walk
use Rattle.walk.specs.declared.found.Fewest.{Fewest}
use Rattle.lists.specs.Promise as lists
use Rattle.lists.specs.declared.Unread.{Unread}
use Rattle.lists.specs.declared.Unwritten as list
use Rattle.sheet_texts.specs.Promise as texts
use Rattle.sheet_texts.specs.declared.Unwritten as sheet
use Rattle.sheets.specs.Promise as sheets
use Rattle.sheets.specs.declared.Unchecked.{Unchecked}
use Rattle.sheets.specs.declared.Part.{Part}
use Rattle.mends.specs.Promise as mends
use Rattle.mends.specs.declared.Unmended.{Unmended}
use Rattle.answers.specs.declared.Full.{Full}
use Rattle.sittings.specs.declared.numbers.VerdictNumbers.{VerdictNumbers}
use Rattle.sittings.specs.declared.numbers.BoundNumbers.{BoundNumbers}
use Rattle.sittings.specs.declared.numbers.WalkNumbers.{WalkNumbers}
use Rattle.sittings.specs.declared.numbers.ReadNumbers.{ReadNumbers}
use Rattle.sittings.specs.declared.numbers.WriteNumbers.{WriteNumbers}
use Rattle.sittings.specs.declared.numbers.CheckNumbers.{CheckNumbers}
use Rattle.sittings.specs.declared.numbers.MendNumbers.{MendNumbers}
use Rattle.sittings.specs.declared.numbers.PartNumbers.{PartNumbers}

abbrev pub verdict_numbers : Result Unit Invalid → VerdictNumbers
verdict_numbers v = record { refusal = (numbers v).number; row = (numbers v).row }

abbrev pub bound_numbers : Result Bound Invalid → BoundNumbers
bound_numbers b = record { refusal = (numbers (verdict_of b)).number; row = (numbers (verdict_of b)).row; bound = value_of b; members = members_of b }

abbrev pub walk_numbers : Result Fewest Unsolved → WalkNumbers
walk_numbers a = record {
  refusal = (walk.numbers a).number;
  row = (walk.numbers a).row;
  k = (walk.numbers a).k;
  nodes = (walk.numbers a).nodes;
  leaves = (walk.numbers a).leaves;
  clique = (walk.numbers a).clique;
}

abbrev pub refused_walk_lem : Refusal → ℕ → ℕ → WalkNumbers
refused_walk_lem why row nodes = record { refusal = number_of why; row = row; k = 0; nodes = nodes; leaves = 0; clique = 0 }

abbrev pub read_numbers : Result ℕ Unread → ReadNumbers
read_numbers a = record {
  refusal = (lists.read_numbers a).number;
  line = (lists.read_numbers a).place;
  column = (lists.read_numbers a).column;
  entries = (lists.read_numbers a).size;
}

abbrev pub written_lem : ℕ → WriteNumbers
written_lem n = record { refusal = accepted; place = 0; length = n }

abbrev pub refused_write_lem : Refusal → ℕ → WriteNumbers
refused_write_lem why place = record { refusal = number_of why; place = place; length = 0 }

abbrev pub list_numbers : Result ℕ list.Unwritten → WriteNumbers
list_numbers a = record { refusal = (lists.write_numbers a).number; place = (lists.write_numbers a).place; length = (lists.write_numbers a).size }

abbrev pub sheet_numbers : Result ℕ sheet.Unwritten → WriteNumbers
sheet_numbers a = record { refusal = (texts.numbers_of_lem a).number; place = (texts.numbers_of_lem a).index; length = (texts.numbers_of_lem a).length }

abbrev pub check_numbers : Result ℕ Unchecked → CheckNumbers
check_numbers a = record {
  refusal = (sheets.numbers_of_lem a).number;
  line = (sheets.numbers_of_lem a).line;
  column = (sheets.numbers_of_lem a).column;
  groups = (sheets.numbers_of_lem a).groups;
  text = sheets.text_number (sheets.numbers_of_lem a).text;
}

abbrev pub mend_numbers : Result ℕ Unmended → MendNumbers
mend_numbers a = record {
  refusal = (mends.numbers_of_lem a).number;
  line = (mends.numbers_of_lem a).line;
  column = (mends.numbers_of_lem a).column;
  length = (mends.numbers_of_lem a).length;
  text = sheets.text_number (mends.numbers_of_lem a).text;
}

abbrev pub part_numbers : Part → PartNumbers
part_numbers p = record { text = sheets.text_number p.text; start = p.start; length = p.length }

abbrev pub printed_numbers : Result ℕ Full → WriteNumbers
printed_numbers (Ok n) = written_lem n
printed_numbers (Err e) = record { refusal = (told full 0).number; place = 0; length = 0 }
