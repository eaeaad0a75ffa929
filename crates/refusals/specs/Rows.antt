-- What a lent matrix, and a search of one, is refused by, in the table's names.
--
--   row_of w            : the row at fault, 0 where none is named
--   refusal_of_rows w   : the refusal of the table that is meant where a matrix is not valid
--   refusal_of_search w : the same where a search gives no answer
--
-- Assumes nothing.
use Rattle.std.specs.Prelude.{ℕ}
use Rattle.refusals.specs.declared.Refusal.{Refusal}
use Rattle.refusals.specs.declared.Refusal.TheVariants as refusal
use Rattle.refusals.specs.declared.Invalid.{Invalid}
use Rattle.refusals.specs.declared.Invalid.TheVariants.{Many, Stray, Itself, OneSided}
use Rattle.refusals.specs.declared.Unsolved.{Unsolved}
use Rattle.refusals.specs.declared.Unsolved.TheVariants.{OfRows, Short, Budget}

abbrev pub row_of : Invalid → ℕ
row_of Many = 0
row_of (Stray i) = i
row_of (Itself i) = i
row_of (OneSided i) = i

abbrev pub refusal_of_rows : Invalid → Refusal
refusal_of_rows Many = refusal.Many
refusal_of_rows (Stray i) = refusal.Stray
refusal_of_rows (Itself i) = refusal.Itself
refusal_of_rows (OneSided i) = refusal.OneSided

abbrev pub refusal_of_search : Unsolved → Refusal
refusal_of_search (OfRows w) = refusal_of_rows w
refusal_of_search Short = refusal.Short
refusal_of_search (Budget nodes) = refusal.Budget
