-- Where a pair of the file lies.
--
--   Within at len c : the list and the sheet of the pair c stand after place `at`, within a file of so many bytes, with at most 70 colour bytes lent
--
-- Assumes nothing.
use Rattle.std.specs.Prelude.{ℕ, ◌<◌, ◌≤◌}
use Rattle.trials_sheets.specs.declared.Case.{Case}

abbrev pub Within : ℕ → ℕ → Case → Type 0
Within at len c = (c.room ≤ 70) × (at < c.start) × (c.start ≤ c.middle) × (c.middle ≤ c.end) × (c.end ≤ len)
