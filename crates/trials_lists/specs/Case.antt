-- Where a text of the file lies.
--
--   Within at len c : the text c stands after place `at`, within a file of so many bytes, with at most 70 rows lent
--
-- Assumes nothing.
use Rattle.std.specs.Prelude.{ℕ, ◌<◌, ◌≤◌}
use Rattle.trials_lists.specs.declared.Case.{Case}

abbrev pub Within : ℕ → ℕ → Case → Type 0
Within at len c = (c.room ≤ 70) × (at < c.start) × (c.start ≤ c.end) × (c.end ≤ len)
