-- What holds of the counts and the sets while a sheet is checked, so that every group number fits its byte.
--
--   Sound p    : each group's first is above the previous group's, so no more groups are opened than the last first member says; for lists of up
--                to `most` entries, `SoundUpTo most p`
--   Within n s : the members of the set s are below n
--
-- Assumes nothing.
use Rattle.std.specs.Prelude.{ℕ, ◌+◌, ◌≤◌, ◌<◌, T}
use Rattle.sets.specs.Lists.{bit}
use Rattle.sets.specs.Set.{has}
use Rattle.lists.specs.Read.{most_entries}
use Rattle.sheets.specs.declared.Progress.{Progress}

pub record SoundUpTo (most : ℕ) (p : Progress) : Type 0 where
  pub rises : p.opened ≤ p.first + bit p.fresh
  pub floored : p.first + bit p.fresh ≤ p.floor + 1
  pub wants : bit p.fresh ≤ p.need
  pub small : p.first ≤ most
  -- members are to come only in a group
  pub inside : 1 ≤ p.need → 1 ≤ p.opened

abbrev pub Sound : Progress → Type 0
Sound p = SoundUpTo most_entries p

abbrev pub Within : ℕ → ℕ → Type 0
Within n s = (j : ℕ) → T (has s j) → j < n
