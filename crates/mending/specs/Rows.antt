-- A list's rows, as the code holds them.
--
--   RowsOf n rows : these are rows of a list of n entries: there are enough, and no entry clashes with what is none
--
-- Of up to `cap` entries (`RowsAt cap`); today's are of 64. Assumes nothing.
use Rattle.std.specs.Prelude.{ℕ, ◌≤◌, ◌<◌, List, T, length}
use Rattle.clashes.specs.Matrix.{matrix}

pub record RowsAt (cap n : ℕ) (rows : List ℕ) : Type 0 where
  pub few : n ≤ cap
  pub long : n ≤ length rows
  pub straight : (i j : ℕ) → T (matrix rows i j) → j < n

abbrev pub RowsOf : ℕ → List ℕ → Type 0
RowsOf n rows = RowsAt 64 n rows
