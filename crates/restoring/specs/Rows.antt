-- The shrunk list's rows on words: what the functions promise that make them.
--
--   names cap s        : the members of s, rising
--   Placed cap s r     : r has the place of each member of s
--   Packed cap row s r : r has the places of those members of s that are in row
--   Small cap rows s r : r has, from 0 on, the rows of the list of the members of s, each numbered by its place
--
-- `cap` is how many entries there may be. Assumes nothing.
use Rattle.std.specs.Prelude.{◌≡◌, ◌&&◌, List, ℕ, ◌<◌, T, ltb, length}
use Rattle.std.proofs.Math.Decide.{ℕ_discrete}
use Rattle.sets.specs.Lists.{members}
use Rattle.sets.specs.Set.{has, size}
use Rattle.clashes.specs.Labels.{place}
use Rattle.clashes.specs.Matrix.{matrix}
use Rattle.clashes.specs.Divisions.{at}
use Rattle.shrink.specs.Rules.{among}

abbrev pub names : ℕ → ℕ → List ℕ
names cap s = members (has s) cap

abbrev pub Placed : ℕ → ℕ → List ℕ → Type 0
Placed cap s r = (w : ℕ) → w < cap → T (has s w) → at r w ≡ place ℕ_discrete w (names cap s)

abbrev pub Packed : ℕ → ℕ → ℕ → ℕ → Type 0
Packed cap row s r = (j : ℕ) → has r j ≡ (ltb j (size cap s) && has row (at (names cap s) j))

pub record Small (cap : ℕ) (rows : List ℕ) (s : ℕ) (r : List ℕ) : Type 0 where
  pub long : length r ≡ cap
  pub is : (i j : ℕ) → i < size cap s → matrix r i j ≡ (ltb j (size cap s) && among (names cap s) (matrix rows) i j)
