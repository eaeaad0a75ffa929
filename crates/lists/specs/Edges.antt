-- The edges of a list, each once, smaller end first, by first and then second end; and the same row by row, as they are gone through.
--
--   edge_at rows e      : e's first end is the smaller one, and its ends clash
--   edges rows         : the edges, among all pairs of entries
--   row_edges row i j k : those of entry i, whose row is given, to the k entries from j on
--   edges_from n rows i : those of the entries from i on, whose rows are given, to later ones, of n
--
-- `edges_are` of proofs/EdgeLaws.antt: `edges rows` is `edges_from n rows 0` with n the count of rows. Assumes nothing.
use Rattle.std.specs.Prelude.{ℕ, zero, suc, ◌+◌, ◌-◌, List, [], ◌∷◌, ◌++◌, Bool, ◌&&◌, ltb, length}
use Rattle.sets.specs.Set.{has}
use Rattle.sets.specs.Lists.{put, select, cross}
use Rattle.clashes.specs.Matrix.{matrix}

abbrev pub edge_at : List ℕ → ℕ × ℕ → Bool
edge_at rows e = ltb e.0 e.1 && matrix rows e.0 e.1

unfoldable pub edges : List ℕ → List (ℕ × ℕ)
edges rows = select (edge_at rows) (cross (length rows) (length rows))

abbrev pub row_edges : ℕ → ℕ → ℕ → ℕ → List (ℕ × ℕ)
row_edges row i j zero = []
row_edges row i j (suc k) = put (has row j) (i, j) (row_edges row i (j + 1) k)

abbrev pub edges_from : ℕ → List ℕ → ℕ → List (ℕ × ℕ)
edges_from n [] i = []
edges_from n (row ∷ rows) i = row_edges row i (i + 1) (n - (i + 1)) ++ edges_from n rows (i + 1)
