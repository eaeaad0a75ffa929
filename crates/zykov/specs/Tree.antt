-- The Zykov tree (document 01, "The walk"; Zykov's recurrence of documents 000 and 003): a node that is not complete is split at its pair into
-- the merged graph and the graph with the two adjacent. Complete graphs are its leaves.
--
--   Tree              : a tree of graphs
--   leaves t, nodes t : how many complete graphs, and how many graphs, stand in t
--   levels t          : levels of merging: the most mergings on one way down. Separations stay on their level
--   below n g         : the Zykov tree below the graph g of n entries
--   zykov n clash     : the Zykov tree of a list
--
-- Assumes nothing.
use Rattle.std.specs.Prelude.{Bool, ℕ, zero, suc, ◌+◌, ◌*◌, max}
use Rattle.std.proofs.Math.Option.{Option, none, some}
use Rattle.graphs.specs.Graph.{Graph, merge, separate, pair, graph}

pub data Tree : Type 0 where
  leaf : Graph → Tree
  fork : Graph → Tree → Tree → Tree

abbrev pub leaves : Tree → ℕ
leaves (leaf g) = 1
leaves (fork g l r) = leaves l + leaves r

abbrev pub nodes : Tree → ℕ
nodes (leaf g) = 1
nodes (fork g l r) = suc (nodes l + nodes r)

abbrev pub levels : Tree → ℕ
levels (leaf g) = zero
levels (fork g l r) = max (suc (levels l)) (levels r)

-- g, split at the pair if there is one: the merged graph first, then the one with the pair adjacent
abbrev pub branch : Graph → Option (ℕ × ℕ) → (Graph → Tree) → Tree
branch g none f = leaf g
branch g (some p) f = fork g (f (merge p.0 p.1 g)) (f (separate p.0 p.1 g))

-- down to a depth of k
unfoldable pub grown : ℕ → ℕ → Graph → Tree
grown n zero g = leaf g
grown n (suc k) g = branch g (pair n g) (grown n k)

-- The whole tree: each splitting leaves fewer of the n * n pairs open, so n * n splittings are as deep as it goes (proofs/Grown.antt).
unfoldable pub below : ℕ → Graph → Tree
below n g = grown n (suc (n * n)) g

abbrev pub zykov : ℕ → (ℕ → ℕ → Bool) → Tree
zykov n clash = below n (graph n clash)
