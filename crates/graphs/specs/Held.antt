-- A graph as it is held in words, and its view as a graph.
--
--   view h       : the graph that the node h holds. Rows are read through the live set: bits of vertices that have left do not count
--   HeldAt cap h : h's live set is the set of live vertices, its entries are at most cap, its rows and names are cap, and its graph is a good one
--   choice_of c   : what a choice says: the pair, or none
--   node n live rows names : the node of these parts
--   holding live rows m    : the node m, with these live vertices and rows
--   HoldsAt cap live rows  : some node is held with these live vertices and rows
--   EachAt cap live rows P : P is true of every node that is held with them. So a function that is lent rows alone says what they hold
--   Held, Holds, Each      : the same at 64, where a row is one word
--
-- Assumes nothing.
use Rattle.std.specs.Prelude.{◌≡◌, ◌&&◌, List, ℕ, zero, ◌≤◌, length, get_or, Option, Some, None}
use Rattle.std.proofs.Math.Option.{Option as MathOption, none, some}
use Rattle.sets.specs.Set.{has}
use Rattle.graphs.specs.Graph.{Graph, live}
use Rattle.graphs.specs.Good.{Good}
use Rattle.graphs.specs.declared.Node.{Node}

abbrev pub view : Node → Graph
view h = record {
  rep = λ i. get_or h.names i zero;
  adj = λ x y. has h.live x && (has h.live y && has (get_or h.rows x zero) y);
}

pub record HeldAt (cap : ℕ) (h : Node) : Type 0 where
  pub few : h.n ≤ cap
  pub rows_long : length h.rows ≡ cap
  pub names_long : length h.names ≡ cap
  pub lives : (x : ℕ) → has h.live x ≡ live h.n (view h) x
  pub good : Good h.n (view h)

abbrev pub Held : Node → Type 0
Held h = HeldAt 64 h

abbrev pub choice_of : Option (ℕ × ℕ) → MathOption (ℕ × ℕ)
choice_of None = none
choice_of (Some p) = some p

abbrev pub node : ℕ → ℕ → List ℕ → List ℕ → Node
node n live rows names = record { n = n; live = live; rows = rows; names = names }

abbrev pub holding : ℕ → List ℕ → Node → Node
holding live rows m = node m.n live rows m.names

abbrev pub HoldsAt : ℕ → ℕ → List ℕ → Type 0
HoldsAt cap live rows = (m : Node) × HeldAt cap (holding live rows m)

abbrev pub EachAt : ℕ → ℕ → List ℕ → (Node → Type 0) → Type 0
EachAt cap live rows P = (m : Node) → HeldAt cap (holding live rows m) → P (holding live rows m)

abbrev pub Holds : ℕ → List ℕ → Type 0
Holds live rows = HoldsAt 64 live rows

abbrev pub Each : ℕ → List ℕ → (Node → Type 0) → Type 0
Each live rows P = EachAt 64 live rows P
