-- What the functions of this crate promise of a node, through its view, and what the inner ones promise of its parts.
--
--   RootAt cap rows r    : r is the node of the list of these rows; IsRoot: at 64
--   PairAt cap h u v     : u and v may be merged or separated in h
--   BecomesAt cap h r g  : r is a node of as many entries as h, and holds g
--   Linked rows u s r    : r are as many rows, these, with u in each row of s
--   Renamed names u v r  : r are as many names, these, with u for v
--   MergedAt cap live rows u v r : of every node with these live vertices and rows, r are the rows once v is merged into u
--   SeparatedAt cap rows u v r   : of every node with these rows, r are the rows once u and v are adjacent
--   shared_at cap rows near v : how many members of near, below cap, are in the row of v; shared: at 64
--   lead f u l v         : the pair u, v, where f v is more than what leads so far, else what leads
--   Mutual rows near apart : of a member of near and one of apart each is in the other's row, or neither
--   Hopeful c need left r : r is a part of left, and who is left out has a count in c below what is needed
--
-- `cap` is how many entries there may be, and the number of rows and names that hold them; 64 where a row is one word.
--
-- Assumes nothing.
use Rattle.std.specs.Prelude.{◌≡◌, ◌&&◌, ◌||◌, cond, List, ℕ, zero, suc, ◌<◌, T, eqb, ltb, length, get_or}
use Rattle.sets.specs.Lists.{count, upto}
use Rattle.sets.specs.Set.{has, IsWithout}
use Rattle.counts.specs.Counts.{value}
use Rattle.counts.specs.declared.Counts.{Counts}
use Rattle.clashes.specs.Matrix.{matrix}
use Rattle.graphs.specs.Graph.{Graph, to, graph, merge, separate}
use Rattle.graphs.specs.Good.{Chosen}
use Rattle.graphs.specs.Held.{HeldAt, view, node, holding}
use Rattle.graphs.specs.declared.Node.{Node}
use Rattle.graphs.specs.declared.Lead.{Lead}

pub record RootAt (cap : ℕ) (rows : List ℕ) (r : Node) : Type 0 where
  pub held : HeldAt cap r
  pub same : r.n ≡ length rows
  pub is : view r ≡ graph (length rows) (matrix rows)

abbrev pub IsRoot : List ℕ → Node → Type 0
IsRoot rows r = RootAt 64 rows r

pub record PairAt (cap : ℕ) (h : Node) (u v : ℕ) : Type 0 where
  pub held : HeldAt cap h
  pub chosen : Chosen h.n (view h) u v

pub record BecomesAt (cap : ℕ) (h r : Node) (g : Graph) : Type 0 where
  pub held : HeldAt cap r
  pub same : r.n ≡ h.n
  pub is : view r ≡ g

pub record Linked (rows : List ℕ) (u s : ℕ) (r : List ℕ) : Type 0 where
  pub long : length r ≡ length rows
  pub is : (x y : ℕ) → has (get_or r x zero) y ≡ (has (get_or rows x zero) y || (has s x && eqb u y))

pub record Renamed (names : List ℕ) (u v : ℕ) (r : List ℕ) : Type 0 where
  pub long : length r ≡ length names
  pub is : (i : ℕ) → get_or r i zero ≡ to u v (get_or names i zero)

abbrev pub MergedAt : ℕ → ℕ → List ℕ → ℕ → ℕ → List ℕ → Type 0
MergedAt cap live rows u v r =
    (m : Node) (left : ℕ) (names : List ℕ) → PairAt cap (holding live rows m) u v → IsWithout live v left → Renamed m.names u v names
    → BecomesAt cap (holding live rows m) (node m.n left r names) (merge u v (view (holding live rows m)))

abbrev pub SeparatedAt : ℕ → List ℕ → ℕ → ℕ → List ℕ → Type 0
SeparatedAt cap rows u v r =
    (m : Node) → PairAt cap (holding m.live rows m) u v
    → BecomesAt cap (holding m.live rows m) (holding m.live r m) (separate u v (view (holding m.live rows m)))

abbrev pub shared_at : ℕ → List ℕ → ℕ → ℕ → ℕ
shared_at cap rows near v = count (λ w. has near w && has (get_or rows v zero) w) (upto cap)

abbrev pub shared : List ℕ → ℕ → ℕ → ℕ
shared rows near v = shared_at 64 rows near v

abbrev pub lead : (ℕ → ℕ) → ℕ → Lead → ℕ → Lead
lead f u l v = cond (ltb l.size (suc (f v))) (record { size = suc (f v); u = u; v = v }) l

abbrev pub Mutual : List ℕ → ℕ → ℕ → Type 0
Mutual rows near apart = (w v : ℕ) → T (has near w) → T (has apart v) → has (get_or rows w zero) v ≡ has (get_or rows v zero) w

pub record Hopeful (c : Counts) (need left r : ℕ) : Type 0 where
  pub within : (v : ℕ) → T (has r v) → T (has left v)
  pub out : (v : ℕ) → T (has left v) → ¬ T (has r v) → value c v < need
