-- Document 01's nodes as functions, with no bits: a graph of live vertices, each standing for a group of entries and named by its smallest
-- member; merging, separating, completeness, the pair rule, and the groups of a node.
--
--   Graph              : rep: the live vertex that stands for an entry; adj: whether two live vertices are adjacent
--   live n g x         : x is a live vertex: it stands for itself
--   vertices n g       : the live vertices, rising
--   to u v w           : u for v, and w for any other w
--   merge u v g        : v leaves, u has the neighbours of both, neighbours of v become neighbours of u
--   separate u v g     : u and v become adjacent
--   gap n g (u, v)     : u < v are live and not adjacent
--   degree n g x       : how many neighbours x has
--   common n g (u, v)  : how many neighbours u and v have in common
--   pair n g           : of the gaps the one with most common neighbours, then smallest u, then smallest v; none in a complete graph
--   complete n g       : every two live vertices are adjacent
--   missing n g        : how many gaps there are
--   grouping n g       : the groups of g, numbered from 0 by smallest member
--   graph n clash      : the graph of a list: every entry stands for itself
--
-- Assumes nothing.
use Rattle.std.specs.Prelude.{Bool, not, ◌&&◌, ◌||◌, cond, List, ℕ, zero, eqb, ltb}
use Rattle.std.proofs.Math.Option.{Option}
use Rattle.std.proofs.Math.Decide.{ℕ_discrete}
use Rattle.sets.specs.Lists.{count, all, members, select, greatest, upto, cross}
use Rattle.clashes.specs.Divisions.{division}

pub record Graph : Type 0 where
  pub rep : ℕ → ℕ
  pub adj : ℕ → ℕ → Bool

abbrev pub live : ℕ → Graph → ℕ → Bool
live n g x = ltb x n && eqb (g.rep x) x

abbrev pub vertices : ℕ → Graph → List ℕ
vertices n g = members (live n g) n

abbrev pub to : ℕ → ℕ → ℕ → ℕ
to u v w = cond (eqb w v) u w

abbrev pub merge : ℕ → ℕ → Graph → Graph
merge u v g = record {
  rep = λ i. to u v (g.rep i);
  adj = λ x y. not (eqb x v) && (not (eqb y v) && (g.adj x y || (eqb x u && g.adj v y || eqb y u && g.adj x v)));
}

abbrev pub separate : ℕ → ℕ → Graph → Graph
separate u v g = record {
  rep = g.rep;
  adj = λ x y. g.adj x y || (eqb x u && eqb y v || eqb x v && eqb y u);
}

abbrev pub gap : ℕ → Graph → ℕ × ℕ → Bool
gap n g p = ltb p.0 p.1 && (live n g p.0 && (live n g p.1 && not (g.adj p.0 p.1)))

abbrev pub degree : ℕ → Graph → ℕ → ℕ
degree n g x = count (λ w. g.adj x w) (upto n)

abbrev pub common : ℕ → Graph → ℕ × ℕ → ℕ
common n g p = count (λ w. g.adj p.0 w && g.adj p.1 w) (upto n)

abbrev pub pair : ℕ → Graph → Option (ℕ × ℕ)
pair n g = greatest (common n g) (select (gap n g) (cross n n))

abbrev pub complete : ℕ → Graph → Bool
complete n g = all n (λ x. all n (λ y. not (gap n g (x, y))))

abbrev pub missing : ℕ → Graph → ℕ
missing n g = count (gap n g) (cross n n)

abbrev pub grouping : ℕ → Graph → List ℕ
grouping n g = division ℕ_discrete n g.rep

abbrev pub graph : ℕ → (ℕ → ℕ → Bool) → Graph
graph n clash = record { rep = λ i. cond (ltb i n) i zero; adj = λ x y. ltb x n && (ltb y n && clash x y) }
