-- What the graphs of the walk satisfy, and what merging and separating do to them: all that the theorems about bounds and walks use.
--
--   Live n g x       : x is a live vertex
--   Good n g         : each entry is named by a live vertex, the smallest of its group; no vertex is its own neighbour, neighbours go both
--                      ways, and edges run between live vertices only
--   Chosen n g u v   : u < v are live and not adjacent
--   Merged n g m u v : m is the image of g's groups and edges under `to u v`
--   Parted n g s u v : s is g with an edge between u and v
--
-- Assumes nothing.
use Rattle.std.specs.Prelude.{◌≡◌, ◌⊎◌, ℕ, ◌≤◌, ◌<◌, T}
use Rattle.graphs.specs.Graph.{Graph, to}

pub record Live (n : ℕ) (g : Graph) (x : ℕ) : Type 0 where
  pub below : x < n
  pub self : g.rep x ≡ x

pub record Good (n : ℕ) (g : Graph) : Type 0 where
  pub rep_live : (i : ℕ) → i < n → Live n g (g.rep i)
  pub smallest : (i : ℕ) → i < n → g.rep i ≤ i
  pub no_loop : (x : ℕ) → ¬ T (g.adj x x)
  pub symm : (x y : ℕ) → T (g.adj x y) → T (g.adj y x)
  pub ends : (x y : ℕ) → T (g.adj x y) → Live n g x × Live n g y

pub record Chosen (n : ℕ) (g : Graph) (u v : ℕ) : Type 0 where
  pub live_u : Live n g u
  pub live_v : Live n g v
  pub less : u < v
  pub free : ¬ T (g.adj u v)

pub record Merged (n : ℕ) (g m : Graph) (u v : ℕ) : Type 0 where
  pub reps : (i : ℕ) → i < n → m.rep i ≡ to u v (g.rep i)
  pub fwd : (x y : ℕ) → T (g.adj x y) → T (m.adj (to u v x) (to u v y))
  pub bwd : (x y : ℕ) → T (m.adj x y) → (a b : ℕ) × (to u v a ≡ x) × (to u v b ≡ y) × T (g.adj a b)

pub record Parted (n : ℕ) (g s : Graph) (u v : ℕ) : Type 0 where
  pub reps : (i : ℕ) → i < n → s.rep i ≡ g.rep i
  pub fwd : (x y : ℕ) → T (g.adj x y) → T (s.adj x y)
  pub here : T (s.adj u v)
  pub here' : T (s.adj v u)
  pub bwd : (x y : ℕ) → T (s.adj x y) → T (g.adj x y) ⊎ (((x ≡ u) × (y ≡ v)) ⊎ ((x ≡ v) × (y ≡ u)))
