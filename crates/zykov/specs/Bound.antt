-- What the bounded walk asks of a bound, and all that it may rely on.
--
--   IsBound bound : at a good graph no colouring has fewer labels than the bound says, and at a complete one the bound is no less than the number of
--                   its groups
--
-- Assumes nothing.
use Rattle.std.specs.Prelude.{◌≡◌, ℕ, ◌≤◌}
use Rattle.std.proofs.Math.Option.{none}
use Rattle.clashes.specs.Colouring.{Lower}
use Rattle.clashes.specs.Divisions.{groups}
use Rattle.graphs.specs.Graph.{Graph, live, pair, grouping}
use Rattle.graphs.specs.Good.{Good}

pub record IsBound (bound : ℕ → Graph → ℕ) : Type 0 where
  pub lower : (n : ℕ) (g : Graph) → Good n g → Lower n (live n g) g.adj (bound n g)
  pub tight : (n : ℕ) (g : Graph) → Good n g → pair n g ≡ none → groups 0 (grouping n g) ≤ bound n g
