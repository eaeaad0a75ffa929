-- Names as a forest: each entry points to the one that it was merged into, an entry that stands for itself to itself. To merge v into u is to write u at
-- v, to undo it is to write v there.
--
--   chase p k i : where k steps from i lead
--   Forest p    : none of the names p is greater than its entry
--   called p    : the roots that the entries lead to
--   Coloured n p old new : the first n of old become the groups of the roots of p, numbered from 0 by smallest member; the others stay
--
-- Assumes nothing.
use Rattle.std.specs.Prelude.{◌≡◌, List, ℕ, zero, suc, ◌≤◌, length, get_or, take, drop}
use Rattle.sets.specs.Lists.{table}
use Rattle.graphs.specs.Graph.{grouping}
use Rattle.graphs.specs.Held.{view, node}

unfoldable pub chase : List ℕ → ℕ → ℕ → ℕ
chase p zero i = i
chase p (suc k) i = chase p k (get_or p i zero)

pub record Forest (p : List ℕ) : Type 0 where
  pub falls : (i : ℕ) → get_or p i zero ≤ i

unfoldable pub called : List ℕ → List ℕ
called p = table (chase p (length p)) (length p)

pub record Coloured (n : ℕ) (p old new : List ℕ) : Type 0 where
  pub long : length new ≡ length old
  pub is : (live : ℕ) (rows : List ℕ) → take n new ≡ grouping n (view (node n live rows (called p)))
  pub rest : drop n new ≡ drop n old
