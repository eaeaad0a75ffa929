-- A walk with a budget stops where it would enter more nodes than that. It is the whole walk where the budget is enough, and refused where it is
-- not: `within_is` of proofs/BudgetLaws.antt.
--
--   afford m s        : a node is entered, unless m have been entered
--   within rule m t s : the walk over t from s that enters no more than m nodes in all; none where it would have to
--   onward rule m n g u v s : what is left of the walk over g's tree where g is entered already and is split at u and v
--   capped m s        : s, unless it has entered more than m nodes
--
-- Assumes nothing.
use Rattle.std.specs.Prelude.{Bool, true, false, cond, ℕ, leb, ltb}
use Rattle.std.proofs.Math.Option.{Option, none, some}
use Rattle.graphs.specs.Graph.{Graph, merge, separate}
use Rattle.zykov.specs.Tree.{Tree, leaf, fork, below}
use Rattle.zykov.specs.Walk.{State, Rule, enter, size}

abbrev pub go_on : Option State → (State → Option State) → Option State
go_on none f = none
go_on (some s) f = f s

abbrev pub afford : ℕ → State → Option State
afford m s = cond (ltb s.nodes m) (some (enter s)) none

abbrev pub unless? : Bool → State → (State → Option State) → Option State
unless? true s f = some s
unless? false s f = f s

unfoldable pub within : Rule → ℕ → Tree → State → Option State
within R m (leaf g) s = go_on (afford m s) (λ t. unless? (R.cut g (size s)) t (λ t. some (R.found g t)))
within R m (fork g l r) s = go_on (afford m s) (λ t. unless? (R.cut g (size s)) t (λ t. go_on (within R m l t) (within R m r)))

abbrev pub onward : Rule → ℕ → ℕ → Graph → ℕ → ℕ → State → Option State
onward R m n g u v s = go_on (within R m (below n (merge u v g)) s) (within R m (below n (separate u v g)))

abbrev pub capped : ℕ → State → Option State
capped m s = cond (leb s.nodes m) (some s) none
