-- Document 01's section "The walk", sentence by sentence.
--
--   State              : the best division so far, the number of nodes entered, and the number of complete graphs that the plain walk met
--   start n            : before the first node
--   enter s            : a node is entered
--   size s             : the best size
--   Rule               : from which nodes a walk goes back at once, and what it does with a complete graph
--   walk rule t s      : the walk over the tree t, from s
--   become, compare    : what the bounded, and what the plain walk does with a complete graph
--   bounded n bound    : the rule of the bounded walk, over any bound
--   plain n            : the rule of the plain walk
--   bounded_walk_lem bound n clash, plain_walk_lem n clash : the two walks over a list
--
-- The bound is a parameter: the walk cannot look inside it. Assumes nothing.
use Rattle.std.specs.Prelude.{Bool, true, false, cond, List, ℕ, zero, suc, leb, ltb}
use Rattle.clashes.specs.Divisions.{groups, alone}
use Rattle.graphs.specs.Graph.{Graph, grouping}
use Rattle.zykov.specs.Tree.{Tree, leaf, fork, zykov}

pub record State : Type 0 where
  pub best : List ℕ
  pub nodes : ℕ
  pub leaves : ℕ

-- "The best division starts as every entry alone, n groups."
abbrev pub start : ℕ → State
start n = record { best = alone n; nodes = zero; leaves = zero }

-- "To enter a node adds one to the count."
abbrev pub enter : State → State
enter s = record { best = s.best; nodes = suc s.nodes; leaves = s.leaves }

abbrev pub size : State → ℕ
size s = groups 0 s.best

pub record Rule : Type 0 where
  pub cut : Graph → ℕ → Bool
  pub found : Graph → State → State

-- go back with s, or go on from s
abbrev pub unless : Bool → State → (State → State) → State
unless true s f = s
unless false s f = f s

-- Enter the node. Go back where the rule says so, by the best size. Of a complete graph take what is found. "Otherwise split": "First enter the
-- merged graph", l, "Then enter the graph with u and v adjacent", r.
unfoldable pub walk : Rule → Tree → State → State
walk R (leaf g) s = unless (R.cut g (size s)) (enter s) (R.found g)
walk R (fork g l r) s = unless (R.cut g (size s)) (enter s) (λ t. walk R r (walk R l t))

-- "If the graph is complete, its groups become the best"
abbrev pub become : ℕ → Graph → State → State
become n g s = record { best = grouping n g; nodes = s.nodes; leaves = s.leaves }

-- "If the Mycielskian bound is not below the best size, go back."
abbrev pub bounded : ℕ → (ℕ → Graph → ℕ) → Rule
bounded n bound = record { cut = λ g k. leb k (bound n g); found = become n }

-- "keeps the first smallest division, and also returns its number of complete graphs"
abbrev pub smaller : List ℕ → List ℕ → List ℕ
smaller c best = cond (ltb (groups 0 c) (groups 0 best)) c best

abbrev pub compare : ℕ → Graph → State → State
compare n g s = record { best = smaller (grouping n g) s.best; nodes = s.nodes; leaves = suc s.leaves }

-- "The plain walk has no bounds: it goes back only from complete graphs"
abbrev pub plain : ℕ → Rule
plain n = record { cut = λ g k. false; found = compare n }

abbrev pub bounded_walk_lem : (ℕ → Graph → ℕ) → ℕ → (ℕ → ℕ → Bool) → State
bounded_walk_lem bound n clash = walk (bounded n bound) (zykov n clash) (start n)

abbrev pub plain_walk_lem : ℕ → (ℕ → ℕ → Bool) → State
plain_walk_lem n clash = walk (plain n) (zykov n clash) (start n)
