-- What the walks count: every node that is entered; and the plain walk every node and every complete graph of its tree. Assumes nothing.
use mathlib.Core.Path.{◌≡◌}
use mathlib.Core.Bool.{Bool, true, false}
use Prim.Native.Nat.{ℕ, suc, ◌+◌, ◌<◌}
use native.Mathlib.Omega.{arith}
use Rattle.graphs.specs.Graph.{Graph}
use Rattle.zykov.specs.Tree.{Tree, leaf, fork, leaves, nodes}
use Rattle.zykov.specs.Walk.{State, Rule, enter, size, unless, walk, plain}

-- The rule counts nothing itself.
abbrev pub Counts : Rule → Type 0
Counts R = (g : Graph) (s : State) → (R.found g s).nodes ≡ s.nodes

module _ (R : Rule) (counts : Counts R) where
  pub walk_enters : (t : Tree) (s : State) → s.nodes < (walk R t s).nodes
  unfolding walk
  walk_enters (leaf g) s = go (R.cut g (size s))
    where
      go : (b : Bool) → s.nodes < (unless b (enter s) (R.found g)).nodes
      go true = omega arith
      go false = omega (arith, counts g (enter s))
  walk_enters (fork g l r) s = go (R.cut g (size s)) (walk_enters l (enter s)) (walk_enters r (walk R l (enter s)))
    where
      go : (b : Bool) → suc s.nodes < (walk R l (enter s)).nodes → (walk R l (enter s)).nodes < (walk R r (walk R l (enter s))).nodes
          → s.nodes < (unless b (enter s) (λ t. walk R r (walk R l t))).nodes
      go true a b = omega arith
      go false a b = omega arith

module _ (n : ℕ) where
  pub plain_nodes : (t : Tree) (s : State) → (walk (plain n) t s).nodes ≡ s.nodes + nodes t
  unfolding walk
  plain_nodes (leaf g) s = omega arith
  plain_nodes (fork g l r) s = omega (arith, plain_nodes l (enter s), plain_nodes r (walk (plain n) l (enter s)))

  pub plain_leaves : (t : Tree) (s : State) → (walk (plain n) t s).leaves ≡ s.leaves + leaves t
  unfolding walk
  plain_leaves (leaf g) s = omega arith
  plain_leaves (fork g l r) s = omega (arith, plain_leaves l (enter s), plain_leaves r (walk (plain n) l (enter s)))
