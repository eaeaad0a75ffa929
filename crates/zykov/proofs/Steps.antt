-- A walk with a budget, a step at a time: what it comes to at a node, by what stops it there, and at a splitting. What the code of a walk cites.
-- Assumes nothing.
use mathlib.Core.Path.{◌≡◌, refl, ap, ◌∙◌}
use mathlib.Core.Bool.{true, false}
use mathlib.Core.Option.{Option, none, some}
use Prim.Native.Nat.{ℕ, ◌≤◌, ◌<◌}
use borrow.Author.Tests.{lt-ltb, le-ltb}
use Rattle.graphs.specs.Graph.{Graph, merge, separate, pair}
use Rattle.graphs.specs.Good.{Good}
use Rattle.zykov.specs.Tree.{Tree, leaf, fork, below}
use Rattle.zykov.specs.Walk.{State, Rule, enter, size}
use Rattle.zykov.specs.Budget.{within, onward}
use Rattle.zykov.proofs.Grown.{below_leaf, below_fork}

module _ (R : Rule) (m n : ℕ) (g : Graph) (k : Good n g) (s : State) where
  -- what comes of g where it is not entered at all, or the walk goes back from it at once
  at_once : (o : Option (ℕ × ℕ)) → pair n g ≡ o → (P : Tree → Type 0) → P (leaf g) → ((l r : Tree) → P (fork g l r)) → P (below n g)
  at_once none e P a b = rw (below_leaf n g k e) a
  at_once (some w) e P a b = rw (below_fork n g k w.0 w.1 e) (b (below n (merge w.0 w.1 g)) (below n (separate w.0 w.1 g)))

  pub within_stop : m ≤ s.nodes → within R m (below n g) s ≡ none
  unfolding within
  within_stop h =
      at_once (pair n g) refl (λ t. within R m t s ≡ none) (rw (le-ltb s.nodes m h)) (λ l r. rw (le-ltb s.nodes m h))

  module _ (room : s.nodes < m) where
    pub within_cut : R.cut g (size s) ≡ true → within R m (below n g) s ≡ some (enter s)
    unfolding within
    within_cut c =
        at_once (pair n g) refl (λ t. within R m t s ≡ some (enter s)) (rw (lt-ltb s.nodes m room, c)) (λ l r. rw (lt-ltb s.nodes m room, c))

    module _ (on : R.cut g (size s) ≡ false) where
      pub within_leaf : pair n g ≡ none → within R m (below n g) s ≡ some (R.found g (enter s))
      unfolding within
      within_leaf e = ap (λ t. within R m t s) (below_leaf n g k e) ∙ rw (lt-ltb s.nodes m room, on)

      pub within_fork : (u v : ℕ) → pair n g ≡ some (u, v) → within R m (below n g) s ≡ onward R m n g u v (enter s)
      unfolding within
      within_fork u v e = ap (λ t. within R m t s) (below_fork n g k u v e) ∙ rw (lt-ltb s.nodes m room, on)
