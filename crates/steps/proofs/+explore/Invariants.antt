use mathlib.Core.Path.{◌≡◌}
use mathlib.Core.List.{List}
use Rattle.std.specs.Prelude.{Result}
use Prim.Native.Nat.{ℕ, ◌+◌}
use Rattle.wide.specs.declared.Set.{Set}
use Rattle.graphs.specs.Held.{view}
use Rattle.zykov.specs.Tree.{below}
use Rattle.zykov.specs.Walk.{plain}
use Rattle.zykov.specs.Budget.{within}
use Rattle.steps.specs.Going.{Lent, lending, node_in, state_of, ComesTelling, Left, Enters}
use Rattle.steps.specs.declared.State.{State}
use Rattle.steps.proofs.Splits.{living, open_pairs}
use Rattle.steps.proofs.+explore.Given as goal

-- the live vertices
abbrev pub decreases-explore : goal.decreases-explore
decreases-explore l = living (node_in l.words l.n l.live (lending l.rows.now l.names.now l.best.now l.trail.now))

-- from s the walk below the node held in l comes to best and r
abbrev pub Below : ℕ → ℕ → Set → Lent → State → List ℕ → Result State State → Type 0
Below words n live l s best r = ComesTelling n s best r (within (plain n) s.budget (below n (view (node_in words n live l))) (state_of n l.best s))

-- what holds where a turn begins: what is left of the walk is what was left at first, and what is changed is on the trail
pub record Turn (words n : ℕ) (live : Set) (l₀ : Lent) (at : ℕ) (t₀ : State) (l : Lent) (t : State) (more : ℕ) : Type 0 where
  pub enters : Enters words n live l (at + more) t
  pub lives : living (node_in words n live l) ≡ living (node_in words n live l₀)
  pub rest : (best : List ℕ) (r : Result State State) → Below words n live l t best r → Below words n live l₀ t₀ best r
  pub left : Left words l₀ at more l

abbrev pub invariant-loop-entered : goal.invariant-loop-entered
invariant-loop-entered l =
    Turn l.words l.n l.live (lending l.initial.rows l.initial.names l.initial.best l.initial.trail) l.at l.initial.t
    (lending l.rows l.names l.best l.trail) l.t l.more

-- the pairs that are open
abbrev pub decreases-loop-entered : goal.decreases-loop-entered
decreases-loop-entered l = open_pairs (node_in l.words l.n l.live (lending l.rows l.names l.best l.trail))
