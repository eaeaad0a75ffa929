use mathlib.Core.Path.{◌≡◌}
use mathlib.Core.List.{List}
use mathlib.Core.Option.{some}
use Rattle.std.specs.Prelude.{Result}
use Prim.Native.Nat.{ℕ, ◌+◌, ◌*◌}
use Rattle.wide.specs.declared.Set.{Set}
use Rattle.graphs.specs.Graph.{pair}
use Rattle.graphs.specs.Held.{view}
use Rattle.zykov.specs.Walk.{bounded}
use Rattle.zykov.specs.Budget.{onward}
use Rattle.bounds.specs.Names.{mycielskian}
use Rattle.steps.specs.Going.{Lent, lending, node_in, state_of, ComesTelling, Left, Enters}
use Rattle.steps.specs.declared.State.{State}
use Rattle.steps.proofs.Splits.{living, open_pairs}
use Rattle.steps.proofs.+enter_split.Given as goal

-- twice the live vertices, and one more where a node is entered
abbrev pub decreases-enter : goal.decreases-enter
decreases-enter l = living (node_in l.words l.n l.live (lending l.rows.now l.names.now l.best.now l.trail.now)) * 2 + 1

abbrev pub decreases-split : goal.decreases-split
decreases-split l = living (node_in l.words l.n l.live (lending l.rows.now l.names.now l.best.now l.trail.now)) * 2

-- from s, what is left of the walk below the node held in l, which is entered already and split at u and v, comes to best and r
abbrev pub Onwards : ℕ → ℕ → Set → Lent → ℕ → ℕ → State → List ℕ → Result State State → Type 0
Onwards words n live l u v s best r =
    ComesTelling n s best r (onward (bounded n mycielskian) s.budget n (view (node_in words n live l)) u v (state_of n l.best s))

-- what holds where a turn begins: what is left of the walk is what was left at first, and what is changed is on the trail
pub record Turn (words n : ℕ) (live : Set) (l₀ : Lent) (at a₀ b₀ : ℕ) (t₀ : State) (l : Lent) (a b : ℕ) (t : State) (more : ℕ) : Type 0 where
  pub enters : Enters words n live l (at + more) t
  pub chosen : pair n (view (node_in words n live l)) ≡ some (a, b)
  pub lives : living (node_in words n live l) ≡ living (node_in words n live l₀)
  pub rest : (best : List ℕ) (r : Result State State) → Onwards words n live l a b t best r → Onwards words n live l₀ a₀ b₀ t₀ best r
  pub left : Left words l₀ at more l

abbrev pub invariant-split-loop-t : goal.invariant-split-loop-t
invariant-split-loop-t l =
    Turn l.words l.n l.live (lending l.initial.rows l.initial.names l.initial.best l.initial.trail) l.at l.initial.a l.initial.b l.initial.t
    (lending l.rows l.names l.best l.trail) l.a l.b l.t l.more

-- the pairs that are open
abbrev pub decreases-split-loop-t : goal.decreases-split-loop-t
decreases-split-loop-t l = open_pairs (node_in l.words l.n l.live (lending l.rows l.names l.best l.trail))
