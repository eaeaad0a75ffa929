-- The described search's count only grows, and is never above that of the search that never goes back. Assumes nothing.
use mathlib.Core.Path.{◌≡◌, ap}
use mathlib.Core.Bool.{Bool}
use mathlib.Core.List.{List, [], ◌∷◌}
use Prim.Native.Nat.{ℕ, zero, suc, ◌+◌, ◌≤◌, ◌<◌}
use native.Mathlib.Nat.{le_refl}
use native.Mathlib.Decide.{ℕ_discrete}
use native.Mathlib.Omega.{arith}
use Rattle.sets.specs.Lists.{keep, members, over}
use Rattle.sets.proofs.ListLaws.{over_append}
use Rattle.clashes.specs.Divisions.{groups}
use Rattle.placing.specs.Search.{State, enter, size, admits, choices, put, search, nodes_from}
use Rattle.placing.proofs.OverLaws.{over_keeps}
use Rattle.placing.proofs.Steps.{turn, before, search_by}

-- turns that each enter a node or more
over_nodes : (f : State → ℕ → State) → ((s : State) (j : ℕ) → s.nodes < (f s j).nodes) → (l : List ℕ) (s : State) → s.nodes ≤ (over f s l).nodes
over_nodes f h l s = over_keeps f (λ t. s.nodes ≤ t.nodes) l s (λ t j i b. omega (arith, h t j)) (le_refl s.nodes)

module _ (clash : ℕ → ℕ → Bool) where
  -- a search enters a node or more
  pub search_enters : (left : ℕ) (c : List ℕ) (s : State) → s.nodes < (search clash left c s).nodes
  search_enters = search_by clash (λ left c s t. s.nodes < t.nodes) (λ left c s h. omega arith) (λ c s h. omega arith) on
    where
      on : (left : ℕ) (c : List ℕ) (s : State) → groups 0 c < size s → ((t : State) (j : ℕ) → t.nodes < (turn clash left c t j).nodes)
          → s.nodes < (over (turn clash left c) (enter s) (choices clash c)).nodes
      on left c s h r = omega (arith, over_nodes (turn clash left c) r (choices clash c) (enter s))

  -- so do the turns before a later group
  pub before_grows : (left : ℕ) (c : List ℕ) (s : State) (j k : ℕ) → j ≤ k → (before clash left c s j).nodes ≤ (before clash left c s k).nodes
  before_grows left c s j zero h = rw (let e : j ≡ 0 = omega arith in e) (omega arith)
  before_grows left c s j (suc k) h = go (ℕ_discrete j (suc k)) (before_grows left c s j k)
    where
      last : (before clash left c s k).nodes ≤ (before clash left c s (suc k)).nodes
      last =
          omega (
            arith,
            ap (λ (t : State). t.nodes) (over_append (turn clash left c) s (members (admits clash c) k) (keep (admits clash c k) k)),
            over_nodes (turn clash left c) (λ t i. search_enters left (put c i) t) (keep (admits clash c k) k) (before clash left c s k),
          )

      go : Dec (j ≡ suc k) → (j ≤ k → (before clash left c s j).nodes ≤ (before clash left c s k).nodes)
          → (before clash left c s j).nodes ≤ (before clash left c s (suc k)).nodes
      go (yes e) r = rw e (omega arith)
      go (no q) r = omega (arith, r (omega arith), last)

  -- ---- going back only saves nodes

  counts_some : (left : ℕ) (c : List ℕ) → 1 ≤ nodes_from clash left c
  unfolding nodes_from
  counts_some zero c = le_refl 1
  counts_some (suc left) c = over_keeps (λ k j. k + nodes_from clash left (put c j)) (λ k. 1 ≤ k) (choices clash c) 1 (λ k j i b. omega arith) (le_refl 1)

  -- turns that each enter no more nodes than w says
  over_most : (f : State → ℕ → State) (w : ℕ → ℕ) → ((t : State) (j : ℕ) → (f t j).nodes ≤ t.nodes + w j) → (l : List ℕ) (s t : State) (k : ℕ)
      → t.nodes ≤ s.nodes + k → (over f t l).nodes ≤ s.nodes + over (λ k j. k + w j) k l
  over_most f w h [] s t k b = b
  over_most f w h (j ∷ l) s t k b = over_most f w h l s (f t j) (k + w j) (omega (arith, h t j))

  pub search_most : (left : ℕ) (c : List ℕ) (s : State) → (search clash left c s).nodes ≤ s.nodes + nodes_from clash left c
  unfolding nodes_from
  search_most =
      search_by clash (λ left c s t. t.nodes ≤ s.nodes + nodes_from clash left c) (λ left c s h. omega (arith, counts_some left c)) full on
    where
      full : (c : List ℕ) (s : State) → groups 0 c < size s → suc s.nodes ≤ s.nodes + nodes_from clash zero c
      full c s h = omega (arith, counts_some zero c)

      on : (left : ℕ) (c : List ℕ) (s : State) → groups 0 c < size s
          → ((t : State) (j : ℕ) → (turn clash left c t j).nodes ≤ t.nodes + nodes_from clash left (put c j))
          → (over (turn clash left c) (enter s) (choices clash c)).nodes ≤ s.nodes + nodes_from clash (suc left) c
      on left c s h r = over_most (turn clash left c) (λ j. nodes_from clash left (put c j)) r (choices clash c) s (enter s) 1 (omega arith)
