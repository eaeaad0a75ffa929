-- THE DEMANDS, for document 01's two walks over a list of n entries whose clashes are valid. Read this file first; each theorem's words are
-- definitions of the crates' specs/ folders.
--
--   demand 2: the best division of either walk is a clash-free division, numbered by first use, and its number of groups is the chromatic number
--   demand 3: the Zykov tree has P complete graphs and 2 P - 1 nodes, P being the number of clash-free divisions; the plain walk enters them all,
--             the bounded walk no more; and a walk that stops at its budget is the whole walk where the budget is enough, and refused where not
--   and no way down the tree has more than n - 1 levels of merging, none where there is no entry, at any n: no list is too deep for a walk
--
-- Assumes nothing but that the bound is one (`IsBound`), which the crate of the bounds proves of its own.
use mathlib.Core.Path.{◌≡◌, refl}
use mathlib.Core.Bool.{Bool}
use Prim.Native.Nat.{ℕ, suc, ◌*◌, ◌-◌, ◌≤◌}
use native.Mathlib.Omega.{arith}
use lib.Dec.{T}
use Rattle.clashes.specs.Matrix.{Valid}
use Rattle.clashes.specs.Colouring.{Chromatic}
use Rattle.clashes.specs.Divisions.{Division, clash_free, free_divisions}
use Rattle.graphs.specs.Graph.{Graph}
use Rattle.zykov.specs.Tree.{leaves, nodes, levels, zykov}
use Rattle.zykov.specs.Walk.{start, size, bounded, plain, bounded_walk_lem, plain_walk_lem}
use Rattle.zykov.specs.Bound.{IsBound}
use Rattle.zykov.specs.Budget.{within, capped}
use Rattle.zykov.proofs.Leaves as tree
use Rattle.zykov.proofs.Best.{bounded_fit, plain_fit, walk_division, walk_free, walk_chromatic, walk_count}
use Rattle.zykov.proofs.Counts.{plain_nodes, plain_leaves}
use Rattle.zykov.proofs.BudgetLaws.{within_is}

module _ (n : ℕ) (clash : ℕ → ℕ → Bool) (valid : Valid n clash) where
  -- ---- the tree

  pub leaves_are : leaves (zykov n clash) ≡ free_divisions n clash
  leaves_are = tree.leaves_are n clash valid

  pub nodes_are : suc (nodes (zykov n clash)) ≡ 2 * free_divisions n clash
  nodes_are = tree.nodes_are n clash valid

  -- "each merging leaves one vertex fewer, and separations stay on their level"
  pub levels_few : levels (zykov n clash) ≤ n - 1
  levels_few = tree.levels_few n clash valid

  -- ---- the bounded walk, over any bound

  module _ (bound : ℕ → Graph → ℕ) (B : IsBound bound) where
    pub bounded_division : Division n (bounded_walk_lem bound n clash).best
    bounded_division = walk_division n (bounded n bound) (bounded_fit n bound B) clash valid

    pub bounded_free : T (clash_free n clash (bounded_walk_lem bound n clash).best)
    bounded_free = walk_free n (bounded n bound) (bounded_fit n bound B) clash valid

    pub bounded_chromatic : Chromatic n clash (size (bounded_walk_lem bound n clash))
    bounded_chromatic = walk_chromatic n (bounded n bound) (bounded_fit n bound B) clash valid

    pub bounded_count : suc (bounded_walk_lem bound n clash).nodes ≤ 2 * free_divisions n clash
    bounded_count = walk_count n (bounded n bound) (bounded_fit n bound B) clash valid

  -- ---- the plain walk

  pub plain_division : Division n (plain_walk_lem n clash).best
  plain_division = walk_division n (plain n) (plain_fit n) clash valid

  pub plain_free : T (clash_free n clash (plain_walk_lem n clash).best)
  plain_free = walk_free n (plain n) (plain_fit n) clash valid

  pub plain_chromatic : Chromatic n clash (size (plain_walk_lem n clash))
  plain_chromatic = walk_chromatic n (plain n) (plain_fit n) clash valid

  pub plain_count : suc (plain_walk_lem n clash).nodes ≡ 2 * free_divisions n clash
  plain_count = omega (arith, plain_nodes n (zykov n clash) (start n), nodes_are)

  pub plain_complete : (plain_walk_lem n clash).leaves ≡ free_divisions n clash
  plain_complete = omega (arith, plain_leaves n (zykov n clash) (start n), leaves_are)

-- ---- the budget, of any size

module _ (n : ℕ) (clash : ℕ → ℕ → Bool) (budget : ℕ) where
  pub bounded_within : (bound : ℕ → Graph → ℕ) → within (bounded n bound) budget (zykov n clash) (start n) ≡ capped budget (bounded_walk_lem bound n clash)
  bounded_within bound = within_is (bounded n bound) (λ g s. refl) budget (zykov n clash) (start n)

  pub plain_within : within (plain n) budget (zykov n clash) (start n) ≡ capped budget (plain_walk_lem n clash)
  plain_within = within_is (plain n) (λ g s. refl) budget (zykov n clash) (start n)
