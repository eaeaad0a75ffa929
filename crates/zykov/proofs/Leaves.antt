-- Demand 3's numbers: the leaves of the Zykov tree are the clash-free divisions, P in number; its nodes are 2 P - 1; and it has fewer levels of
-- merging than vertices, so at most n - 1. Assumes nothing.
use mathlib.Core.Path.{◌≡◌, refl, sym, ap, ap₂, ◌∙◌}
use mathlib.Core.Logic.{◌⊎◌, inl, inr}
use mathlib.Core.Bool.{Bool}
use mathlib.Core.List.{List, [], ◌∷◌}
use mathlib.Core.Option.{none}
use Prim.Native.Nat.{ℕ, suc, ◌+◌, ◌*◌, ◌-◌, ◌≤◌, max}
use native.Mathlib.Decide.{ℕ_discrete}
use native.Mathlib.Omega.{arith}
use lib.Dec.{T}
use lib.ListN.{length}
use Rattle.sets.specs.Lists.{In, count, upto}
use Rattle.sets.proofs.TestLaws.{bit_split, bit_iff}
use Rattle.sets.proofs.ListLaws.{count_split, count_iff, length_table}
use Rattle.sets.proofs.MemberLaws.{members_count}
use Rattle.clashes.specs.Matrix.{Valid}
use Rattle.clashes.specs.Divisions.{at, divisions, clash_free, free_divisions}
use Rattle.clashes.proofs.DivisionLaws.{divs_one}
use Rattle.clashes.proofs.ColouringLaws.{free_proper, proper_free}
use Rattle.graphs.specs.Graph.{Graph, live, vertices, merge, separate, pair, graph, grouping}
use Rattle.graphs.specs.Good.{Good, Chosen}
use Rattle.graphs.proofs.PairLaws.{count_length}
use Rattle.graphs.proofs.GraphLaws.{live_vertices}
use Rattle.graphs.proofs.SplitLaws.{merge_is, separate_is, merged_live, good_graph, graph_rep, graph_clash, clash_graph}
use Rattle.graphs.proofs.MeasureLaws.{merged_vertices, parted_vertices}
use Rattle.graphs.proofs.GroupingLaws.{grouping_division}
use Rattle.zykov.specs.Tree.{Tree, leaf, fork, leaves, nodes, levels, below, zykov}
use Rattle.zykov.proofs.Allowed.{Allows, allows?, allows_of, of_allows, grouping_allowed, grouping_only, merged_together, separated_apart, allows_merged, merged_allows, allows_separated, separated_allows}
use Rattle.zykov.proofs.Grown.{below_ind}

module _ (n : ℕ) where
  -- ---- leaves

  leaf_count : (g : Graph) → Good n g → pair n g ≡ none → count (allows? n g) (divisions n) ≡ 1
  leaf_count g k e =
      let d = grouping_division n g in
      divs_one n 0 (allows? n g) (grouping n g) d.numbered d.long (of_allows n g (grouping n g) (grouping_allowed n g k))
      (λ c a l t. grouping_only n g k e c (record { numbered = a; long = l }) (allows_of n g c t))

  split_count : (g : Graph) (u v : ℕ) → Good n g → Chosen n g u v
      → count (allows? n g) (divisions n) ≡ count (allows? n (merge u v g)) (divisions n) + count (allows? n (separate u v g)) (divisions n)
  split_count g u v k p =
      count_split (allows? n g) (allows? n (merge u v g)) (allows? n (separate u v g)) (divisions n)
      (λ c. bit_split (allows? n g c) (allows? n (merge u v g) c) (allows? n (separate u v g) c)
      (λ t. of_allows n g c (allows_merged n g u v k p c (allows_of n (merge u v g) c t)))
      (λ t. of_allows n g c (allows_separated n g u v k p c (allows_of n (separate u v g) c t)))
      (λ a b. separated_apart n g u v k p c (allows_of n (separate u v g) c b) (merged_together n g u v k p c (allows_of n (merge u v g) c a)))
      (λ t. by c (allows_of n g c t) (ℕ_discrete (at c u) (at c v))))
    where
      by : (c : List ℕ) → Allows n g c → Dec (at c u ≡ at c v) → T (allows? n (merge u v g) c) ⊎ T (allows? n (separate u v g) c)
      by c a (yes q) = inl (of_allows n (merge u v g) c (merged_allows n g u v k p c a q))
      by c a (no q) = inr (of_allows n (separate u v g) c (separated_allows n g u v k p c a q))

  below_leaves : (g : Graph) → Good n g → leaves (below n g) ≡ count (allows? n g) (divisions n)
  below_leaves =
      below_ind n (λ g t. leaves t ≡ count (allows? n g) (divisions n)) (λ g k e. sym (leaf_count g k e))
      (λ g u v k e p l r a b. ap₂ (λ x y. x + y) a b ∙ sym (split_count g u v k p))

  pub nodes_leaves : (t : Tree) → suc (nodes t) ≡ 2 * leaves t
  nodes_leaves (leaf g) = refl
  nodes_leaves (fork g l r) = omega (arith, nodes_leaves l, nodes_leaves r)

  -- ---- levels

  one_at_least : (x : ℕ) (l : List ℕ) → In x l → 1 ≤ length l
  one_at_least x [] i = absurd i
  one_at_least x (y ∷ l) i = omega arith

  below_levels : (g : Graph) → Good n g → suc (levels (below n g)) ≤ max 1 (length (vertices n g))
  below_levels =
      below_ind n (λ g t. suc (levels t) ≤ max 1 (length (vertices n g))) (λ g k e. omega arith)
      (λ g u v k e p l r a b.
      omega (
        arith,
        merged_vertices n g (merge u v g) u v k p (merge_is n g u v k p),
        parted_vertices n g (separate u v g) u v k p (separate_is n g u v k p),
        one_at_least _ (vertices n (merge u v g)) (live_vertices n (merge u v g) _ (merged_live n g (merge u v g) u v k p (merge_is n g u v k p) u p.live_u)),
      ))

  vertices_le : (g : Graph) → length (vertices n g) ≤ n
  unfolding upto
  vertices_le g = omega (arith, members_count (live n g) n, count_length (live n g) (upto n), length_table (λ i. i) n)

  pub levels_le : (g : Graph) → Good n g → levels (below n g) ≤ n - 1
  levels_le g k = omega (arith, below_levels g k, vertices_le g)

  -- ---- the tree of a list

  module _ (clash : ℕ → ℕ → Bool) where
    pub root_allows : (c : List ℕ) → T (clash_free n clash c) → Allows n (graph n clash) c
    root_allows c t = record {
      together = λ i b. ap (at c) (sym (graph_rep n clash i b));
      apart = λ x y a b u. let r = graph_clash n clash x y u in free_proper n clash c t x y a b r.2;
    }

    pub allows_root : (c : List ℕ) → Allows n (graph n clash) c → T (clash_free n clash c)
    allows_root c a = proper_free n clash c (λ x y i j t. a.apart x y i j (clash_graph n clash x y i j t))

    root_count : count (allows? n (graph n clash)) (divisions n) ≡ free_divisions n clash
    root_count =
        count_iff (allows? n (graph n clash)) (clash_free n clash) (divisions n)
        (λ c. bit_iff (allows? n (graph n clash) c) (clash_free n clash c)
        (λ t. allows_root c (allows_of n (graph n clash) c t)) (λ t. of_allows n (graph n clash) c (root_allows c t)))

    module _ (valid : Valid n clash) where
      pub leaves_are : leaves (zykov n clash) ≡ free_divisions n clash
      leaves_are = below_leaves (graph n clash) (good_graph n clash valid) ∙ root_count

      pub nodes_are : suc (nodes (zykov n clash)) ≡ 2 * free_divisions n clash
      nodes_are = nodes_leaves (zykov n clash) ∙ ap (λ k. 2 * k) leaves_are

      pub levels_few : levels (zykov n clash) ≤ n - 1
      levels_few = levels_le (graph n clash) (good_graph n clash valid)
