-- All that the crates above may use of the two bounds: neither exceeds the cardinality of any colouring of its graph, nor the chromatic number of
-- its list; the clique bound is at most the Mycielskian, and that at most the number of vertices; in a complete graph both are that number. The
-- clique's members are live and adjacent to one another, and as many as its bound says. Assumes nothing.
use mathlib.Core.Path.{◌≡◌, sym, ap, ◌∙◌, subst}
use mathlib.Core.Logic.{◌⊎◌, inl, inr, ◌≢◌}
use mathlib.Core.Bool.{Bool}
use mathlib.Core.List.{List, [], map}
use mathlib.Core.Option.{none}
use Prim.Native.Nat.{ℕ, ◌≤◌}
use native.Mathlib.Nat.{le_refl, le_trans, le_of_eq, le_antisymm, not-suc-le-zero}
use lib.Dec.{T}
use lib.IntN.{ℤ, ℤ_discrete}
use lib.ListN.{length}
use Rattle.sets.specs.Lists.{In, table, members}
use Rattle.sets.specs.Set.{has, size}
use Rattle.sets.proofs.ListLaws.{no_dup_le, map-In, In-table}
use Rattle.sets.proofs.MemberLaws.{In-members}
use Rattle.sets.proofs.SetLaws.{no_members}
use Rattle.clashes.specs.Labels.{distinct}
use Rattle.clashes.specs.Colouring.{Chromatic, Lower}
use Rattle.clashes.specs.Divisions.{groups}
use Rattle.clashes.specs.Matrix.{Valid}
use Rattle.clashes.proofs.NumberLaws.{distinct_new, distinct_cases, distinct_no_dup}
use Rattle.graphs.specs.Graph.{Graph, live, vertices, pair, complete, grouping, graph}
use Rattle.graphs.specs.Good.{Live, Good}
use Rattle.graphs.proofs.GraphLaws.{pair_full, complete_none}
use Rattle.graphs.proofs.SplitLaws.{graph_clash, good_graph}
use Rattle.graphs.proofs.GroupingLaws.{grouping_groups}
use Rattle.cliques.specs.Clique.{clique, set_of}
use Rattle.cliques.proofs.ListLaws.{in_of}
use Rattle.cliques.proofs.WordLaws.{set_of_is, size_length}
use Rattle.cliques.proofs.CliqueLaws as cliques
use Rattle.mycielski.proofs.RoundLaws as rounds
use Rattle.bounds.specs.Names.{clique_set, clique_bound_lem, mycielskian, clique_set_is, clique_is, mycielskian_is}
use Rattle.bounds.specs.Lent.{AllClash}

module _ (n : ℕ) (g : Graph) (k : Good n g) where
  -- ---- lower bounds of every colouring

  pub clique_lower : Lower n (live n g) g.adj (clique_bound_lem n g)
  clique_lower = subst (Lower n (live n g) g.adj) (sym (clique_is n g)) (rounds.clique_lower n g k)

  pub mycielskian_lower : Lower n (live n g) g.adj (mycielskian n g)
  mycielskian_lower = subst (Lower n (live n g) g.adj) (sym (mycielskian_is n g)) (rounds.mycielskian_lower n g k)

  -- ---- the clique's members

  member_in : (x : ℕ) → T (has (clique_set n g) x) → In x (clique n g)
  member_in x t = in_of x (clique n g) (subst T (ap (λ s. has s x) (clique_set_is n g) ∙ set_of_is (clique n g) x) t)

  pub clique_live : (x : ℕ) → T (has (clique_set n g) x) → Live n g x
  clique_live x t = (cliques.clique_is n g k).lives x (member_in x t)

  pub clique_adjacent : (x y : ℕ) → T (has (clique_set n g) x) → T (has (clique_set n g) y) → x ≢ y → T (g.adj x y)
  clique_adjacent x y s t d = (cliques.clique_is n g k).pairs x y (member_in x s) (member_in y t) d

  pub clique_size : (cap : ℕ) → n ≤ cap → size cap (clique_set n g) ≡ clique_bound_lem n g
  clique_size cap few =
      ap (size cap) (clique_set_is n g)
      ∙ size_length cap n g (clique n g) (set_of (clique n g)) few (cliques.clique_is n g k) (set_of_is (clique n g)) ∙ sym (clique_is n g)

  -- ---- between the clique and the vertices

  pub clique_mycielskian : clique_bound_lem n g ≤ mycielskian n g
  clique_mycielskian = le_trans (le_of_eq (clique_is n g)) (le_trans (rounds.clique_le n g k) (le_of_eq (sym (mycielskian_is n g))))

  pub mycielskian_vertices : mycielskian n g ≤ length (vertices n g)
  mycielskian_vertices = le_trans (le_of_eq (mycielskian_is n g)) (rounds.mycielskian_vertices n g k)

  -- ---- tight in a complete graph

  module _ (e : pair n g ≡ none) where
    clique_all : length (vertices n g) ≤ clique_bound_lem n g
    clique_all = le_trans (cliques.clique_full n g k (pair_full n g k e)) (le_of_eq (sym (clique_is n g)))

    -- no fewer than the groups
    pub mycielskian_tight : groups 0 (grouping n g) ≤ mycielskian n g
    mycielskian_tight = le_trans (le_of_eq (grouping_groups n g k)) (le_trans clique_all clique_mycielskian)

  pub clique_complete : T (complete n g) → clique_bound_lem n g ≡ length (vertices n g)
  clique_complete t = le_antisymm (le_trans clique_mycielskian mycielskian_vertices) (clique_all (complete_none n g t))

  pub mycielskian_complete : T (complete n g) → mycielskian n g ≡ length (vertices n g)
  mycielskian_complete t = le_antisymm mycielskian_vertices (le_trans (clique_all (complete_none n g t)) clique_mycielskian)

-- ---- of a list: entries that all clash with one another

module _ (n : ℕ) (clash : ℕ → ℕ → Bool) (v : Valid n clash) where
  pub clique_clash : AllClash n clash (clique_set n (graph n clash))
  clique_clash = record {
    entries = λ x t. (clique_live n (graph n clash) (good_graph n clash v) x t).below;
    clashing = λ x y s t d. (graph_clash n clash x y (clique_adjacent n (graph n clash) (good_graph n clash v) x y s t d)).2;
  }

  -- as many as the bound says
  pub clique_many : size n (clique_set n (graph n clash)) ≡ clique_bound_lem n (graph n clash)
  clique_many = clique_size n (graph n clash) (good_graph n clash v) n (le_refl n)

-- no entries, no members
pub no_entries : (clash : ℕ → ℕ → Bool) (c : ℕ) → AllClash 0 clash c → c ≡ 0
no_entries clash c a = no_members c (λ x t. not-suc-le-zero (a.entries x t))

-- ---- at most the chromatic number of the list

module _ (n : ℕ) (clash : ℕ → ℕ → Bool) (v : Valid n clash) (k : ℕ) (c : Chromatic n clash k) where
  -- what no colouring of the list's graph goes below
  lower_chromatic : (b : ℕ) → Lower n (live n (graph n clash)) (graph n clash).adj b → b ≤ k
  lower_chromatic b l =
      le_trans (l c.colouring (λ x y p q t. c.proper x y p q (graph_clash n clash x y t).2))
      (le_trans (no_dup_le (distinct ℤ_discrete [] (map c.colouring vs)) (distinct ℤ_discrete [] (table c.colouring n))
      (distinct_no_dup ℤ_discrete [] (map c.colouring vs) tt) sub)
      (le_of_eq c.size))
    where
      vs : List ℕ
      vs = members (live n (graph n clash)) n

      sub : (x : ℤ) → In x (distinct ℤ_discrete [] (map c.colouring vs)) → In x (distinct ℤ_discrete [] (table c.colouring n))
      sub x i = go (distinct_cases ℤ_discrete [] (map c.colouring vs) x i)
        where
          go : In x [] ⊎ In x (map c.colouring vs) → In x (distinct ℤ_discrete [] (table c.colouring n))
          go (inl j) = absurd j
          go (inr j) =
              let t = map-In c.colouring vs x j in
              distinct_new ℤ_discrete [] (table c.colouring n) x
              (subst (λ z. In z (table c.colouring n)) (sym t.2) (In-table c.colouring n t.0 (In-members (live n (graph n clash)) n t.0 t.1).0))

  pub clique_chromatic : clique_bound_lem n (graph n clash) ≤ k
  clique_chromatic = lower_chromatic (clique_bound_lem n (graph n clash)) (clique_lower n (graph n clash) (good_graph n clash v))

  -- what the clique's set shows: entries that all clash with one another, no more of them than the chromatic number
  pub clique_shows : (c : ℕ) → c ≡ clique_set n (graph n clash) → AllClash n clash c × (size n c ≤ k)
  clique_shows c e = (
    subst (AllClash n clash) (sym e) (clique_clash n clash v),
    le_trans (le_of_eq (ap (size n) e ∙ clique_many n clash v)) clique_chromatic,
  )

  pub mycielskian_chromatic : mycielskian n (graph n clash) ≤ k
  mycielskian_chromatic = lower_chromatic (mycielskian n (graph n clash)) (mycielskian_lower n (graph n clash) (good_graph n clash v))
