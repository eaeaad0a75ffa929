-- Demand 2, for every walk over the Zykov tree whose rule is fit: its best division is clash-free and has as many groups as the chromatic number
-- says. Its count is at most 2 P - 1. Assumes nothing.
use mathlib.Core.Path.{◌≡◌, refl, sym, ◌∙◌, subst}
use mathlib.Core.Logic.{◌⊎◌, inl, inr}
use mathlib.Core.Bool.{Bool, true, false}
use mathlib.Core.List.{List}
use mathlib.Core.Option.{none, some}
use Prim.Native.Nat.{ℕ, suc, ◌+◌, ◌*◌, ◌≤◌}
use native.Mathlib.Nat.{le_refl, le_trans}
use native.Mathlib.Decide.{ℕ_discrete}
use native.Mathlib.Omega.{arith}
use lib.Dec.{T, leb, ltb, leb→le, nleb→lt, not_T}
use lib.IntN.{pos}
use borrow.Author.Tests.{ltb-true, ltb-false}
use Rattle.clashes.specs.Matrix.{Valid}
use Rattle.clashes.specs.Colouring.{Chromatic}
use Rattle.clashes.specs.Divisions.{at, groups, Division, clash_free, free_divisions}
use Rattle.clashes.proofs.ColouringLaws.{labels_le, un_pos}
use Rattle.clashes.proofs.Meaning.{fewest_chromatic, alone_is, alone_free}
use Rattle.graphs.specs.Graph.{Graph, live, merge, separate, pair, graph, grouping}
use Rattle.graphs.specs.Good.{Good, Chosen}
use Rattle.graphs.proofs.SplitLaws.{good_graph}
use Rattle.graphs.proofs.GroupingLaws.{grouping_division}
use Rattle.zykov.specs.Tree.{Tree, leaf, fork, nodes, below, zykov}
use Rattle.zykov.specs.Walk.{State, Rule, start, enter, size, unless, walk, bounded, plain}
use Rattle.zykov.specs.Bound.{IsBound}
use Rattle.zykov.proofs.Allowed.{Allows, grouping_allowed, grouping_only, allows_merged, merged_allows, allows_separated, separated_allows}
use Rattle.zykov.proofs.Grown.{below_ind}
use Rattle.zykov.proofs.Leaves.{nodes_are, root_allows, allows_root}

module _ (n : ℕ) where
  -- a division of the entries that g allows
  pub record Allowed (g : Graph) (c : List ℕ) : Type 0 where
    pub division : Division n c
    pub ok : Allows n g c

  -- what becomes of a complete graph: the best is as it was or the graph's groups, and is larger than neither
  pub record Found (g : Graph) (s r : State) : Type 0 where
    pub less : size r ≤ size s
    pub from : (r.best ≡ s.best) ⊎ (r.best ≡ grouping n g)
    pub least : size r ≤ groups 0 (grouping n g)
    pub counted : r.nodes ≡ s.nodes

  -- A rule is fit where no division below a node that it goes back from has fewer groups than the best, and it takes what it should of a complete graph.
  pub record Fit (R : Rule) : Type 0 where
    pub sound : (g : Graph) → Good n g → (k : ℕ) → T (R.cut g k) → (c : List ℕ) → Allowed g c → k ≤ groups 0 c
    pub takes : (g : Graph) → Good n g → pair n g ≡ none → (s : State) → ¬ T (R.cut g (size s)) → Found g (enter s) (R.found g (enter s))

  -- what a walk below g over k nodes comes to, from s
  record Result (g : Graph) (k : ℕ) (s r : State) : Type 0 where
    less : size r ≤ size s
    from : (r.best ≡ s.best) ⊎ Allowed g r.best
    least : (c : List ℕ) → Allowed g c → size r ≤ groups 0 c
    counted : r.nodes ≤ s.nodes + k

  module _ (R : Rule) (fit : Fit R) where
    leaf_result : (g : Graph) → Good n g → pair n g ≡ none → (s : State) → Result g 1 s (walk R (leaf g) s)
    unfolding walk
    leaf_result g k e s = go (R.cut g (size s)) (fit.sound g k (size s)) (fit.takes g k e s)
      where
        go : (b : Bool) → (T b → (c : List ℕ) → Allowed g c → size s ≤ groups 0 c) → (¬ T b → Found g (enter s) (R.found g (enter s)))
            → Result g 1 s (unless b (enter s) (R.found g))
        go true f h = record { less = le_refl _; from = inl refl; least = f tt; counted = omega arith }
        go false f h =
            let t = h (λ x. x) in
            record {
              less = t.less;
              from = elim t.from [
                | inl e ↦ inl e
                | inr q ↦ inr (subst (Allowed g) (sym q) (record { division = grouping_division n g; ok = grouping_allowed n g k }))
              ];
              least = λ c a. subst (λ d. size (R.found g (enter s)) ≤ groups 0 d) (sym (grouping_only n g k e c a.division a.ok)) t.least;
              counted = omega (arith, t.counted);
            }

    fork_result : (g : Graph) (u v : ℕ) → Good n g → pair n g ≡ some (u, v) → Chosen n g u v → (l r : Tree)
        → ((s : State) → Result (merge u v g) (nodes l) s (walk R l s)) → ((s : State) → Result (separate u v g) (nodes r) s (walk R r s))
        → (s : State) → Result g (nodes (fork g l r)) s (walk R (fork g l r) s)
    unfolding walk
    fork_result g u v k e p l r a b s = go (R.cut g (size s)) (fit.sound g k (size s)) (a (enter s)) (b (walk R l (enter s)))
      where
        up_m : (c : List ℕ) → Allowed (merge u v g) c → Allowed g c
        up_m c a = record { division = a.division; ok = allows_merged n g u v k p c a.ok }

        up_s : (c : List ℕ) → Allowed (separate u v g) c → Allowed g c
        up_s c a = record { division = a.division; ok = allows_separated n g u v k p c a.ok }

        go : (b : Bool) → (T b → (c : List ℕ) → Allowed g c → size s ≤ groups 0 c)
            → Result (merge u v g) (nodes l) (enter s) (walk R l (enter s))
            → Result (separate u v g) (nodes r) (walk R l (enter s)) (walk R r (walk R l (enter s)))
            → Result g (suc (nodes l + nodes r)) s (unless b (enter s) (λ t. walk R r (walk R l t)))
        go true f x y = record { less = le_refl _; from = inl refl; least = f tt; counted = omega arith }
        go false f x y = record {
          less = le_trans y.less x.less;
          from = elim y.from [ inr a ↦ inr (up_s _ a) | inl q ↦ elim x.from [ inl z ↦ inl (q ∙ z) | inr a ↦ inr (subst (Allowed g) (sym q) (up_m _ a)) ] ];
          least = λ c a. by c a (ℕ_discrete (at c u) (at c v));
          counted = omega (arith, x.counted, y.counted);
        }
          where
            by : (c : List ℕ) → Allowed g c → Dec (at c u ≡ at c v) → size (walk R r (walk R l (enter s))) ≤ groups 0 c
            by c a (yes q) = le_trans y.less (x.least c (record { division = a.division; ok = merged_allows n g u v k p c a.ok q }))
            by c a (no q) = y.least c (record { division = a.division; ok = separated_allows n g u v k p c a.ok q })

    walk_result : (g : Graph) → Good n g → (s : State) → Result g (nodes (below n g)) s (walk R (below n g) s)
    walk_result = below_ind n (λ g t. (s : State) → Result g (nodes t) s (walk R t s)) leaf_result fork_result

    -- ---- from the root

    module _ (clash : ℕ → ℕ → Bool) (valid : Valid n clash) where
      start_allowed : Allowed (graph n clash) (start n).best
      start_allowed = record { division = alone_is n; ok = root_allows n clash (start n).best (alone_free n clash valid.no_self) }

      abbrev last : State
      last = walk R (zykov n clash) (start n)

      walked : Result (graph n clash) (nodes (zykov n clash)) (start n) last
      walked = walk_result (graph n clash) (good_graph n clash valid) (start n)

      last_allowed : Allowed (graph n clash) last.best
      last_allowed = elim walked.from [ inl e ↦ subst (Allowed (graph n clash)) (sym e) start_allowed | inr a ↦ a ]

      pub walk_count : suc last.nodes ≤ 2 * free_divisions n clash
      walk_count = omega (arith, walked.counted, nodes_are n clash valid)

      pub walk_division : Division n last.best
      walk_division = last_allowed.division

      pub walk_free : T (clash_free n clash last.best)
      walk_free = allows_root n clash last.best last_allowed.ok

      pub walk_chromatic : Chromatic n clash (size last)
      walk_chromatic = fewest_chromatic n clash (size last) (record {
        best = last.best;
        division = walk_division;
        free = walk_free;
        many = refl;
        fewest = λ c d t. walked.least c (record { division = d; ok = root_allows n clash c t });
      })

  -- ---- the two rules are fit

  pub bounded_fit : (bound : ℕ → Graph → ℕ) → IsBound bound → Fit (bounded n bound)
  bounded_fit bound B = record {
    sound = λ g k j t c a.
        le_trans (leb→le j (bound n g) t)
        (le_trans (B.lower n g k (λ i. pos (at c i)) (λ x y p q u e. a.ok.apart x y p q u (un_pos e))) (labels_le n (live n g) c a.division.long));
    takes = λ g k e s t. record {
      less = omega (arith, B.tight n g k e, nleb→lt (size s) (bound n g) (not_T (leb (size s) (bound n g)) t));
      from = inr refl;
      least = le_refl _;
      counted = refl;
    };
  }

  pub plain_fit : Fit (plain n)
  plain_fit = record {
    sound = λ g k j t c a. absurd t;
    takes = λ g k e s t. go g s (ltb (groups 0 (grouping n g)) (groups 0 s.best)) refl;
  }
    where
      go : (g : Graph) (s : State) (b : Bool) → ltb (groups 0 (grouping n g)) (size s) ≡ b
          → Found g (enter s) (record { best = mathlib.Core.Bool.cond b (grouping n g) s.best; nodes = suc s.nodes; leaves = suc s.leaves })
      go g s true e = record { less = omega (arith, ltb-true (groups 0 (grouping n g)) (size s) e); from = inr refl; least = le_refl _; counted = refl }
      go g s false e = record { less = le_refl _; from = inl refl; least = ltb-false (groups 0 (grouping n g)) (size s) e; counted = refl }
