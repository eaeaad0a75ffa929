-- The Zykov tree is whole: below a complete graph stands nothing but itself, and below any other the trees of its merged and of its separated
-- graph; and what holds of a tree when it holds of the trees below it holds of every Zykov tree. Assumes nothing.
use mathlib.Core.Path.{◌≡◌, refl, ap, ap₂, ◌∙◌}
use mathlib.Core.Option.{Option, none, some}
use Prim.Native.Nat.{ℕ, zero, suc, ◌*◌, ◌<◌}
use native.Mathlib.Nat.{not-suc-le-zero}
use native.Mathlib.Omega.{arith}
use Rattle.graphs.specs.Graph.{Graph, missing, merge, separate, pair}
use Rattle.graphs.specs.Good.{Good, Chosen}
use Rattle.zykov.specs.Tree.{Tree, leaf, fork, branch, grown, below}
use Rattle.graphs.proofs.GraphLaws.{pair_chosen}
use Rattle.graphs.proofs.SplitLaws.{merge_is, separate_is, good_merged, good_parted}
use Rattle.graphs.proofs.MeasureLaws.{missing_le, merged_fewer, parted_fewer}

module _ (n : ℕ) where
  -- the two graphs below a good one that splits are good
  pub good_merge : (g : Graph) (u v : ℕ) → Good n g → Chosen n g u v → Good n (merge u v g)
  good_merge g u v k p = good_merged n g (merge u v g) u v k p (merge_is n g u v k p)

  pub good_separate : (g : Graph) (u v : ℕ) → Good n g → Chosen n g u v → Good n (separate u v g)
  good_separate g u v k p = good_parted n g (separate u v g) u v k p (separate_is n g u v k p)

  pub merge_fewer : (g : Graph) (u v : ℕ) → Good n g → Chosen n g u v → missing n (merge u v g) < missing n g
  merge_fewer g u v k p = merged_fewer n g (merge u v g) u v k p (merge_is n g u v k p)

  pub separate_fewer : (g : Graph) (u v : ℕ) → Good n g → Chosen n g u v → missing n (separate u v g) < missing n g
  separate_fewer g u v k p = parted_fewer n g (separate u v g) u v k p (separate_is n g u v k p)

  -- a complete graph, and a graph that splits
  module _ (P : Graph → Tree → Type 0) (at_leaf : (g : Graph) → Good n g → pair n g ≡ none → P g (leaf g))
      (at_fork : (g : Graph) (u v : ℕ) → Good n g → pair n g ≡ some (u, v) → Chosen n g u v → (l r : Tree) → P (merge u v g) l → P (separate u v g) r → P g (fork g l r)) where
    grown_ind : (i : ℕ) (g : Graph) → Good n g → missing n g < i → P g (grown n i g)
    unfolding grown
    grown_ind zero g k p = absurd (not-suc-le-zero p)
    grown_ind (suc i) g k p = go (pair n g) refl (λ h kh l. grown_ind i h kh (omega arith))
      where
        go : (o : Option (ℕ × ℕ)) → pair n g ≡ o → ((h : Graph) → Good n h → missing n h < missing n g → P h (grown n i h)) → P g (branch g o (grown n i))
        go none e r = at_leaf g k e
        go (some w) e r =
            let c = pair_chosen n g w.0 w.1 k e in
            at_fork g w.0 w.1 k e c (grown n i (merge w.0 w.1 g)) (grown n i (separate w.0 w.1 g))
            (r (merge w.0 w.1 g) (good_merge g w.0 w.1 k c) (merge_fewer g w.0 w.1 k c))
            (r (separate w.0 w.1 g) (good_separate g w.0 w.1 k c) (separate_fewer g w.0 w.1 k c))

    pub below_ind : (g : Graph) → Good n g → P g (below n g)
    unfolding below
    below_ind g k = grown_ind (suc (n * n)) g k (omega (arith, missing_le n g))

  -- any two depths beyond the missing pairs give one tree
  grown_same : (i j : ℕ) (g : Graph) → Good n g → missing n g < i → missing n g < j → grown n i g ≡ grown n j g
  unfolding grown
  grown_same zero j g k p q = absurd (not-suc-le-zero p)
  grown_same (suc i) zero g k p q = absurd (not-suc-le-zero q)
  grown_same (suc i) (suc j) g k p q = go (pair n g) refl (λ h kh l. grown_same i j h kh (omega arith) (omega arith))
    where
      go : (o : Option (ℕ × ℕ)) → pair n g ≡ o → ((h : Graph) → Good n h → missing n h < missing n g → grown n i h ≡ grown n j h)
          → branch g o (grown n i) ≡ branch g o (grown n j)
      go none e r = refl
      go (some w) e r =
          let c = pair_chosen n g w.0 w.1 k e in
          ap₂ (fork g)
          (r (merge w.0 w.1 g) (good_merge g w.0 w.1 k c) (merge_fewer g w.0 w.1 k c))
          (r (separate w.0 w.1 g) (good_separate g w.0 w.1 k c) (separate_fewer g w.0 w.1 k c))

  module _ (g : Graph) (k : Good n g) where
    pub below_leaf : pair n g ≡ none → below n g ≡ leaf g
    unfolding below grown
    below_leaf e = ap (λ o. branch g o (grown n (n * n))) e

    pub below_fork : (u v : ℕ) → pair n g ≡ some (u, v) → below n g ≡ fork g (below n (merge u v g)) (below n (separate u v g))
    unfolding below grown
    below_fork u v e =
        ap (λ o. branch g o (grown n (n * n))) e
        ∙ ap₂ (fork g)
        (grown_same (n * n) (suc (n * n)) (merge u v g) (good_merge g u v k c) (omega (arith, merge_fewer g u v k c, missing_le n g)) (omega (arith, missing_le n (merge u v g))))
        (grown_same (n * n) (suc (n * n)) (separate u v g) (good_separate g u v k c) (omega (arith, separate_fewer g u v k c, missing_le n g))
        (omega (arith, missing_le n (separate u v g))))
      where
        c : Chosen n g u v
        c = pair_chosen n g u v k e
