-- The divisions that a node allows: the entries of each of its groups together, its adjacent vertices apart. A complete graph allows one, its own
-- grouping. A graph allows what its merged graph and its separated graph allow, and neither allows what the other does. Assumes nothing.
use mathlib.Core.Path.{◌≡◌, refl, sym, ap, ◌∙◌, subst}
use mathlib.Core.Logic.{◌⊎◌, inl, inr, ◌≢◌}
use mathlib.Core.Bool.{Bool, ◌&&◌}
use mathlib.Core.List.{List}
use mathlib.Core.Option.{none}
use Prim.Native.Nat.{ℕ, ◌<◌}
use native.Mathlib.Decide.{ℕ_discrete}
use lib.Dec.{T, eqb, eqb→eq}
use Rattle.sets.specs.Lists.{all}
use Rattle.sets.proofs.TestLaws.{and_l, and_r, and_t, eqb_of, all_get, all_make}
use Rattle.clashes.specs.Colouring.{Proper}
use Rattle.clashes.specs.Divisions.{at, Division, clash_free}
use Rattle.clashes.proofs.DivisionLaws.{division_unique}
use Rattle.clashes.proofs.ColouringLaws.{free_proper, proper_free}
use Rattle.graphs.specs.Graph.{Graph, to, merge, separate, pair, grouping}
use Rattle.graphs.specs.Good.{Good, Chosen, Merged, Parted}
use Rattle.graphs.proofs.GraphLaws.{to_ind, to_v, pair_full}
use Rattle.graphs.proofs.SplitLaws.{merge_is, separate_is, to_below}
use Rattle.graphs.proofs.GroupingLaws.{grouping_rep, grouping_same}

module _ (n : ℕ) where
  pub record Allows (g : Graph) (c : List ℕ) : Type 0 where
    pub together : (i : ℕ) → i < n → at c i ≡ at c (g.rep i)
    pub apart : Proper n g.adj (at c)

  -- the same as a test
  abbrev pub together? : Graph → List ℕ → ℕ → Bool
  together? g c i = eqb (at c i) (at c (g.rep i))

  abbrev pub allows? : Graph → List ℕ → Bool
  allows? g c = all n (together? g c) && clash_free n g.adj c

  pub allows_of : (g : Graph) (c : List ℕ) → T (allows? g c) → Allows g c
  allows_of g c t = record {
    together = λ i b. eqb→eq (at c i) (at c (g.rep i)) (all_get n (together? g c) (and_l (all n (together? g c)) (clash_free n g.adj c) t) i b);
    apart = free_proper n g.adj c (and_r (all n (together? g c)) (clash_free n g.adj c) t);
  }

  pub of_allows : (g : Graph) (c : List ℕ) → Allows g c → T (allows? g c)
  of_allows g c a =
      and_t (all n (together? g c)) (clash_free n g.adj c)
      (all_make n (together? g c) (λ i b. eqb_of (at c i) (at c (g.rep i)) (a.together i b))) (proper_free n g.adj c a.apart)

  -- ---- a complete graph

  module _ (g : Graph) (k : Good n g) where
    pub grouping_allowed : Allows g (grouping n g)
    grouping_allowed = record {
      together = grouping_rep n g k;
      apart = λ x y a b t e.
          let l = k.ends x y t in
          k.no_loop x (subst (λ z. T (g.adj x z)) (sym (sym l.0.self ∙ (grouping_same n g).apart x y a b e ∙ l.1.self)) t);
    }

    module _ (e : pair n g ≡ none) where
      pub grouping_only : (c : List ℕ) → Division n c → Allows g c → c ≡ grouping n g
      grouping_only c d a = division_unique ℕ_discrete n g.rep c d.numbered d.long (at c) inj a.together
        where
          inj : (i j : ℕ) → i < n → j < n → at c (g.rep i) ≡ at c (g.rep j) → g.rep i ≡ g.rep j
          inj i j p q z = go (ℕ_discrete (g.rep i) (g.rep j))
            where
              go : Dec (g.rep i ≡ g.rep j) → g.rep i ≡ g.rep j
              go (yes e) = e
              go (no f) =
                  let l = k.rep_live i p in
                  let m = k.rep_live j q in
                  absurd (a.apart (g.rep i) (g.rep j) l.below m.below (pair_full n g k e (g.rep i) (g.rep j) l m f) z)

  module _ (g : Graph) (u v : ℕ) (k : Good n g) (p : Chosen n g u v) where
    -- ---- merging

    M : Merged n g (merge u v g) u v
    M = merge_is n g u v k p

    to_same : (c : List ℕ) → at c u ≡ at c v → (w : ℕ) → at c (to u v w) ≡ at c w
    to_same c q w = to_ind (λ x. at c x ≡ at c w) u v w (λ e. q ∙ ap (at c) (sym e)) (λ a. refl)

    pub merged_together : (c : List ℕ) → Allows (merge u v g) c → at c u ≡ at c v
    merged_together c a = sym (a.together v p.live_v.below ∙ ap (at c) (M.reps v p.live_v.below ∙ ap (to u v) p.live_v.self ∙ to_v u v))

    pub allows_merged : (c : List ℕ) → Allows (merge u v g) c → Allows g c
    allows_merged c a = record {
      together = λ i b. a.together i b ∙ ap (at c) (M.reps i b) ∙ ts (g.rep i);
      apart = λ x y i j t q. a.apart (to u v x) (to u v y) (to_below n g (merge u v g) u v k p M x i) (to_below n g (merge u v g) u v k p M y j) (M.fwd x y t)
          (ts x ∙ q ∙ sym (ts y));
    }
      where
        ts : (w : ℕ) → at c (to u v w) ≡ at c w
        ts = to_same c (merged_together c a)

    pub merged_allows : (c : List ℕ) → Allows g c → at c u ≡ at c v → Allows (merge u v g) c
    merged_allows c a q = record {
      together = λ i b. a.together i b ∙ sym (ts (g.rep i)) ∙ ap (at c) (sym (M.reps i b));
      apart = λ x y i j t r.
          let s = M.bwd x y t in
          let l = k.ends s.0 s.1 s.4 in
          a.apart s.0 s.1 l.0.below l.1.below s.4
          (sym (ts s.0) ∙ ap (at c) s.2 ∙ r ∙ sym (ap (at c) s.3) ∙ ts s.1);
    }
      where
        ts : (w : ℕ) → at c (to u v w) ≡ at c w
        ts = to_same c q

    -- ---- separating

    S : Parted n g (separate u v g) u v
    S = separate_is n g u v k p

    pub separated_apart : (c : List ℕ) → Allows (separate u v g) c → at c u ≢ at c v
    separated_apart c a = a.apart u v p.live_u.below p.live_v.below S.here

    pub allows_separated : (c : List ℕ) → Allows (separate u v g) c → Allows g c
    allows_separated c a = record {
      together = λ i b. a.together i b ∙ ap (at c) (S.reps i b);
      apart = λ x y i j t. a.apart x y i j (S.fwd x y t);
    }

    pub separated_allows : (c : List ℕ) → Allows g c → at c u ≢ at c v → Allows (separate u v g) c
    separated_allows c a q = record {
      together = λ i b. a.together i b ∙ ap (at c) (sym (S.reps i b));
      apart = λ x y i j t. go x y i j (S.bwd x y t);
    }
      where
        go : (x y : ℕ) → x < n → y < n → T (g.adj x y) ⊎ (((x ≡ u) × (y ≡ v)) ⊎ ((x ≡ v) × (y ≡ u))) → at c x ≢ at c y
        go x y i j (inl t) = a.apart x y i j t
        go x y i j (inr (inl r)) = λ z. q (ap (at c) (sym r.0) ∙ z ∙ ap (at c) r.1)
        go x y i j (inr (inr r)) = λ z. q (ap (at c) (sym r.1) ∙ sym z ∙ ap (at c) r.0)
