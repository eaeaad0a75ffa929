-- What merging and separating do to a graph, and what they keep; the graph of a valid list. Assumes nothing.
use mathlib.Core.Path.{◌≡◌, refl, sym, ap, ◌∙◌, subst, subst₂}
use mathlib.Core.Logic.{◌⊎◌, inl, inr, ◌≢◌}
use mathlib.Core.Bool.{Bool, ◌&&◌, ◌||◌, cond}
use Prim.Native.Nat.{ℕ, zero, ◌≤◌, ◌<◌}
use native.Mathlib.Nat.{le_trans, le_of_eq}
use native.Mathlib.Omega.{arith}
use lib.Dec.{T, eqb, eqb→eq, eqb_refl}
use borrow.Author.Tests.{lt-ltb}
use Rattle.sets.proofs.TestLaws.{or_l, or_r, or_cases}
use Rattle.clashes.specs.Matrix.{Valid}
use Rattle.graphs.specs.Graph.{Graph, to, merge, separate, graph}
use Rattle.graphs.specs.Good.{Live, Good, Chosen, Merged, Parted}
use Rattle.graphs.proofs.PairLaws.{both, un_both, out, in-to}
use Rattle.graphs.proofs.GraphLaws.{to_ind, to_v, to_other}

module _ (n : ℕ) (g : Graph) (u v : ℕ) where
  pub chosen_differ : Chosen n g u v → u ≢ v
  chosen_differ p e = let b = p.less in let z : ⊥ = omega arith in z

  -- ---- merging and separating are what they are said to be

  -- where an edge of the merged graph comes from
  Edge : ℕ → ℕ → Type 0
  Edge x y = T (g.adj x y) ⊎ (((x ≡ u) × T (g.adj v y)) ⊎ ((y ≡ u) × T (g.adj x v)))

  un_merge : (x y : ℕ) → T ((merge u v g).adj x y) → (x ≢ v) × (y ≢ v) × Edge x y
  unfolding Edge
  un_merge x y t = (search out, search out, go (or_cases (g.adj x y) (eqb x u && g.adj v y || eqb y u && g.adj x v) (search out)))
    where
      go : T (g.adj x y) ⊎ T (eqb x u && g.adj v y || eqb y u && g.adj x v) → Edge x y
      go (inl p) = inl p
      go (inr p) =
          elim (or_cases (eqb x u && g.adj v y) (eqb y u && g.adj x v) p)
          [ inl q ↦ inr (inl (search out, search out)) | inr q ↦ inr (inr (search out, search out)) ]

  mk_merge : (x y : ℕ) → x ≢ v → y ≢ v → Edge x y → T ((merge u v g).adj x y)
  unfolding Edge
  mk_merge x y p q (inl t) = search in-to
  mk_merge x y p q (inr (inl t)) = search in-to
  mk_merge x y p q (inr (inr t)) = search in-to

  pub merge_is : Good n g → Chosen n g u v → Merged n g (merge u v g) u v
  unfolding Edge
  merge_is k p = record {
    reps = λ i b. refl;
    fwd = λ x y t. mk_merge (to u v x) (to u v y) (ne x) (ne y) (edge x y t);
    bwd = λ x y t. let r = un_merge x y t in back x y r.0 r.1 r.2;
  }
    where
      ne : (x : ℕ) → to u v x ≢ v
      ne x = to_ind (λ w. w ≢ v) u v x (λ e. chosen_differ p) (λ a. a)

      edge : (x y : ℕ) → T (g.adj x y) → Edge (to u v x) (to u v y)
      edge x y t =
          to_ind (λ w. Edge w (to u v y)) u v x
          (λ e. to_ind (λ z. Edge u z) u v y
          (λ f. absurd (k.no_loop v (subst₂ (λ i j. T (g.adj i j)) e f t)))
          (λ f. inr (inl (refl, subst (λ i. T (g.adj i y)) e t))))
          (λ e. to_ind (λ z. Edge x z) u v y
          (λ f. inr (inr (refl, subst (λ j. T (g.adj x j)) f t)))
          (λ f. inl t))

      back : (x y : ℕ) → x ≢ v → y ≢ v → Edge x y → (a b : ℕ) × (to u v a ≡ x) × (to u v b ≡ y) × T (g.adj a b)
      back x y a b (inl t) = (x, y, to_other u v x a, to_other u v y b, t)
      back x y a b (inr (inl t)) = (v, y, to_v u v ∙ sym t.0, to_other u v y b, t.1)
      back x y a b (inr (inr t)) = (x, v, to_other u v x a, to_v u v ∙ sym t.0, t.1)

  pub separate_is : Good n g → Chosen n g u v → Parted n g (separate u v g) u v
  separate_is k p = record {
    reps = λ i b. refl;
    fwd = λ x y t. or_l (g.adj x y) (new x y) t;
    here = or_r (g.adj u v) (new u v) (or_l (eqb u u && eqb v v) (eqb u v && eqb v u) (both u u (eqb v v) refl (eqb_refl v)));
    here' = or_r (g.adj v u) (new v u) (or_r (eqb v u && eqb u v) (eqb v v && eqb u u) (both v v (eqb u u) refl (eqb_refl u)));
    bwd = λ x y t. go x y (or_cases (g.adj x y) (new x y) t);
  }
    where
      new : ℕ → ℕ → Bool
      new x y = eqb x u && eqb y v || eqb x v && eqb y u

      two : (x y : ℕ) → T (eqb x u && eqb y v) ⊎ T (eqb x v && eqb y u) → ((x ≡ u) × (y ≡ v)) ⊎ ((x ≡ v) × (y ≡ u))
      two x y (inl t) = let r = un_both x u (eqb y v) t in inl (r.0, eqb→eq y v r.1)
      two x y (inr t) = let r = un_both x v (eqb y u) t in inr (r.0, eqb→eq y u r.1)

      go : (x y : ℕ) → T (g.adj x y) ⊎ T (new x y) → T (g.adj x y) ⊎ (((x ≡ u) × (y ≡ v)) ⊎ ((x ≡ v) × (y ≡ u)))
      go x y (inl t) = inl t
      go x y (inr t) = inr (two x y (or_cases (eqb x u && eqb y v) (eqb x v && eqb y u) t))

-- ---- what merging keeps

module _ (n : ℕ) (g m : Graph) (u v : ℕ) (k : Good n g) (p : Chosen n g u v) (e : Merged n g m u v) where
  pub to_below : (x : ℕ) → x < n → to u v x < n
  to_below x b = to_ind (λ w. w < n) u v x (λ e. p.live_u.below) (λ a. b)

  -- a live vertex, or what it is merged into, is live after merging
  pub merged_live : (w : ℕ) → Live n g w → Live n m (to u v w)
  merged_live w l = record {
    below = to_below w l.below;
    self = e.reps (to u v w) (to_below w l.below)
        ∙ to_ind (λ x. to u v (g.rep x) ≡ x) u v w
        (λ q. ap (to u v) p.live_u.self ∙ to_other u v u (chosen_differ n g u v p))
        (λ a. ap (to u v) l.self ∙ to_other u v w a);
  }

  -- a vertex that is live after merging was live before, and is not v
  pub live_merged : (x : ℕ) → Live n m x → Live n g x × (x ≢ v)
  live_merged x l = to_ind (λ w. w ≡ x → Live n g x × (x ≢ v)) u v (g.rep x)
      (λ f z. absurd (chosen_differ n g u v p (sym p.live_u.self ∙ ap g.rep z ∙ f)))
      (λ f z. (record { below = l.below; self = z }, λ h. f (z ∙ h)))
      (sym (e.reps x l.below) ∙ l.self)

  bad : (a b : ℕ) → a ≡ b → ¬ T (g.adj a b)
  bad a b e t = k.no_loop a (subst (λ z. T (g.adj a z)) (sym e) t)

  pub good_merged : Good n m
  good_merged = record {
    rep_live = λ i b. subst (Live n m) (sym (e.reps i b)) (merged_live (g.rep i) (k.rep_live i b));
    smallest = λ i b.
        let s : g.rep i ≤ i = k.smallest i b in
        let q : u < v = p.less in
        le_trans (le_of_eq (e.reps i b)) (to_ind (λ w. w ≤ i) u v (g.rep i) (λ f. let z : u ≤ i = omega arith in z) (λ a. s));
    symm = λ x y t.
        let s = e.bwd x y t in
        subst₂ (λ i j. T (m.adj i j)) s.3 s.2 (e.fwd s.1 s.0 (k.symm s.0 s.1 s.4));
    no_loop = λ x t. let s = e.bwd x x t in loop s.0 s.1 (s.2 ∙ sym s.3) s.4;
    ends = λ x y t.
        let s = e.bwd x y t in
        let l = k.ends s.0 s.1 s.4 in
        (subst (Live n m) s.2 (merged_live s.0 l.0), subst (Live n m) s.3 (merged_live s.1 l.1));
  }
    where
      loop : (a b : ℕ) → to u v a ≡ to u v b → ¬ T (g.adj a b)
      loop a b q t =
          to_ind (λ x. x ≡ to u v b → ⊥) u v a
          (λ f. to_ind (λ y. u ≡ y → ⊥) u v b (λ h z. bad a b (f ∙ sym h) t) (λ h z. p.free (k.symm v u (subst₂ (λ i j. T (g.adj i j)) f (sym z) t))))
          (λ f. to_ind (λ y. a ≡ y → ⊥) u v b (λ h z. p.free (subst₂ (λ i j. T (g.adj i j)) z h t)) (λ h z. bad a b z t)) q

-- ---- what separating keeps

module _ (n : ℕ) (g s : Graph) (u v : ℕ) (k : Good n g) (p : Chosen n g u v) (e : Parted n g s u v) where
  pub parted_live : (w : ℕ) → Live n g w → Live n s w
  parted_live w l = record { below = l.below; self = e.reps w l.below ∙ l.self }

  pub live_parted : (w : ℕ) → Live n s w → Live n g w
  live_parted w l = record { below = l.below; self = sym (e.reps w l.below) ∙ l.self }

  pub good_parted : Good n s
  good_parted = record {
    rep_live = λ i b. subst (Live n s) (sym (e.reps i b)) (parted_live (g.rep i) (k.rep_live i b));
    smallest = λ i b. le_trans (le_of_eq (e.reps i b)) (k.smallest i b);
    no_loop = λ x t. elim (e.bwd x x t) [ inl a ↦ k.no_loop x a | inr r ↦ elim r [ inl h ↦ differ (sym h.0 ∙ h.1) | inr h ↦ differ (sym h.1 ∙ h.0) ] ];
    symm = λ x y t. back x y (e.bwd x y t);
    ends = λ x y t. go x y (e.bwd x y t);
  }
    where
      differ : u ≢ v
      differ = chosen_differ n g u v p

      back : (x y : ℕ) → T (g.adj x y) ⊎ (((x ≡ u) × (y ≡ v)) ⊎ ((x ≡ v) × (y ≡ u))) → T (s.adj y x)
      back x y (inl t) = e.fwd y x (k.symm x y t)
      back x y (inr (inl r)) = subst₂ (λ i j. T (s.adj i j)) (sym r.1) (sym r.0) e.here'
      back x y (inr (inr r)) = subst₂ (λ i j. T (s.adj i j)) (sym r.1) (sym r.0) e.here

      lu : Live n s u
      lu = parted_live u p.live_u

      lv : Live n s v
      lv = parted_live v p.live_v

      go : (x y : ℕ) → T (g.adj x y) ⊎ (((x ≡ u) × (y ≡ v)) ⊎ ((x ≡ v) × (y ≡ u))) → Live n s x × Live n s y
      go x y (inl t) = let l = k.ends x y t in (parted_live x l.0, parted_live y l.1)
      go x y (inr (inl r)) = (rw r.0 lu, rw r.1 lv)
      go x y (inr (inr r)) = (rw r.0 lv, rw r.1 lu)

-- ---- the graph of a list

module _ (n : ℕ) (clash : ℕ → ℕ → Bool) where
  -- every entry stands for itself
  pub graph_rep : (i : ℕ) → i < n → (graph n clash).rep i ≡ i
  graph_rep i b = ap (λ (t : Bool). cond t i zero) (lt-ltb i n b)

  pub graph_live : (i : ℕ) → i < n → Live n (graph n clash) i
  graph_live i b = record { below = b; self = graph_rep i b }

  pub graph_clash : (x y : ℕ) → T ((graph n clash).adj x y) → (x < n) × (y < n) × T (clash x y)
  graph_clash x y t = search out

  pub clash_graph : (x y : ℕ) → x < n → y < n → T (clash x y) → T ((graph n clash).adj x y)
  clash_graph x y b c t = search in-to

  pub good_graph : Valid n clash → Good n (graph n clash)
  good_graph h = record {
    rep_live = λ i b. subst (Live n (graph n clash)) (sym (graph_rep i b)) (graph_live i b);
    smallest = λ i b. le_of_eq (graph_rep i b);
    no_loop = λ x t. let r = graph_clash x x t in h.no_self x r.0 r.2;
    symm = λ x y t. let r = graph_clash x y t in clash_graph y x r.1 r.0 (h.both_ways x y r.0 r.1 r.2);
    ends = λ x y t. let r = graph_clash x y t in (graph_live x r.0, graph_live y r.1);
  }
