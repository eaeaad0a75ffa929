-- The hunt for the largest clique in words: what a vertex opens, and one turn of the hunt.
-- Assumes nothing.
use mathlib.Core.Path.{◌≡◌, refl, sym, ap, ◌∙◌, subst}
use mathlib.Core.Logic.{inl, inr, ◌≢◌}
use mathlib.Core.Bool.{Bool, true, false, not, ◌&&◌, ◌||◌, cond}
use mathlib.Core.List.{List, [], ◌∷◌, ◌++◌, map}
use Prim.Native.Nat.{ℕ, zero, ◌≤◌, ◌<◌}
use native.Mathlib.Nat.{le_trans, le_of_eq}
use native.Mathlib.Decide.{dec_lt}
use native.Mathlib.Omega.{arith}
use lib.Dec.{T, ltb, ltb→lt, lt→ltb}
use lib.ListN.{length, get_or}
use borrow.Author.Tests.{lt-ltb, le-ltb}
use Rattle.sets.specs.Lists.{In, members, over}
use Rattle.sets.specs.Set.{has, size, IsJoin, IsMeet, IsLess, IsBelow, IsLowest}
use Rattle.sets.proofs.TestLaws.{and_l, and_r, and_t, or_l, or_r, not_t, t_not, T→true}
use Rattle.sets.proofs.ListLaws.{no_dup_le}
use Rattle.sets.proofs.MemberLaws.{members_count, members_narrow, In-members, members-In}
use Rattle.sets.proofs.SetLaws.{has_none}
use Rattle.graphs.specs.Graph.{Graph, live, vertices}
use Rattle.graphs.specs.Held.{view, HeldAt}
use Rattle.graphs.specs.declared.Node.{Node}
use Rattle.graphs.proofs.GraphLaws.{live_of, of_live, vertices_live}
use Rattle.cliques.specs.Clique.{is_in, admits, clique, IsClique}
use Rattle.cliques.specs.Growth.{IsSetOf, elements, scan, Grown, GrowsAt, Within, after, opening}
use Rattle.cliques.specs.declared.Growth.{Growth}
use Rattle.cliques.proofs.ListLaws.{of_in, members_at, larger, larger_le}
use Rattle.cliques.proofs.ScanLaws.{scan_keeps, scan_from, scan_skip, scan_clique, alone_clique, empty_clique}
use Rattle.cliques.proofs.ChainLaws.{chain, chain_open, chain_agree, chain_none}
use Rattle.cliques.proofs.CliqueLaws.{second, clique_chain}
use Rattle.cliques.proofs.WordLaws.{none_is_in, size_fewer, size_length, near_row, row_loop}

module _ {cap : ℕ} (h : Node) (k : HeldAt cap h) where
  abbrev g : Graph
  g = view h

  abbrev n : ℕ
  n = h.n

  live_below : (x : ℕ) → T (live n g x) → x < n
  live_below x t = (live_of n g x t).below

  -- growing along a set that has all the vertices of vs that are admitted is growing along vs
  along : (c : List ℕ) (w : ℕ) (p : ℕ → Bool) → ((x : ℕ) → T (p x) → T (live n g x)) → ((x : ℕ) → T (has w x) → T (p x))
      → ((x : ℕ) → T (p x) → T (admits g c x) → T (has w x)) → scan g c (elements cap w) ≡ scan g c (members p n)
  unfolding elements
  along c w p l into from =
      sym (scan_skip g c p (has w) cap into from) ∙ ap (scan g c) (members_narrow p n cap k.few (λ x b t. let c = live_below x (l x t) in let z : ⊥ = omega arith in z))

  -- ---- what s opens

  -- the vertices after s
  abbrev pub rest : ℕ → List ℕ
  rest s = members (after s (live n g)) n

  module _ (s m b left : ℕ) (ls : T (has h.live s)) (wm : IsMeet h.live (get_or h.rows s zero) m) (wb : IsBelow s b) (wl : IsLess m b left) where
    pub left_near : Within left m
    left_near x t = and_l (has m x) (not (has b x)) (subst T (wl x) t)

    pub near_lives : Within m h.live
    near_lives x t = and_l (has h.live x) (has (get_or h.rows s zero) x) (subst T (wm x) t)

    pub opened_is : scan g (s ∷ []) (elements cap left) ≡ scan g (s ∷ []) (rest s)
    opened_is = along (s ∷ []) left (after s (live n g)) (λ x t. and_l (live n g x) (ltb s x) t) into from
      where
        into : (x : ℕ) → T (has left x) → T (after s (live n g) x)
        into x t =
            let u = left_near x t in
            let q = t_not (ltb x s) (subst (λ (c : Bool). T (not c)) (wb x) (and_r (has m x) (not (has b x)) (subst T (wl x) t))) in
            let d : x ≢ s = λ e. row_loop h k s ls
            (subst (λ z. T (has (get_or h.rows s zero) z)) e (and_r (has h.live x) (has (get_or h.rows s zero) x) (subst T (wm x) u))) in
            and_t (live n g x) (ltb s x) (subst T (k.lives x) (near_lives x u)) (lt→ltb s x (above x d (λ l. q (lt→ltb x s l))))
          where
            above : (x : ℕ) → x ≢ s → (x < s → ⊥) → s < x
            above x d q = go (dec_lt s x) (dec_lt x s)
              where
                go : Dec (s < x) → Dec (x < s) → s < x
                go (yes l) e = l
                go (no l) (yes e) = absurd (q e)
                go (no l) (no e) = absurd (d (omega arith))

        from : (x : ℕ) → T (after s (live n g) x) → T (admits g (s ∷ []) x) → T (has left x)
        from x t a =
            let l = ltb→lt s x (and_r (live n g x) (ltb s x) t) in
            subst T (sym (wl x))
            (and_t (has m x) (not (has b x)) (subst T (sym (wm x)) (subst T (near_row h k s x ls) (and_l (g.adj x s) true a)))
            (not_t (has b x) (λ u. let e = ltb→lt x s (subst T (wb x) u) in let z : ⊥ = omega arith in z)))

  -- ---- the hunt: the best so far, against the cliques that the free vertices will open, gives the clique

  pub record Hunt (free best : ℕ) : Type 0 where
    pub free_live : Within free h.live
    pub kept : List ℕ
    pub kept_is : IsClique n g kept
    pub kept_set : IsSetOf kept best
    pub goal : over larger kept (map (second n g) (chain g (λ x. not (has free x)) (vertices n g))) ≡ clique n g

  pub hunt_start : Hunt h.live 0
  hunt_start = record {
    free_live = λ x t. t;
    kept = [];
    kept_is = empty_clique n g k.good;
    kept_set = none_is_in;
    goal =
        ap (λ (cs : List (List ℕ)). over larger [] (map (second n g) cs))
        (chain_agree g (λ x. not (has h.live x)) (λ x. false) (vertices n g)
        (λ x i. ap not (T→true (has h.live x) (subst T (sym (k.lives x)) (of_live n g x (vertices_live n g x i))))))
        ∙ sym (clique_chain n g);
  }

  pub hunt_end : (best : ℕ) → Hunt 0 best → IsSetOf (clique n g) best
  hunt_end best i x =
      i.kept_set x ∙ ap (is_in x) (sym (ap (λ (cs : List (List ℕ)). over larger i.kept (map (second n g) cs))
      (chain_none g (λ x. not (has 0 x)) (vertices n g) (λ x j. subst (λ (b : Bool). T (not b)) (sym (has_none x)) tt))) ∙ i.goal)

  pub hunt_size : (free best : ℕ) → Hunt free best → size cap best ≤ length (clique n g)
  hunt_size free best i =
      le_trans (le_of_eq (size_length cap n g i.kept best k.few i.kept_is i.kept_set))
      (le_trans (larger_le i.kept (map (second n g) (chain g (λ x. not (has free x)) (vertices n g)))) (le_of_eq (ap length i.goal)))

  pub near_live : (l : List ℕ) (c : Growth ℕ) → Grown n g l c → Within c.near h.live
  near_live l c e x t = subst T (sym (k.lives x)) (and_l (live n g x) (admits g l x) (subst T (e.near x) t))

  -- one turn
  module _ (free best s free' : ℕ) (c : Growth ℕ) (i : Hunt free best) (w : IsLowest cap free s) (gc : Grown n g (opening n g s) c)
      (wf : IsLess free c.set free') where
    abbrev own : List ℕ
    own = opening n g s

    live_s : T (live n g s)
    live_s = subst T (k.lives s) (i.free_live s w.member)

    own_has_s : In s own
    own_has_s = scan_keeps g (s ∷ []) (rest s) s (inl refl)

    pub hunt_less : size cap free' < size cap free
    hunt_less =
        size_fewer cap free free' s w.below (λ x t. and_l (has free x) (not (has c.set x)) (subst T (wf x) t)) w.member
        (λ t. t_not (has c.set s) (and_r (has free s) (not (has c.set s)) (subst T (wf s) t)) (subst T (sym (gc.members s)) (of_in s own own_has_s)))

    second_is : scan g own (elements cap c.near) ≡ second n g own
    second_is =
        along own c.near (live n g) (λ x t. t) (λ x t. and_l (live n g x) (admits g own x) (subst T (gc.near x) t))
        (λ x t a. subst T (sym (gc.near x)) (and_t (live n g x) (admits g own x) t a))

    own_clique : IsClique n g own
    own_clique =
        scan_clique n g k.good (s ∷ []) (rest s) (λ x j. live_of n g x (and_l (live n g x) (ltb s x) (In-members (after s (live n g)) n x j).1))
        (alone_clique n g k.good s (live_of n g s live_s))

    second_clique : IsClique n g (second n g own)
    second_clique = scan_clique n g k.good own (vertices n g) (vertices_live n g) own_clique

    -- the clique that s opens, and then those that what is still free opens
    chain_turn : chain g (λ x. not (has free x)) (vertices n g) ≡ own ∷ chain g (λ x. not (has free' x)) (vertices n g)
    chain_turn =
        ap (chain g (λ x. not (has free x))) split
        ∙ chain_open g (λ x. not (has free x)) (λ x. not (has free' x)) (members (live n g) s) (rest s) s
        (λ x j. not_t (has free x) (w.least x (In-members (live n g) s x j).0))
        (λ t. t_not (has free s) t w.member)
        (λ x j. not_t (has free' x) (λ t. w.least x (In-members (live n g) s x j).0 (and_l (has free x) (not (has c.set x)) (subst T (wf x) t))))
        (not_t (has free' s)
        (λ t. t_not (has c.set s) (and_r (has free s) (not (has c.set s)) (subst T (wf s) t)) (subst T (sym (gc.members s)) (of_in s own own_has_s))))
        (λ x j. ap not (wf x ∙ ap (λ (b : Bool). has free x && not b) (gc.members x)) ∙ morgan (has free x) (is_in x own))
        ∙ ap (λ (vs : List ℕ). own ∷ chain g (λ x. not (has free' x)) vs) (sym split)
      where
        split : vertices n g ≡ members (live n g) s ++ s ∷ rest s
        split = members_at (live n g) s n (live_below s live_s) live_s

        morgan : (a b : Bool) → not (a && not b) ≡ (not a || b)
        morgan true true = refl
        morgan true false = refl
        morgan false b = refl

    turned : over larger (larger i.kept (second n g own)) (map (second n g) (chain g (λ x. not (has free' x)) (vertices n g))) ≡ clique n g
    turned = ap (λ (cs : List (List ℕ)). over larger i.kept (map (second n g) cs)) (sym chain_turn) ∙ i.goal

    free_live' : Within free' h.live
    free_live' x t = i.free_live x (and_l (has free x) (not (has c.set x)) (subst T (wf x) t))

    size_kept : size cap best ≡ length i.kept
    size_kept = size_length cap n g i.kept best k.few i.kept_is i.kept_set

    -- it is no larger than the best
    hunt_stays : length (second n g own) ≤ size cap best → Hunt free' best
    hunt_stays l = record {
      free_live = free_live';
      kept = i.kept;
      kept_is = i.kept_is;
      kept_set = i.kept_set;
      goal =
          ap (λ (b : List ℕ). over larger b (map (second n g) (chain g (λ x. not (has free' x)) (vertices n g))))
          (sym (ap (λ (t : Bool). cond t (second n g own) i.kept) (le-ltb (length i.kept) (length (second n g own)) (omega (arith, size_kept)))))
          ∙ turned;
    }

    -- all that it has and admits would not make it larger
    pub hunt_skip : (j : ℕ) → IsJoin c.set c.near j → size cap j ≤ size cap best → Hunt free' best
    unfolding elements
    hunt_skip j wj l =
        hunt_stays (le_trans (no_dup_le (second n g own) (members (has j) cap) second_clique.once_each there) (le_trans (le_of_eq (members_count (has j) cap)) l))
      where
        there : (x : ℕ) → In x (second n g own) → In x (members (has j) cap)
        there x m =
            members-In (has j) cap x (let b = (second_clique.lives x m).below in let z : x < cap = omega (arith, k.few) in z)
            (subst T (sym (wj x)) (elim (scan_from g own (elements cap c.near) x (subst (λ (vs : List ℕ). In x vs) (sym second_is) m)) [
              | inl q ↦ or_l (has c.set x) (has c.near x) (subst T (sym (gc.members x)) (of_in x own q))
              | inr q ↦ or_r (has c.set x) (has c.near x) (In-members (has c.near) cap x q).1
            ]))

    -- it grows to d
    module _ (d : Growth ℕ) (gd : GrowsAt cap n g c.near c d) where
      second_set : IsSetOf (second n g own) d.set
      second_set = subst (λ l. IsSetOf l d.set) second_is (gd own gc).members

      size_second : size cap d.set ≡ length (second n g own)
      size_second = size_length cap n g (second n g own) d.set k.few second_clique second_set

      pub hunt_new : size cap best < size cap d.set → Hunt free' d.set
      hunt_new l = record {
        free_live = free_live';
        kept = second n g own;
        kept_is = second_clique;
        kept_set = second_set;
        goal =
            ap (λ (b : List ℕ). over larger b (map (second n g) (chain g (λ x. not (has free' x)) (vertices n g))))
            (sym (ap (λ (t : Bool). cond t (second n g own) i.kept) (lt-ltb (length i.kept) (length (second n g own)) (omega (arith, size_kept, size_second)))))
            ∙ turned;
      }

      pub hunt_old : size cap d.set ≤ size cap best → Hunt free' best
      hunt_old l = hunt_stays (omega (arith, size_second))
