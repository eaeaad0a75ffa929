-- The climb in words: H and the bound so far, from which the rounds that are left give the whole's bound. Assumes nothing.
use mathlib.Core.Path.{◌≡◌, sym, ap, ◌∙◌, fun_ext, subst}
use mathlib.Core.Logic.{inl, inr}
use mathlib.Core.Bool.{Bool, false, not, ◌||◌}
use mathlib.Core.List.{List}
use mathlib.Core.Option.{Option, some}
use Prim.Native.Nat.{ℕ, suc, ◌+◌, ◌≤◌, ◌<◌}
use native.Mathlib.Nat.{le_trans, le_of_eq}
use native.Mathlib.Omega.{arith}
use lib.Dec.{T}
use lib.ListN.{length}
use borrow.Author.Tests.{le-leb, lt-leb}
use Rattle.sets.specs.Lists.{count, all, any, upto, lowest}
use Rattle.sets.specs.Set.{has, size, IsLowest}
use Rattle.sets.proofs.TestLaws.{and_l}
use Rattle.sets.proofs.MemberLaws.{count_narrow, lowest_is, lowest_none, Lowest, found, nowhere, lowest_cases}
use Rattle.sets.proofs.SetLaws.{has_none, no_members}
use Rattle.graphs.specs.Graph.{Graph, live, vertices}
use Rattle.graphs.specs.Held.{view, HeldAt}
use Rattle.graphs.specs.declared.Node.{Node}
use Rattle.graphs.proofs.GraphLaws.{live_of, of_live}
use Rattle.graphs.proofs.HeldLaws.{held_vertices}
use Rattle.cliques.specs.Clique.{is_in, clique, IsClique}
use Rattle.cliques.specs.Growth.{IsSetOf, Within, ReachesAt}
use Rattle.cliques.proofs.ListLaws.{in_of}
use Rattle.cliques.proofs.CliqueLaws.{clique_is}
use Rattle.cliques.proofs.WordLaws.{size_length}
use Rattle.mycielski.specs.Rounds.{Part, every_edge, near_all, offers, of_w_lem, extend, full, round, rounds, limit, mycielskian}
use Rattle.mycielski.specs.Words.{Sub, part_of, Among, Serves, ServesAll}
use Rattle.mycielski.proofs.RoundLaws.{Fine, clique_fine, fine_round, rounds_le, rounds_end, clique_le}

module _ {cap : ℕ} (h : Node) (k : HeldAt cap h) where
  abbrev g : Graph
  g = view h

  abbrev n : ℕ
  n = h.n

  -- ---- sizes

  size_within : (s : ℕ) → ((x : ℕ) → T (has s x) → x < n) → size cap s ≡ count (has s) (upto n)
  size_within s f = count_narrow (has s) n cap k.few (λ x b t. let c = f x t in let z : ⊥ = omega arith in z)

  -- ---- the clique, or one that is large enough

  pub reaches_most : (e w : ℕ) → ReachesAt cap n g e w → size cap w ≤ mycielskian n g
  reaches_most e w (inl q) = le_trans (le_of_eq (size_length cap n g (clique n g) w k.few (clique_is n g k.good) q)) (clique_le n g k.good)
  reaches_most e w (inr q) = le_trans q.1 (clique_le n g k.good)

  pub reaches_short : (e w : ℕ) → ReachesAt cap n g e w → size cap w < e → IsSetOf (clique n g) w
  reaches_short e w (inl q) l = q
  reaches_short e w (inr q) l = absurd (let z : ⊥ = omega arith in z)

  -- ---- the climb

  pub record Climb (H : Part) (b : ℕ) : Type 0 where
    pub fine : Fine n g k.good H b
    pub goal : (m : ℕ) → n < b + m → rounds n g m H b ≡ mycielskian n g

  pub climb_start : (c : ℕ) → IsSetOf (clique n g) c → Climb (every_edge (has c)) (size cap c)
  unfolding mycielskian
  climb_start c q =
      subst (λ (b : ℕ). Climb (every_edge (has c)) b) (sym (size_length cap n g (clique n g) c k.few own q))
      (record {
        fine = subst (λ H. Fine n g k.good H (length (clique n g))) (sym is) start;
        goal = λ m b. ap (λ (H : Part). rounds n g m H (length (clique n g))) is
            ∙ rounds_end n g k.good m (limit n) (every_edge (λ x. is_in x (clique n g))) (length (clique n g)) start b (omega arith);
      })
    where
      own : IsClique n g (clique n g)
      own = clique_is n g k.good

      start : Fine n g k.good (every_edge (λ x. is_in x (clique n g))) (length (clique n g))
      start = clique_fine n g k.good (clique n g) own

      is : every_edge (has c) ≡ every_edge (λ x. is_in x (clique n g))
      is = ap every_edge (fun_ext q)

  pub clique_live : (c : ℕ) → IsSetOf (clique n g) c → Within c h.live
  clique_live c q x t = subst T (sym (k.lives x)) (of_live n g x ((clique_is n g k.good).lives x (in_of x (clique n g) (subst T (q x) t))))

  pub climb_among : (p : Sub) (b : ℕ) → Climb (part_of p) b → Among h.live p
  climb_among p b i = record {
    verts = λ x t. subst T (sym (k.lives x)) (of_live n g x (i.fine.lives x t));
    ends = λ x y t. subst T (sym (k.lives y)) (of_live n g y (i.fine.lives y (i.fine.within x y t).1));
  }

  module _ (set : ℕ) (edge : ℕ → ℕ → Bool) (b : ℕ) (i : Climb (record { vert = λ x. has set x; edge = edge }) b) where
    abbrev H : Part
    H = record { vert = λ x. has set x; edge = edge }

    -- the rounds that are left, at a limit that is great enough
    more : round (full n g H) (lowest (of_w_lem n g H) n) b (λ w. rounds n g n (extend n g H w) (suc b)) ≡ mycielskian n g
    more = i.goal (suc n) (omega arith)

    set_size : size cap set ≡ count (has set) (upto n)
    set_size = size_within set (λ x t. (i.fine.lives x t).below)

    pub climb_le : b ≤ mycielskian n g
    climb_le = le_trans (rounds_le n g k.good (suc n) H b) (le_of_eq more)

    -- H is full
    pub climb_full : size cap h.live ≤ size cap set → b ≡ mycielskian n g
    climb_full l =
        sym (ap (λ (t : Bool). round t (lowest (of_w_lem n g H) n) b (λ w. rounds n g n (extend n g H w) (suc b)))
        (le-leb (length (vertices n g)) (count (has set) (upto n)) (omega (arith, held_vertices h k, set_size)))) ∙ more

    module _ (l : size cap set < size cap h.live) (ws : ℕ) (q : (x : ℕ) → has ws x ≡ of_w_lem n g H x) where
      open_full : full n g H ≡ false
      open_full = lt-leb (length (vertices n g)) (count (has set) (upto n)) (omega (arith, held_vertices h k, set_size))

      -- W is empty
      pub climb_none : ws ≡ 0 → b ≡ mycielskian n g
      climb_none z =
          sym (ap (λ (t : Bool). round t (lowest (of_w_lem n g H) n) b (λ w. rounds n g n (extend n g H w) (suc b))) open_full
          ∙ ap (λ (o : Option ℕ). round false o b (λ w. rounds n g n (extend n g H w) (suc b)))
          (lowest_none (of_w_lem n g H) n (λ j c t. subst T (has_none j) (subst (λ s. T (has s j)) z (subst T (sym (q j)) t))))) ∙ more

      -- W is not: whatever is chosen of it, there is one round more
      pub climb_more : (ws ≡ 0 → ⊥) → suc b ≤ mycielskian n g
      climb_more z = le_trans (go (lowest (of_w_lem n g H) n) (lowest_cases (of_w_lem n g H) n)) (le_of_eq (sym (ap (λ (t : Bool). round t (lowest (of_w_lem n g H) n) b next) open_full) ∙ more))
        where
          next : ℕ → ℕ
          next w = rounds n g n (extend n g H w) (suc b)

          below : (x : ℕ) → T (of_w_lem n g H x) → x < n
          below x t = (live_of n g x (and_l (live n g x) (all n (λ v. not (has set v) || any n (offers n g H x v))) t)).below

          go : (o : Option ℕ) → Lowest (of_w_lem n g H) n o → suc b ≤ round false o b next
          go o (found w a) = rounds_le n g k.good n (extend n g H w) (suc b)
          go o (nowhere f) = absurd (z (no_members ws (λ x t. f x (below x (subst T (q x) t)) (subst T (q x) t))))

      -- a round
      module _ (w : ℕ) (v : IsLowest cap ws w) where
        pub climb_w : T (of_w_lem n g H w)
        climb_w = subst T (q w) v.member

        lowest_w : lowest (of_w_lem n g H) n ≡ some w
        lowest_w =
            lowest_is (of_w_lem n g H) n w (live_of n g w (and_l (live n g w) (all n (λ v. not (has set v) || any n (offers n g H w v))) climb_w)).below climb_w
            (λ j c t. v.least j c (subst T (sym (q j)) t))

        pub climb_next : (H' : Part) → H' ≡ extend n g H w → Climb H' (suc b)
        climb_next H' e = record {
          fine = subst (λ H. Fine n g k.good H (suc b)) (sym e) (fine_round n g k.good H b i.fine w climb_w);
          goal = λ m c.
              ap (λ (H : Part). rounds n g m H (suc b)) e
              ∙ sym (ap (λ (t : Bool). round t (lowest (of_w_lem n g H) n) b (λ w. rounds n g m (extend n g H w) (suc b))) open_full
              ∙ ap (λ (o : Option ℕ). round false o b (λ w. rounds n g m (extend n g H w) (suc b))) lowest_w)
              ∙ i.goal (suc m) (omega arith);
        }

-- ---- the first round, from the clique

module _ {cap : ℕ} (h : Node) (k : HeldAt cap h) (c : ℕ) (p : Sub) (e : part_of p ≡ every_edge (has c)) (q : IsSetOf (clique h.n (view h)) c) where
  first : Climb h k (every_edge (has c)) (size cap c)
  first = climb_start h k c q

  pub first_among : Among h.live p
  first_among = climb_among h k p (size cap c) (subst (λ H. Climb h k H (size cap c)) (sym e) first)

  pub first_fit : (fit : List ℕ) → ServesAll h.n (view h) c fit → Serves h.n (view h) p fit
  first_fit fit f v t x =
      f v (subst T (ap (λ (H : Part). H.vert v) e) t) x ∙ sym (ap (λ (H : Part). near_all h.n (view h) (H.edge v) x) e)

  module _ (l : size cap c < size cap h.live) (ws : ℕ) (s : (x : ℕ) → has ws x ≡ of_w_lem h.n (view h) (every_edge (has c)) x) (w : ℕ) (v : IsLowest cap ws w) where
    pub first_w : T (of_w_lem h.n (view h) (part_of p) w)
    first_w = subst (λ H. T (of_w_lem h.n (view h) H w)) (sym e) (climb_w h k c (every_edge (has c)).edge (size cap c) first l ws s w v)

    pub first_next : (r : Sub) → part_of r ≡ extend h.n (view h) (part_of p) w → Climb h k (part_of r) (suc (size cap c))
    first_next r f =
        climb_next h k c (every_edge (has c)).edge (size cap c) first l ws s w v (part_of r) (f ∙ ap (λ (H : Part). extend h.n (view h) H w) e)
