-- Laws of the rounds: H stays a part of the graph of which the bound holds, so the bound is a lower one; the rounds end; in a complete graph the
-- bound is the number of vertices. Assumes nothing.
use mathlib.Core.Path.{◌≡◌, refl, sym, subst}
use mathlib.Core.Logic.{◌⊎◌, inl, inr, ◌≢◌}
use mathlib.Core.Bool.{Bool, true, false, not, ◌&&◌, ◌||◌}
use mathlib.Core.List.{List, [], ◌∷◌, map}
use mathlib.Core.Option.{Option, none, some, get_or, none-ne-some, some-injective}
use Prim.Native.Nat.{ℕ, zero, suc, ◌+◌, ◌≤◌, ◌<◌}
use native.Mathlib.Nat.{le_refl, le_trans, le_of_eq, le_antisymm}
use native.Mathlib.Omega.{arith}
use lib.Dec.{T, eqb, eqb→eq, eqb_refl}
use lib.ListN.{length, length-map}
use lib.IntN.{ℤ, pos, ℤ_discrete}
use Rattle.sets.specs.Lists.{In, any, members, upto, first, lowest}
use Rattle.sets.proofs.TestLaws.{and_l, and_r, and_t, or_l, or_r, or_cases, all_get, any_get, any_make}
use Rattle.sets.proofs.ListLaws.{no_dup_le, length_table}
use Rattle.sets.proofs.MemberLaws.{In-members, members-In, members_count}
use Rattle.clashes.specs.Labels.{distinct}
use Rattle.clashes.specs.Colouring.{Lower}
use Rattle.clashes.proofs.NumberLaws.{distinct_cases, distinct_no_dup}
use Rattle.clashes.proofs.ColouringLaws.{un_pos}
use Rattle.graphs.specs.Graph.{Graph, live, vertices}
use Rattle.graphs.specs.Good.{Live, Good}
use Rattle.graphs.proofs.PairLaws.{out, in-to, count_length}
use Rattle.graphs.proofs.GraphLaws.{live_of, of_live}
use Rattle.cliques.specs.Clique.{is_in, clique, IsClique}
use Rattle.cliques.proofs.ListLaws.{in_of, of_in}
use Rattle.cliques.proofs.CliqueLaws.{clique_is, clique_full}
use Rattle.mycielski.specs.Rounds.{Part, every_edge, offers, of_w_lem, chosen, tied, extend, full, round, rounds, limit, mycielskian}
use Rattle.mycielski.proofs.DoneLaws.{imp_get}
use Rattle.mycielski.proofs.Recolouring.{Holds, clique_holds, round_holds, lower}

-- ---- the lowest

pub lowest_some : (p : ℕ → Bool) (n w : ℕ) → lowest p n ≡ some w → (w < n) × T (p w)
lowest_some p n w e = In-members p n w (go (members p n) e)
  where
    go : (l : List ℕ) → first l ≡ some w → In w l
    go [] e = absurd (none-ne-some w e)
    go (x ∷ l) e = inl (sym (some-injective x w e))

-- where some number passes, the lowest that passes does
pub lowest_passes : (p : ℕ → Bool) (n x : ℕ) → x < n → T (p x) → (get_or (lowest p n) 0 < n) × T (p (get_or (lowest p n) 0))
lowest_passes p n x b t = go (members p n) (λ w i. In-members p n w i) (members-In p n x b t)
  where
    go : (l : List ℕ) → ((w : ℕ) → In w l → (w < n) × T (p w)) → In x l → (get_or (first l) 0 < n) × T (p (get_or (first l) 0))
    go [] f i = absurd i
    go (w ∷ l) f i = f w (inl refl)

length_upto : (n : ℕ) → length (upto n) ≡ n
unfolding upto
length_upto n = length_table (λ i. i) n

module _ (n : ℕ) (g : Graph) (k : Good n g) where
  -- ---- parts of the graph of which a bound holds

  pub record Fine (h : Part) (b : ℕ) : Type 0 where
    pub within : (x y : ℕ) → T (h.edge x y) → T (h.vert x) × T (h.vert y)
    pub symm : (x y : ℕ) → T (h.edge x y) → T (h.edge y x)
    pub lives : (x : ℕ) → T (h.vert x) → Live n g x
    pub edges : (x y : ℕ) → T (h.edge x y) → T (g.adj x y)
    pub holds : Holds ℤ_discrete (λ x. T (h.vert x)) (λ x y. T (h.edge x y)) b

  pub clique_fine : (c : List ℕ) → IsClique n g c → Fine (every_edge (λ x. is_in x c)) (length c)
  clique_fine c q = record {
    within = λ x y t. let r = un x y t in (of_in x c r.0, of_in y c r.1);
    symm = λ x y t. let r = un x y t in mk y x r.1 r.0 (λ e. r.2 (sym e));
    lives = λ x t. q.lives x (in_of x c t);
    edges = λ x y t. let r = un x y t in q.pairs x y r.0 r.1 r.2;
    holds = clique_holds ℤ_discrete (λ x. T (is_in x c)) (λ x y. T ((every_edge (λ x. is_in x c)).edge x y)) c q.once_each (λ x i. of_in x c i) (λ x y i j h. mk x y i j h);
  }
    where
      un : (x y : ℕ) → T ((every_edge (λ x. is_in x c)).edge x y) → In x c × In y c × (x ≢ y)
      un x y t = (in_of x c (search out), in_of y c (search out), search out)

      mk : (x y : ℕ) → In x c → In y c → x ≢ y → T ((every_edge (λ x. is_in x c)).edge x y)
      mk x y i j h = search (in-to, of_in)

  -- ---- one round

  module _ (h : Part) (b : ℕ) (f : Fine h b) (w : ℕ) (ok : T (of_w_lem n g h w)) where
    abbrev s : ℕ → ℕ
    s v = chosen n g h w v

    abbrev h' : Part
    h' = extend n g h w

    live_w : Live n g w
    live_w = live_of n g w (search out)

    -- the member chosen for v is live, adjacent to w and to v's neighbours in H
    record Serves (v x : ℕ) : Type 0 where
      alive : Live n g x
      to_w : T (g.adj w x)
      near : (y : ℕ) → T (h.edge v y) → T (g.adj x y)

    served : (v : ℕ) → T (h.vert v) → Serves v (s v)
    served v t =
        let e = imp_get (h.vert v) (any n (offers n g h w v)) (all_get n (λ v. not (h.vert v) || any n (offers n g h w v)) (search out) v (f.lives v t).below) t in
        let z = any_get n (offers n g h w v) e in
        let p = (lowest_passes (offers n g h w v) n z.0 z.1 z.2).1 in
        record {
          alive = live_of n g (s v) (search out);
          to_w = search out;
          near = λ y u. imp_get (h.edge v y) (g.adj (s v) y) (all_get n (λ y. not (h.edge v y) || g.adj (s v) y) (search out) y (f.lives y (f.within v y u).1).below) u;
        }

    -- an edge of a chosen member: to w, or to an old neighbour of its v
    data Tie (x y : ℕ) : Type 0 where
      fan : (v : ℕ) → T (h.vert v) → x ≡ s v → y ≡ w → Tie x y
      rib : (v : ℕ) → T (h.vert v) → x ≡ s v → T (h.edge v y) → Tie x y

    data Kind (x y : ℕ) : Type 0 where
      old : T (h.edge x y) → Kind x y
      new : Tie x y → Kind x y
      new' : Tie y x → Kind x y

    tie_of : (v x y : ℕ) → T (h.vert v) → T (tied n g h w v x y) → Tie x y
    tie_of v x y i t = go (or_cases (eqb y w) (h.edge v y) (and_r (eqb x (s v)) (eqb y w || h.edge v y) t))
      where
        e : x ≡ s v
        e = eqb→eq x (s v) (and_l (eqb x (s v)) (eqb y w || h.edge v y) t)

        go : T (eqb y w) ⊎ T (h.edge v y) → Tie x y
        go (inl u) = fan v i e (eqb→eq y w u)
        go (inr u) = rib v i e u

    abbrev ties : ℕ → ℕ → ℕ → Bool
    ties x y v = h.vert v && (tied n g h w v x y || tied n g h w v y x)

    kind_of : (x y : ℕ) → T (h'.edge x y) → Kind x y
    kind_of x y t = go (or_cases (h.edge x y) (any n (ties x y)) t)
      where
        two : (v : ℕ) → T (h.vert v) → T (tied n g h w v x y) ⊎ T (tied n g h w v y x) → Kind x y
        two v i (inl u) = new (tie_of v x y i u)
        two v i (inr u) = new' (tie_of v y x i u)

        go : T (h.edge x y) ⊎ T (any n (ties x y)) → Kind x y
        go (inl u) = old u
        go (inr u) =
            let r = any_get n (ties x y) u in
            two r.0 (and_l (h.vert r.0) (tied n g h w r.0 x y || tied n g h w r.0 y x) r.2)
            (or_cases (tied n g h w r.0 x y) (tied n g h w r.0 y x) (and_r (h.vert r.0) (tied n g h w r.0 x y || tied n g h w r.0 y x) r.2))

    of_tie : (x y : ℕ) → Tie x y → (v : ℕ) × T (h.vert v) × T (tied n g h w v x y)
    of_tie x y (fan v i e q) = (v, i, search in-to)
    of_tie x y (rib v i e q) = (v, i, search in-to)

    of_kind : (x y : ℕ) → Kind x y → T (h'.edge x y)
    of_kind x y (old t) = or_l (h.edge x y) (any n (ties x y)) t
    of_kind x y (new t) =
        let r = of_tie x y t in
        or_r (h.edge x y) (any n (ties x y)) (any_make n (ties x y) r.0 (f.lives r.0 r.1).below
        (and_t (h.vert r.0) (tied n g h w r.0 x y || tied n g h w r.0 y x) r.1 (or_l (tied n g h w r.0 x y) (tied n g h w r.0 y x) r.2)))
    of_kind x y (new' t) =
        let r = of_tie y x t in
        or_r (h.edge x y) (any n (ties x y)) (any_make n (ties x y) r.0 (f.lives r.0 r.1).below
        (and_t (h.vert r.0) (tied n g h w r.0 x y || tied n g h w r.0 y x) r.1 (or_r (tied n g h w r.0 x y) (tied n g h w r.0 y x) r.2)))

    vert_old : (x : ℕ) → T (h.vert x) → T (h'.vert x)
    vert_old x t = search in-to

    vert_w : T (h'.vert w)
    vert_w = search (in-to, eqb_refl)

    vert_new : (v : ℕ) → T (h.vert v) → T (h'.vert (s v))
    vert_new v t =
        or_r (h.vert (s v)) (eqb (s v) w || any n (λ u. h.vert u && eqb (s v) (s u)))
        (or_r (eqb (s v) w) (any n (λ u. h.vert u && eqb (s v) (s u)))
        (any_make n (λ u. h.vert u && eqb (s v) (s u)) v (f.lives v t).below (and_t (h.vert v) (eqb (s v) (s v)) t (eqb_refl (s v)))))

    ends : (x y : ℕ) → Tie x y → T (h'.vert x) × T (h'.vert y)
    ends x y (fan v i e q) = (subst (λ z. T (h'.vert z)) (sym e) (vert_new v i), subst (λ z. T (h'.vert z)) (sym q) vert_w)
    ends x y (rib v i e q) = (subst (λ z. T (h'.vert z)) (sym e) (vert_new v i), vert_old y (f.within v y q).1)

    sound : (x y : ℕ) → Tie x y → T (g.adj x y)
    sound x y (fan v i e q) = k.symm y x (rw (e, q) (served v i).to_w)
    sound x y (rib v i e q) = rw e ((served v i).near y q)

    pub fine_round : Fine h' (suc b)
    fine_round = record {
      within = λ x y t. both x y (kind_of x y t);
      symm = λ x y t. of_kind y x (turn x y (kind_of x y t));
      lives = λ x t. alive' x (or_cases (h.vert x) (eqb x w || any n (λ v. h.vert v && eqb x (s v))) t);
      edges = λ x y t. right x y (kind_of x y t);
      holds = round_holds ℤ_discrete (λ x. T (h.vert x)) (λ x y. T (h.edge x y)) (λ x. T (h'.vert x)) (λ x y. T (h'.edge x y)) w s b
          (record {
            within = f.within;
            symm = f.symm;
            keeps = vert_old;
            has_w = vert_w;
            has_u = vert_new;
            edges = λ x y t. of_kind x y (old t);
            edges_w = λ x t. of_kind w (s x) (new' (fan x t refl refl));
            edges_u = λ x y t. of_kind (s x) y (new (rib x (f.within x y t).0 refl t));
          }) f.holds;
    }
      where
        both : (x y : ℕ) → Kind x y → T (h'.vert x) × T (h'.vert y)
        both x y (old t) = let r = f.within x y t in (vert_old x r.0, vert_old y r.1)
        both x y (new t) = ends x y t
        both x y (new' t) = let r = ends y x t in (r.1, r.0)

        turn : (x y : ℕ) → Kind x y → Kind y x
        turn x y (old t) = old (f.symm x y t)
        turn x y (new t) = new' t
        turn x y (new' t) = new t

        alive' : (x : ℕ) → T (h.vert x) ⊎ T (eqb x w || any n (λ v. h.vert v && eqb x (s v))) → Live n g x
        alive' x (inl t) = f.lives x t
        alive' x (inr t) = go (or_cases (eqb x w) (any n (λ v. h.vert v && eqb x (s v))) t)
          where
            go : T (eqb x w) ⊎ T (any n (λ v. h.vert v && eqb x (s v))) → Live n g x
            go (inl t) = rw (eqb→eq x w t) live_w
            go (inr t) =
                let r = any_get n (λ v. h.vert v && eqb x (s v)) t in
                rw (eqb→eq x (s r.0) (and_r (h.vert r.0) (eqb x (s r.0)) r.2))
                (served r.0 (and_l (h.vert r.0) (eqb x (s r.0)) r.2)).alive

        right : (x y : ℕ) → Kind x y → T (g.adj x y)
        right x y (old t) = f.edges x y t
        right x y (new t) = sound x y t
        right x y (new' t) = k.symm y x (sound y x t)

  -- ---- the bound is a lower one

  pub fine_lower : (h : Part) (b : ℕ) → Fine h b → Lower n (live n g) g.adj b
  fine_lower h b f =
      lower n (live n g) g.adj (λ x. T (h.vert x)) (λ x y. T (h.edge x y)) b
      (λ x t. let l = f.lives x t in (l.below, of_live n g x l))
      (λ x y t. let r = f.within x y t in ((f.lives x r.0).below, (f.lives y r.1).below, f.edges x y t)) f.holds

  -- what holds of a full part or where there is no w, and goes on through a round, holds of the rounds
  pub rounds_ind : (P : ℕ → Type 0) → ((h : Part) (b : ℕ) → Fine h b → P b) → (m : ℕ) (h : Part) (b : ℕ) → Fine h b → P (rounds n g m h b)
  rounds_ind P base zero h b f = base h b f
  rounds_ind P base (suc m) h b f =
      go (full n g h) (lowest (of_w_lem n g h) n) (λ w e. rounds_ind P base m (extend n g h w) (suc b) (fine_round h b f w (lowest_some (of_w_lem n g h) n w e).1))
    where
      go : (t : Bool) (o : Option ℕ) → ((w : ℕ) → o ≡ some w → P (rounds n g m (extend n g h w) (suc b)))
          → P (round t o b (λ w. rounds n g m (extend n g h w) (suc b)))
      go true o r = base h b f
      go false none r = base h b f
      go false (some w) r = r w refl

  start : Fine (every_edge (λ x. is_in x (clique n g))) (length (clique n g))
  start = clique_fine (clique n g) (clique_is n g k)

  pub clique_lower : Lower n (live n g) g.adj (length (clique n g))
  clique_lower = fine_lower (every_edge (λ x. is_in x (clique n g))) (length (clique n g)) start

  pub mycielskian_lower : Lower n (live n g) g.adj (mycielskian n g)
  unfolding mycielskian
  mycielskian_lower = rounds_ind (Lower n (live n g) g.adj) fine_lower (limit n) (every_edge (λ x. is_in x (clique n g))) (length (clique n g)) start

  -- ---- no more than the vertices, no less than the clique

  -- each vertex with a label of its own is a colouring
  pub lower_le : (b : ℕ) → Lower n (live n g) g.adj b → b ≤ length (vertices n g)
  lower_le b h =
      le_trans (h pos (λ x y p q t e. k.no_loop x (subst (λ z. T (g.adj x z)) (sym (un_pos e)) t)))
      (le_trans (no_dup_le (distinct ℤ_discrete [] (map pos (vertices n g))) (map pos (vertices n g)) (distinct_no_dup ℤ_discrete [] (map pos (vertices n g)) tt) sub)
      (le_of_eq (length-map (vertices n g) pos)))
    where
      sub : (x : ℤ) → In x (distinct ℤ_discrete [] (map pos (vertices n g))) → In x (map pos (vertices n g))
      sub x i = elim (distinct_cases ℤ_discrete [] (map pos (vertices n g)) x i) [ inl b ↦ absurd b | inr j ↦ j ]

  pub fine_le : (h : Part) (b : ℕ) → Fine h b → b ≤ length (vertices n g)
  fine_le h b f = lower_le b (fine_lower h b f)

  pub mycielskian_vertices : mycielskian n g ≤ length (vertices n g)
  mycielskian_vertices = lower_le (mycielskian n g) mycielskian_lower

  pub rounds_le : (m : ℕ) (h : Part) (b : ℕ) → b ≤ rounds n g m h b
  rounds_le zero h b = le_refl b
  rounds_le (suc m) h b = go (full n g h) (lowest (of_w_lem n g h) n) (λ w. rounds_le m (extend n g h w) (suc b))
    where
      go : (t : Bool) (o : Option ℕ) → ((w : ℕ) → suc b ≤ rounds n g m (extend n g h w) (suc b)) → b ≤ round t o b (λ w. rounds n g m (extend n g h w) (suc b))
      go true o r = le_refl b
      go false none r = le_refl b
      go false (some w) r = omega (arith, r w)

  pub clique_le : length (clique n g) ≤ mycielskian n g
  unfolding mycielskian
  clique_le = rounds_le (limit n) (every_edge (λ x. is_in x (clique n g))) (length (clique n g))

  -- in a complete graph
  pub mycielskian_full : ((x y : ℕ) → Live n g x → Live n g y → x ≢ y → T (g.adj x y)) → mycielskian n g ≡ length (vertices n g)
  mycielskian_full f = le_antisymm mycielskian_vertices (le_trans (clique_full n g k f) clique_le)

  -- ---- the rounds come to an end before their limit

  few : length (vertices n g) ≤ n
  few = le_trans (le_of_eq (members_count (live n g) n)) (le_trans (count_length (live n g) (upto n)) (le_of_eq (length_upto n)))

  pub rounds_end : (m j : ℕ) (h : Part) (b : ℕ) → Fine h b → n < b + m → n < b + j → rounds n g m h b ≡ rounds n g j h b
  rounds_end zero j h b f p q = absurd (let z : ⊥ = omega (arith, few, fine_le h b f) in z)
  rounds_end (suc m) zero h b f p q = absurd (let z : ⊥ = omega (arith, few, fine_le h b f) in z)
  rounds_end (suc m) (suc j) h b f p q =
      go (full n g h) (lowest (of_w_lem n g h) n)
      (λ w e. rounds_end m j (extend n g h w) (suc b) (fine_round h b f w (lowest_some (of_w_lem n g h) n w e).1) (omega arith) (omega arith))
    where
      go : (t : Bool) (o : Option ℕ) → ((w : ℕ) → o ≡ some w → rounds n g m (extend n g h w) (suc b) ≡ rounds n g j (extend n g h w) (suc b))
          → round t o b (λ w. rounds n g m (extend n g h w) (suc b)) ≡ round t o b (λ w. rounds n g j (extend n g h w) (suc b))
      go true o r = refl
      go false none r = refl
      go false (some w) r = r w refl

  -- any greater limit gives the same bound
  pub mycielskian_end : (j : ℕ) → rounds n g (limit n + j) (every_edge (λ x. is_in x (clique n g))) (length (clique n g)) ≡ mycielskian n g
  unfolding mycielskian
  mycielskian_end j = rounds_end (limit n + j) (limit n) (every_edge (λ x. is_in x (clique n g))) (length (clique n g)) start (omega arith) (omega arith)
