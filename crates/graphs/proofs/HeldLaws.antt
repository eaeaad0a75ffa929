-- What is done to the words is what is said of the graph. Assumes nothing.
use mathlib.Core.Path.{◌≡◌, refl, sym, ap, ap₂, ◌∙◌, subst}
use mathlib.Core.Logic.{◌≢◌}
use mathlib.Core.Bool.{Bool, true, false, not, ◌&&◌, ◌||◌, cond}
use mathlib.Core.List.{List}
use Prim.Native.Nat.{ℕ, zero, ◌≤◌, ◌<◌}
use native.Mathlib.Decide.{ℕ_discrete, dec_lt}
use native.Mathlib.Omega.{arith}
use lib.Dec.{T, eqb, ltb, eqb→eq, ltb→lt, lt→ltb}
use lib.ListN.{length, get_or, set, length-set, get_or-eq_default}
use lib.Seq.{get_or-set_same, get_or-set_other, lt-length-set}
use borrow.Author.Tests.{eq-eqb, ne_eqb, le-ltb}
use Rattle.sets.specs.Lists.{count, upto, members, table}
use Rattle.sets.specs.Set.{has, size, IsWith, IsWithout, IsJoin, IsMeet, IsLess, IsBelow}
use Rattle.sets.proofs.TestLaws.{and_r, and_t, and_turn, or_false, T→true, T→false, T-ext, eqb_same, eqb_turn}
use Rattle.sets.proofs.ListLaws.{length_table, get_d_table}
use Rattle.sets.proofs.MemberLaws.{count_agree, count_narrow, members_count, members_agree, members_narrow}
use Rattle.clashes.specs.Divisions.{groups}
use Rattle.clashes.specs.Matrix.{matrix, Valid, SoundUpTo}
use Rattle.clashes.proofs.MatrixLaws.{sound_valid}
use Rattle.graphs.specs.Graph.{Graph, live, vertices, merge, separate, missing, grouping, graph}
use Rattle.graphs.specs.Good.{Live, Good, Merged, Parted}
use Rattle.graphs.specs.Held.{HeldAt, HoldsAt, view, node}
use Rattle.graphs.specs.Acts.{RootAt, PairAt, BecomesAt, Linked, Renamed}
use Rattle.graphs.specs.declared.Node.{Node}
use Rattle.graphs.proofs.GraphLaws.{graph_ext, live_of, of_live, to_other}
use Rattle.graphs.proofs.SplitLaws.{merge_is, separate_is, good_merged, good_parted, good_graph, merged_live, live_merged, graph_live, chosen_differ}
use Rattle.graphs.proofs.MeasureLaws.{merged_fewer, parted_fewer}
use Rattle.graphs.proofs.GroupingLaws.{grouping_groups}

-- a node that holds a good graph, and whose live set is that graph's
holds : (cap : ℕ) (r : Node) (n : ℕ) (g : Graph) → length r.rows ≡ cap → length r.names ≡ cap → r.n ≡ n → n ≤ cap → view r ≡ g → Good n g
    → ((x : ℕ) → has r.live x ≡ live n g x) → HeldAt cap r
holds cap r n g rows_long names_long e few is good lives = record {
  rows_long = rows_long;
  names_long = names_long;
  few = subst (λ (k : ℕ). k ≤ cap) (sym e) few;
  lives = λ x. lives x ∙ sym (ap₂ (λ (k : ℕ) (w : Graph). live k w x) e is);
  good = subst (λ (w : Graph). Good r.n w) (sym is) (subst (λ (k : ℕ). Good k g) (sym e) good);
}

-- ---- live vertices of a held node

module _ {cap : ℕ} (h : Node) (k : HeldAt cap h) where
  pub held_live : (x : ℕ) → T (has h.live x) → Live h.n (view h) x
  held_live x t = live_of h.n (view h) x (subst T (k.lives x) t)

  pub live_held : (x : ℕ) → Live h.n (view h) x → T (has h.live x)
  live_held x l = subst T (sym (k.lives x)) (of_live h.n (view h) x l)

  pub live_below : (x : ℕ) → T (has h.live x) → x < h.n
  live_below x t = (held_live x t).below

  pub live_fits : (x : ℕ) → T (has h.live x) → x < cap
  live_fits x t = omega (arith, live_below x t, k.few)

  pub held_beyond : (x : ℕ) → h.n ≤ x → ¬ T (has h.live x)
  held_beyond x b t = let c = live_below x t in let z : ⊥ = omega arith in z

  -- the members of the live set are the graph's vertices
  pub held_members : members (has h.live) cap ≡ vertices h.n (view h)
  held_members = members_narrow (has h.live) h.n cap k.few held_beyond ∙ members_agree h.n (has h.live) (live h.n (view h)) (λ x b. k.lives x)

-- ---- how many live vertices and groups a held node has

module _ {cap : ℕ} (h : Node) (k : HeldAt cap h) where
  pub held_count : size cap h.live ≡ count (live h.n (view h)) (upto h.n)
  held_count =
      count_narrow (has h.live) h.n cap k.few (held_beyond h k)
      ∙ count_agree h.n (has h.live) (live h.n (view h)) (λ x b. k.lives x)

  pub held_vertices : size cap h.live ≡ length (vertices h.n (view h))
  held_vertices = held_count ∙ sym (members_count (live h.n (view h)) h.n)

  pub held_groups : groups 0 (grouping h.n (view h)) ≡ size cap h.live
  held_groups = grouping_groups h.n (view h) k.good ∙ sym held_vertices

-- ---- what falls

module _ {cap : ℕ} (h r : Node) (u v : ℕ) (p : PairAt cap h u v) where
  pub merged_missing : BecomesAt cap h r (merge u v (view h)) → missing r.n (view r) < missing h.n (view h)
  merged_missing b =
      subst (λ (m : ℕ). m < missing h.n (view h)) (sym (ap₂ (λ (n : ℕ) (g : Graph). missing n g) b.same b.is))
      (merged_fewer h.n (view h) (merge u v (view h)) u v p.held.good p.chosen (merge_is h.n (view h) u v p.held.good p.chosen))

  pub separated_missing : BecomesAt cap h r (separate u v (view h)) → missing r.n (view r) < missing h.n (view h)
  separated_missing b =
      subst (λ (m : ℕ). m < missing h.n (view h)) (sym (ap₂ (λ (n : ℕ) (g : Graph). missing n g) b.same b.is))
      (parted_fewer h.n (view h) (separate u v (view h)) u v p.held.good p.chosen (separate_is h.n (view h) u v p.held.good p.chosen))

-- ---- the root

-- rows that have the clashes of n entries, each of which stands for itself; what stands at other places does not matter
module _ {cap n : ℕ} (clash : ℕ → ℕ → Bool) (r : Node) (valid : Valid n clash) (few : n ≤ cap) (e : r.n ≡ n) (below : IsBelow n r.live)
    (held : (x y : ℕ) → x < n → matrix r.rows x y ≡ clash x y) (names : (i : ℕ) → get_or r.names i zero ≡ cond (ltb i n) i zero)
    (rows_long : length r.rows ≡ cap) (names_long : length r.names ≡ cap) where
  pub list_is : view r ≡ graph n clash
  list_is = graph_ext (view r) (graph n clash) names adj
    where
      adj : (x y : ℕ) → (view r).adj x y ≡ (graph n clash).adj x y
      adj x y = ap₂ (λ (a b : Bool). a && (b && matrix r.rows x y)) (below x) (below y) ∙ go (ltb x n) (λ t. held x y (ltb→lt x n t))
        where
          go : (b : Bool) → (T b → matrix r.rows x y ≡ clash x y) → (b && (ltb y n && matrix r.rows x y)) ≡ (b && (ltb y n && clash x y))
          go true h = ap (λ (c : Bool). ltb y n && c) (h tt)
          go false h = refl

  pub list_held : HeldAt cap r
  list_held = holds cap r n (graph n clash) rows_long names_long e few list_is (good_graph n clash valid) lives
    where
      lives : (x : ℕ) → has r.live x ≡ live n (graph n clash) x
      lives x =
          below x ∙ T-ext (ltb x n) (live n (graph n clash) x) (λ t. of_live n (graph n clash) x (graph_live n clash x (ltb→lt x n t)))
          (λ t. lt→ltb x n (live_of n (graph n clash) x t).below)

module _ (cap : ℕ) {most : ℕ} (rows : List ℕ) (r : Node) (s : SoundUpTo most rows) (few : length rows ≤ cap) (e : r.n ≡ length rows)
    (below : IsBelow (length rows) r.live) (held : (x : ℕ) → x < length rows → get_or r.rows x zero ≡ get_or rows x zero)
    (names : (i : ℕ) → get_or r.names i zero ≡ cond (ltb i (length rows)) i zero) (rows_long : length r.rows ≡ cap) (names_long : length r.names ≡ cap) where
  pub root_is : RootAt cap rows r
  root_is = record {
    held = list_held (matrix rows) r (sound_valid rows s) few e below at names rows_long names_long;
    same = e;
    is = list_is (matrix rows) r (sound_valid rows s) few e below at names rows_long names_long;
  }
    where
      at : (x y : ℕ) → x < length rows → matrix r.rows x y ≡ matrix rows x y
      at x y b = ap (λ (m : ℕ). has m y) (held x b)

-- lent rows of a valid list hold it, every entry live
pub valid_holds : {cap n live : ℕ} (rows : List ℕ) → length rows ≡ cap → n ≤ cap → IsBelow n live → Valid n (matrix rows) → HoldsAt cap live rows
valid_holds {cap} {n} {live} rows long few below valid =
    (r, list_held (matrix rows) r valid few refl below (λ x y b. refl) (λ i. at i (dec_lt i cap)) long (length_table name cap))
  where
    name : ℕ → ℕ
    name i = cond (ltb i n) i zero

    r : Node
    r = node n live rows (table name cap)

    at : (i : ℕ) → Dec (i < cap) → get_or (table name cap) i zero ≡ cond (ltb i n) i zero
    at i (yes b) = get_d_table name cap zero i b
    at i (no b) =
        get_or-eq_default (table name cap) zero (omega (arith, length_table name cap))
        ∙ sym (ap (λ (t : Bool). cond t i zero) (le-ltb i n (omega arith)))

-- ---- merging

module _ {cap : ℕ} (h r : Node) (u v : ℕ) (p : PairAt cap h u v) where
  lu : has h.live u ≡ true
  lu = T→true (has h.live u) (live_held h p.held u p.chosen.live_u)

  lv : has h.live v ≡ true
  lv = T→true (has h.live v) (live_held h p.held v p.chosen.live_v)

  differ : u ≢ v
  differ = chosen_differ h.n (view h) u v p.chosen

  module _ (beside near : ℕ) (linked : List ℕ) (joined : ℕ)
      (same : r.n ≡ h.n) (is-beside : IsMeet (get_or h.rows v zero) h.live beside)
      (is-near : IsLess beside (get_or h.rows u zero) near) (is-linked : Linked h.rows u near linked)
      (is-joined : IsJoin (get_or h.rows u zero) (get_or h.rows v zero) joined) (is-rows : r.rows ≡ set linked u joined)
      (is-names : Renamed h.names u v r.names) (is_live : IsWithout h.live v r.live) where
    abbrev row : ℕ → ℕ
    row x = get_or h.rows x zero

    -- v's row has no u, and u's no v
    not_edge : (x y : ℕ) → has h.live x ≡ true → has h.live y ≡ true → ¬ T ((view h).adj x y) → has (row x) y ≡ false
    not_edge x y a b q = sym (ap₂ (λ (s t : Bool). s && (t && has (row x) y)) a b) ∙ T→false ((view h).adj x y) q

    ruv : has (row u) v ≡ false
    ruv = not_edge u v lu lv p.chosen.free

    -- edges to v go both ways
    turn : (x : ℕ) → (has (row v) x && has h.live x) ≡ (has h.live x && has (row x) v)
    turn x =
        and_turn (has (row v) x) (has h.live x) ∙ sym (ap (λ (t : Bool). t && (has h.live x && has (row v) x)) lv)
        ∙ T-ext ((view h).adj v x) ((view h).adj x v) (p.held.good.symm v x) (p.held.good.symm x v)
        ∙ ap (λ (t : Bool). has h.live x && (t && has (row x) v)) lv

    row_u : (y : ℕ) → has (get_or r.rows u zero) y ≡ (has (row u) y || has (row v) y)
    row_u y =
        ap (λ (l : List ℕ). has (get_or l u zero) y) is-rows
        ∙ ap (λ (m : ℕ). has m y) (get_or-set_same linked u joined zero (omega (arith, is-linked.long, p.held.rows_long, p.chosen.live_u.below, p.held.few))) ∙ is-joined y

    -- who is in u's row already has u
    absorb : (a b c e : Bool) → (T b → T c → T e → T a) → (a || ((b && not c) && e)) ≡ (a || (b && e))
    absorb true b c e f = refl
    absorb false false c e f = refl
    absorb false true false e f = refl
    absorb false true true false f = refl
    absorb false true true true f = absurd (f tt tt tt)

    row_other : (x y : ℕ) → x ≢ u → has (get_or r.rows x zero) y ≡ (has (row x) y || (has h.live x && has (row x) v && eqb y u))
    row_other x y q =
        ap (λ (l : List ℕ). has (get_or l x zero) y) is-rows ∙ ap (λ (m : ℕ). has m y) (get_or-set_other linked u x joined zero q) ∙ is-linked.is x y
        ∙ ap (λ (t : Bool). has (row x) y || (t && eqb u y)) (is-near x) ∙ absorb (has (row x) y) (has beside x) (has (row u) x) (eqb u y) already
        ∙ ap₂ (λ (s t : Bool). has (row x) y || (s && t)) (is-beside x ∙ turn x) (eqb_turn u y)
      where
        already : T (has beside x) → T (has (row u) x) → T (eqb u y) → T (has (row x) y)
        already b c e =
            let lx = and_r (has (row v) x) (has h.live x) (subst T (is-beside x) b) in
            let a = p.held.good.symm u x (and_t (has h.live u) (has h.live x && has (row u) x) (subst T (sym lu) tt) (and_t (has h.live x) (has (row u) x) lx c)) in
            subst (λ (z : ℕ). T (has (row x) z)) (eqb→eq u y e) (and_r (has h.live u) (has (row x) u) (and_r (has h.live x) (has h.live u && has (row x) u) a))

    live_is : (x : ℕ) → has r.live x ≡ (not (eqb x v) && has h.live x)
    live_is x = is_live x ∙ ap (λ (t : Bool). has h.live x && not t) (eqb_turn v x) ∙ and_turn (has h.live x) (not (eqb x v))

    adj_is : (x y : ℕ) → (view r).adj x y ≡ (merge u v (view h)).adj x y
    adj_is x y = ap₂ (λ (a b : Bool). a && (b && has (get_or r.rows x zero) y)) (live_is x) (live_is y) ∙ go (ℕ_discrete x u) (ℕ_discrete y u)
      where
        at_u : (ly yv yu s t : Bool) → ((not false && true) && ((not yv && ly) && (s || t))) ≡ (not false && (not yv && (true && (ly && s) || (true && (true && (ly && t)) || yu && (true && (true && false))))))
        at_u ly true yu s t = refl
        at_u false false true s t = refl
        at_u false false false s t = refl
        at_u true false yu true t = refl
        at_u true false yu false true = refl
        at_u true false true false false = refl
        at_u true false false false false = refl

        to_u : (xv lx yv s t : Bool) → ((not xv && lx) && ((not yv && true) && (s || (lx && t && true)))) ≡ (not xv && (not yv && (lx && (true && s) || (false || true && (lx && (true && t))))))
        to_u true lx yv s t = refl
        to_u false false true s t = refl
        to_u false false false s t = refl
        to_u false true true s t = refl
        to_u false true false true t = refl
        to_u false true false false true = refl
        to_u false true false false false = refl

        apart : (xv lx yv ly s t w z : Bool)
            → ((not xv && lx) && ((not yv && ly) && (s || (lx && t && false)))) ≡ (not xv && (not yv && (lx && (ly && s) || (false && w || false && z))))
        apart true lx yv ly s t w z = refl
        apart false false true ly s t w z = refl
        apart false false false ly s t w z = refl
        apart false true true ly s t w z = refl
        apart false true false false s t w z = refl
        apart false true false true true t w z = refl
        apart false true false true false true w z = refl
        apart false true false true false false w z = refl

        go : Dec (x ≡ u) → Dec (y ≡ u)
            → ((not (eqb x v) && has h.live x) && ((not (eqb y v) && has h.live y) && has (get_or r.rows x zero) y)) ≡ (merge u v (view h)).adj x y
        go (yes e) d = rw (e, row_u y, ne_eqb u v differ, eqb_same u, lu, lv, ruv) (at_u (has h.live y) (eqb y v) (eqb y u) (has (row u) y) (has (row v) y))
        go (no q) (yes e) = rw (e, row_other x u q, eqb_same u, ne_eqb x u q, lu, lv) (to_u (eqb x v) (has h.live x) (eqb u v) (has (row x) u) (has (row x) v))
        go (no q) (no d) =
            rw (row_other x y q, ne_eqb x u q, ne_eqb y u d) (apart (eqb x v) (has h.live x) (eqb y v) (has h.live y) (has (row x) y) (has (row x) v) true true)

    pub merged_is : BecomesAt cap h r (merge u v (view h))
    merged_is = record {
      held = holds cap r h.n (merge u v (view h))
          (ap length is-rows ∙ length-set linked u joined ∙ is-linked.long ∙ p.held.rows_long) (is-names.long ∙ p.held.names_long) same p.held.few is good lives;
      same = same;
      is = is;
    }
      where
        M : Merged h.n (view h) (merge u v (view h)) u v
        M = merge_is h.n (view h) u v p.held.good p.chosen

        good : Good h.n (merge u v (view h))
        good = good_merged h.n (view h) (merge u v (view h)) u v p.held.good p.chosen M

        is : view r ≡ merge u v (view h)
        is = graph_ext (view r) (merge u v (view h)) is-names.is adj_is

        lives : (x : ℕ) → has r.live x ≡ live h.n (merge u v (view h)) x
        lives x = live_is x ∙ go (ℕ_discrete x v)
          where
            go : Dec (x ≡ v) → (not (eqb x v) && has h.live x) ≡ live h.n (merge u v (view h)) x
            go (yes e) =
                rw (eq-eqb x v e)
                (sym (T→false (live h.n (merge u v (view h)) x) (λ t.
                (live_merged h.n (view h) (merge u v (view h)) u v p.held.good p.chosen M x (live_of h.n (merge u v (view h)) x t)).1 e)))
            go (no q) =
                rw (ne_eqb x v q)
                (p.held.lives x ∙ T-ext (live h.n (view h) x) (live h.n (merge u v (view h)) x)
                (λ t. of_live h.n (merge u v (view h)) x (subst (Live h.n (merge u v (view h))) (to_other u v x q)
                (merged_live h.n (view h) (merge u v (view h)) u v p.held.good p.chosen M x (live_of h.n (view h) x t))))
                (λ t. of_live h.n (view h) x
                (live_merged h.n (view h) (merge u v (view h)) u v p.held.good p.chosen M x (live_of h.n (merge u v (view h)) x t)).0))

  -- ---- separating

  module _ (ru rv : ℕ) (same : r.n ≡ h.n)
      (is-ru : IsWith (get_or h.rows u zero) v ru) (is-rv : IsWith (get_or h.rows v zero) u rv) (is-rows : r.rows ≡ set (set h.rows u ru) v rv)
      (is-names : r.names ≡ h.names) (is_live : r.live ≡ h.live) where
    abbrev old : ℕ → ℕ
    old x = get_or h.rows x zero

    abbrev new : ℕ → ℕ
    new x = get_or r.rows x zero

    part_u : (y : ℕ) → has (new u) y ≡ (has (old u) y || eqb y v)
    part_u y =
        ap (λ (l : List ℕ). has (get_or l u zero) y) is-rows
        ∙ ap (λ (m : ℕ). has m y) (get_or-set_other (set h.rows u ru) v u rv zero differ ∙ get_or-set_same h.rows u ru zero
        (omega (arith, p.held.rows_long, p.chosen.live_u.below, p.held.few)))
        ∙ is-ru y ∙ ap (λ (t : Bool). has (old u) y || t) (eqb_turn v y)

    part_v : (y : ℕ) → has (new v) y ≡ (has (old v) y || eqb y u)
    part_v y =
        ap (λ (l : List ℕ). has (get_or l v zero) y) is-rows
        ∙ ap (λ (m : ℕ). has m y) (get_or-set_same (set h.rows u ru) v rv zero
        (lt-length-set h.rows u ru (omega (arith, p.held.rows_long, p.chosen.live_v.below, p.held.few))))
        ∙ is-rv y ∙ ap (λ (t : Bool). has (old v) y || t) (eqb_turn u y)

    part_other : (x y : ℕ) → x ≢ u → x ≢ v → has (new x) y ≡ has (old x) y
    part_other x y a b =
        ap (λ (l : List ℕ). has (get_or l x zero) y) is-rows
        ∙ ap (λ (m : ℕ). has m y) (get_or-set_other (set h.rows u ru) v x rv zero b ∙ get_or-set_other h.rows u x ru zero a)

    -- t passes only where y is live
    inner : (ly s t : Bool) → (T t → T ly) → (true && (ly && (s || t))) ≡ (true && (ly && s) || t)
    inner true s t f = refl
    inner false s true f = absurd (f tt)
    inner false s false f = refl

    part_adj : (x y : ℕ) → (has h.live x && (has h.live y && has (new x) y)) ≡ (separate u v (view h)).adj x y
    part_adj x y = go (ℕ_discrete x u) (ℕ_discrete x v)
      where
        at_v : T (eqb y v) → T (has h.live y)
        at_v t = rw (eqb→eq y v t, lv) tt

        at_u : T (eqb y u) → T (has h.live y)
        at_u t = rw (eqb→eq y u t, lu) tt

        go : Dec (x ≡ u) → Dec (x ≡ v) → (has h.live x && (has h.live y && has (new x) y)) ≡ (separate u v (view h)).adj x y
        go (yes e) d =
            rw (e, part_u y, lu, eqb_same u, ne_eqb u v differ)
            (inner (has h.live y) (has (old u) y) (eqb y v) at_v ∙ ap (λ (t : Bool). true && (has h.live y && has (old u) y) || t) (sym (or_false (eqb y v))))
        go (no q) (yes e) = rw (e, part_v y, lv, eqb_same v, ne_eqb v u (λ z. differ (sym z))) (inner (has h.live y) (has (old v) y) (eqb y u) at_u)
        go (no q) (no d) = rw (part_other x y q d, ne_eqb x u q, ne_eqb x v d) (sym (or_false (has h.live x && (has h.live y && has (old x) y))))

    pub separated_is : BecomesAt cap h r (separate u v (view h))
    separated_is = record {
      held = holds cap r h.n (separate u v (view h))
          (ap length is-rows ∙ length-set (set h.rows u ru) v rv ∙ length-set h.rows u ru ∙ p.held.rows_long) (ap length is-names ∙ p.held.names_long) same
          p.held.few is good lives;
      same = same;
      is = is;
    }
      where
        P : Parted h.n (view h) (separate u v (view h)) u v
        P = separate_is h.n (view h) u v p.held.good p.chosen

        good : Good h.n (separate u v (view h))
        good = good_parted h.n (view h) (separate u v (view h)) u v p.held.good p.chosen P

        is : view r ≡ separate u v (view h)
        is =
            graph_ext (view r) (separate u v (view h)) (λ i. ap (λ (l : List ℕ). get_or l i zero) is-names)
            (λ x y. ap (λ (s : ℕ). has s x && (has s y && has (new x) y)) is_live ∙ part_adj x y)

        lives : (x : ℕ) → has r.live x ≡ live h.n (separate u v (view h)) x
        lives x = ap (λ (s : ℕ). has s x) is_live ∙ p.held.lives x
