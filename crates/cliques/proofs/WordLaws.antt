-- Cliques in words: the set of a clique with one vertex more, what it still admits, its size; one turn of growing, and one of opening.
-- Assumes nothing.
use mathlib.Core.Path.{◌≡◌, refl, sym, ap, ap₂, ◌∙◌, subst}
use mathlib.Core.Bool.{Bool, true, false, ◌&&◌, ◌||◌}
use mathlib.Core.List.{List, [], ◌∷◌}
use Prim.Native.Nat.{ℕ, zero, ◌≤◌, ◌<◌}
use native.Mathlib.Omega.{arith}
use lib.Dec.{T, eqb}
use lib.ListN.{length, get_or}
use Rattle.sets.specs.Lists.{upto, members}
use Rattle.sets.specs.Set.{has, size, IsWith, IsMeet, IsLowest}
use Rattle.sets.proofs.TestLaws.{and_l, and_r, and_t, or_turn, T→true, T-ext, eqb_turn}
use Rattle.sets.proofs.ListLaws.{count_lt, In-table}
use Rattle.sets.proofs.MemberLaws.{members_count, members_none, In-members, members-In, members_no_dup}
use Rattle.sets.proofs.SetLaws.{has_none, with_is, same_members}
use Rattle.graphs.specs.Graph.{Graph, live}
use Rattle.graphs.specs.Held.{view, HeldAt}
use Rattle.graphs.specs.declared.Node.{Node}
use Rattle.cliques.specs.Clique.{is_in, admits, set_of, IsClique}
use Rattle.cliques.specs.Growth.{IsSetOf, elements, scan, Grown, GrowsAt, Within}
use Rattle.cliques.specs.declared.Growth.{Growth}
use Rattle.cliques.proofs.ListLaws.{in_of, of_in, length_same}
use Rattle.cliques.proofs.ScanLaws.{scan_lowest}

-- ---- sets

pub with_is_in : (c : List ℕ) (s v r : ℕ) → IsSetOf c s → IsWith s v r → IsSetOf (v ∷ c) r
with_is_in c s v r p q x = q x ∙ ap₂ (λ (a b : Bool). a || b) (p x) (eqb_turn v x) ∙ or_turn (is_in x c) (eqb x v)

pub none_is_in : IsSetOf [] 0
none_is_in x = has_none x

-- a list has one set
pub set_of_is : (c : List ℕ) → IsSetOf c (set_of c)
set_of_is [] = none_is_in
set_of_is (x ∷ c) = with_is_in c (set_of c) x (set_of (x ∷ c)) (set_of_is c) (with_is (set_of c) x)

pub set_of_one : (c : List ℕ) (w : ℕ) → IsSetOf c w → w ≡ set_of c
set_of_one c w p = same_members w (set_of c) (λ x. p x ∙ sym (set_of_is c x))

-- a set that lacks a member of another one, and has none that the other lacks, is smaller
pub size_fewer : (cap s r v : ℕ) → v < cap → Within r s → T (has s v) → ¬ T (has r v) → size cap r < size cap s
unfolding upto
size_fewer cap s r v b f t q = count_lt (has r) (has s) (upto cap) f v (In-table (λ i. i) cap v b) q t

pub size_none : (cap : ℕ) → size cap 0 ≡ 0
size_none cap = sym (members_count (has 0) cap) ∙ ap length (members_none (has 0) cap (λ j b t. subst T (has_none j) t))

-- the size of a clique's set is the clique's
pub size_length : (cap n : ℕ) (g : Graph) (c : List ℕ) (w : ℕ) → n ≤ cap → IsClique n g c → IsSetOf c w → size cap w ≡ length c
size_length cap n g c w few q p =
    sym (members_count (has w) cap)
    ∙ length_same (members (has w) cap) c (members_no_dup (has w) cap) q.once_each
    (λ x i. in_of x c (subst T (p x) (In-members (has w) cap x i).1))
    (λ x i. members-In (has w) cap x (let l = (q.lives x i).below in let z : x < cap = omega arith in z) (subst T (sym (p x)) (of_in x c i)))

pub elements_none : (cap : ℕ) → elements cap 0 ≡ []
unfolding elements
elements_none cap = members_none (has 0) cap (λ j b t. subst T (has_none j) t)

module _ {cap : ℕ} (h : Node) (k : HeldAt cap h) where
  abbrev g : Graph
  g = view h

  row : ℕ → ℕ
  row x = get_or h.rows x zero

  -- ---- neighbours

  pub adj_turn : (x y : ℕ) → g.adj x y ≡ g.adj y x
  adj_turn x y = T-ext (g.adj x y) (g.adj y x) (k.good.symm x y) (k.good.symm y x)

  -- v's row, at the live vertices, is the vertices that are adjacent to v
  pub near_row : (v x : ℕ) → T (has h.live v) → g.adj x v ≡ (has h.live x && has (get_or h.rows v zero) x)
  near_row v x t = adj_turn x v ∙ ap (λ (b : Bool). b && (has h.live x && has (get_or h.rows v zero) x)) (T→true (has h.live v) t)

  pub row_loop : (v : ℕ) → T (has h.live v) → ¬ T (has (get_or h.rows v zero) v)
  row_loop v t u = k.good.no_loop v (and_t (has h.live v) (has h.live v && has (get_or h.rows v zero) v) t (and_t (has h.live v) (has (get_or h.rows v zero) v) t u))

  -- ---- one vertex more

  pub grown_alone : (v s m : ℕ) → T (has h.live v) → IsWith 0 v s → IsMeet h.live (get_or h.rows v zero) m
      → Grown h.n g (v ∷ []) (record { set = s; near = m })
  grown_alone v s m t p q = record {
    members = with_is_in [] 0 v s none_is_in p;
    near = λ x. q x ∙ both (has h.live x) (has (get_or h.rows v zero) x) ∙ ap₂ (λ (a b : Bool). a && (b && true)) (k.lives x) (sym (near_row v x t));
  }
    where
      both : (a b : Bool) → (a && b) ≡ (a && ((a && b) && true))
      both true true = refl
      both true false = refl
      both false b = refl

  pub grown_with : (l : List ℕ) (c : Growth ℕ) (v s m : ℕ) → Grown h.n g l c → T (has h.live v) → IsWith c.set v s
      → IsMeet c.near (get_or h.rows v zero) m → Grown h.n g (v ∷ l) (record { set = s; near = m })
  grown_with l c v s m r t p q = record {
    members = with_is_in l c.set v s r.members p;
    near = λ x.
        q x ∙ ap (λ (b : Bool). b && has (get_or h.rows v zero) x) (r.near x ∙ ap (λ (b : Bool). b && admits g l x) (sym (k.lives x)))
        ∙ shuffle (has h.live x) (admits g l x) (has (get_or h.rows v zero) x)
        ∙ ap₂ (λ (a b : Bool). a && (b && admits g l x)) (k.lives x) (sym (near_row v x t));
  }
    where
      shuffle : (a b c : Bool) → ((a && b) && c) ≡ (a && ((a && c) && b))
      shuffle true true true = refl
      shuffle true true false = refl
      shuffle true false true = refl
      shuffle true false false = refl
      shuffle false b c = refl

  -- ---- one turn of growing: the lowest of the rest is taken, and of the rest its neighbours stay

  pub record Turn (c₀ : Growth ℕ) (left : ℕ) (c : Growth ℕ) (rest : ℕ) : Type 0 where
    pub rest_near : Within rest c.near
    pub near_live : Within c.near h.live
    pub same : (l : List ℕ) → Grown h.n g l c₀ → (m : List ℕ) × Grown h.n g m c × (scan g m (elements cap rest) ≡ scan g l (elements cap left))

  pub turn_start : (c : Growth ℕ) (left : ℕ) → Within left c.near → Within c.near h.live → Turn c left c left
  turn_start c left a b = record { rest_near = a; near_live = b; same = λ l r. (l, r, refl) }

  -- nothing is left
  pub turn_end : (c₀ : Growth ℕ) (left : ℕ) (c : Growth ℕ) → Turn c₀ left c 0 → GrowsAt cap h.n g left c₀ c
  turn_end c₀ left c i l e = let j = i.same l e in subst (λ m. Grown h.n g m c) (sym (ap (scan g j.0) (elements_none cap)) ∙ j.2) j.1

  module _ (c₀ : Growth ℕ) (left : ℕ) (c : Growth ℕ) (rest v s m r : ℕ) (i : Turn c₀ left c rest) (w : IsLowest cap rest v) (ws : IsWith c.set v s)
      (wm : IsMeet c.near (get_or h.rows v zero) m) (wr : IsMeet rest (get_or h.rows v zero) r) where
    live_v : T (has h.live v)
    live_v = i.near_live v (i.rest_near v w.member)

    pub turn_less : size cap r < size cap rest
    turn_less =
        size_fewer cap rest r v w.below (λ x t. and_l (has rest x) (has (get_or h.rows v zero) x) (subst T (wr x) t)) w.member
        (λ t. row_loop v live_v (and_r (has rest v) (has (get_or h.rows v zero) v) (subst T (wr v) t)))

    turn_scan : (l : List ℕ) → Grown h.n g l c → scan g (v ∷ l) (elements cap r) ≡ scan g l (elements cap rest)
    unfolding elements
    turn_scan l e =
        scan_lowest g l (has rest) (has r) v cap w.below w.member w.least (admitted v w.member)
        (λ t. row_loop v live_v (and_r (has rest v) (has (get_or h.rows v zero) v) (subst T (wr v) t)))
        (λ x t. and_l (has rest x) (has (get_or h.rows v zero) x) (subst T (wr x) t))
        (λ x t d a. subst T (sym (wr x)) (and_t (has rest x) (has (get_or h.rows v zero) x) t (beside x (and_l (g.adj x v) (admits g l x) a))))
      where
        admitted : (x : ℕ) → T (has rest x) → T (admits g l x)
        admitted x t = and_r (live h.n g x) (admits g l x) (subst T (e.near x) (i.rest_near x t))

        beside : (x : ℕ) → T (g.adj x v) → T (has (get_or h.rows v zero) x)
        beside x t = and_r (has h.live x) (has (get_or h.rows v zero) x) (subst T (near_row v x live_v) t)

    pub turn_again : Turn c₀ left (record { set = s; near = m }) r
    turn_again = record {
      rest_near = λ x t. let p = subst T (wr x) t in
          subst T (sym (wm x)) (and_t (has c.near x) (has (get_or h.rows v zero) x)
          (i.rest_near x (and_l (has rest x) (has (get_or h.rows v zero) x) p)) (and_r (has rest x) (has (get_or h.rows v zero) x) p));
      near_live = λ x t. i.near_live x (and_l (has c.near x) (has (get_or h.rows v zero) x) (subst T (wm x) t));
      same = λ l e. let j = i.same l e in (v ∷ j.0, grown_with j.0 c v s m j.1 live_v ws wm, turn_scan j.0 j.1 ∙ j.2);
    }
