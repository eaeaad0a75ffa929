-- Laws of live vertices, of `to`, of the pair rule and of completeness. Assumes nothing.
use mathlib.Core.Path.{◌≡◌, refl}
use mathlib.Core.Logic.{◌≢◌}
use mathlib.Core.Bool.{Bool, true, false, not, cond}
use mathlib.Core.Option.{Option, none, some}
use Prim.Native.Nat.{ℕ, ◌<◌}
use native.Mathlib.Decide.{dec_lt}
use native.Mathlib.Omega.{arith}
use lib.Dec.{T, eqb, eqb→eq, T_not, not_T}
use Rattle.sets.specs.Lists.{In, select, all, cross}
use Rattle.sets.proofs.TestLaws.{T?, eqb_of, all_get, all_make}
use Rattle.sets.proofs.ListLaws.{select_passes, select-In, greatest-In, greatest_none}
use Rattle.sets.proofs.MemberLaws.{In-members, members-In}
use Rattle.graphs.specs.Graph.{Graph, live, vertices, to, gap, common, pair, complete}
use Rattle.graphs.specs.Good.{Live, Good, Chosen}
use Rattle.graphs.proofs.PairLaws.{out, in-to, In-cross}

-- ---- graphs are equal where they agree at each entry and each pair

pub graph_ext : (g h : Graph) → ((i : ℕ) → g.rep i ≡ h.rep i) → ((x y : ℕ) → g.adj x y ≡ h.adj x y) → g ≡ h
graph_ext g h p q = λ i. record { rep = λ x. p x i; adj = λ x y. q x y i }

-- ---- `to`

-- what holds of w where w is not v, and of u where it is, holds of `to u v w`
pub to_ind : (P : ℕ → Type 0) (u v w : ℕ) → (w ≡ v → P u) → (w ≢ v → P w) → P (to u v w)
to_ind P u v w f g = go (eqb w v) (λ t. f (eqb→eq w v t)) (λ t. g (λ e. t (eqb_of w v e)))
  where
    go : (b : Bool) → (T b → P u) → (¬ T b → P w) → P (cond b u w)
    go true f g = f tt
    go false f g = g (λ t. t)

pub to_v : (u v : ℕ) → to u v v ≡ u
to_v u v = to_ind (λ x. x ≡ u) u v v (λ e. refl) (λ a. absurd (a refl))

pub to_other : (u v w : ℕ) → w ≢ v → to u v w ≡ w
to_other u v w a = to_ind (λ x. x ≡ w) u v w (λ e. absurd (a e)) (λ b. refl)

module _ (n : ℕ) (g : Graph) where
  -- ---- live vertices

  pub live_of : (x : ℕ) → T (live n g x) → Live n g x
  live_of x t = record { below = search out; self = search out }

  pub of_live : (x : ℕ) → Live n g x → T (live n g x)
  of_live x l = search in-to

  pub vertices_live : (x : ℕ) → In x (vertices n g) → Live n g x
  vertices_live x i = live_of x (In-members (live n g) n x i).1

  pub live_vertices : (x : ℕ) → Live n g x → In x (vertices n g)
  live_vertices x l = members-In (live n g) n x l.below (of_live x l)

  -- ---- gaps

  pub gap_chosen : (u v : ℕ) → T (gap n g (u, v)) → Chosen n g u v
  gap_chosen u v t = record { live_u = live_of u (search out); live_v = live_of v (search out); less = search out; free = T_not (g.adj u v) (search out) }

  pub chosen_gap : (u v : ℕ) → Chosen n g u v → T (gap n g (u, v))
  chosen_gap u v c =
      let a : T (live n g u) = of_live u c.live_u in
      let b : T (live n g v) = of_live v c.live_v in
      let d : T (not (g.adj u v)) = not_T (g.adj u v) c.free in
      search in-to

  -- ---- the pair rule

  pub pair_chosen : (u v : ℕ) → Good n g → pair n g ≡ some (u, v) → Chosen n g u v
  pair_chosen u v k e =
      gap_chosen u v (select_passes (gap n g) (cross n n) (u, v) (greatest-In (common n g) (select (gap n g) (cross n n)) (u, v) e))

  -- where no pair is chosen there is no gap
  pub none_chosen : pair n g ≡ none → (u v : ℕ) → ¬ Chosen n g u v
  none_chosen e u v c =
      greatest_none (common n g) (select (gap n g) (cross n n)) e (u, v)
      (select-In (gap n g) (cross n n) (u, v) (In-cross n n u v c.live_u.below c.live_v.below) (chosen_gap u v c))

  pub pair_complete : Good n g → pair n g ≡ none → (x y : ℕ) → Live n g x → Live n g y → x < y → T (g.adj x y)
  pair_complete k e x y l m b = go (T? (g.adj x y))
    where
      go : Dec (T (g.adj x y)) → T (g.adj x y)
      go (yes t) = t
      go (no q) = absurd (none_chosen e x y (record { live_u = l; live_v = m; less = b; free = q }))

  -- both ways round
  pub pair_full : Good n g → pair n g ≡ none → (x y : ℕ) → Live n g x → Live n g y → x ≢ y → T (g.adj x y)
  pair_full k e x y l m q = go (dec_lt x y)
    where
      go : Dec (x < y) → T (g.adj x y)
      go (yes b) = pair_complete k e x y l m b
      go (no b) = k.symm y x (pair_complete k e y x m l (omega arith))

  -- ---- a graph is complete just where no pair is chosen

  pub none_complete : pair n g ≡ none → T (complete n g)
  none_complete e =
      all_make n (λ x. all n (λ y. not (gap n g (x, y))))
      (λ x a. all_make n (λ y. not (gap n g (x, y))) (λ y b. not_T (gap n g (x, y)) (λ t. none_chosen e x y (gap_chosen x y t))))

  pub complete_none : T (complete n g) → pair n g ≡ none
  complete_none t = go (pair n g) (λ u v e. gap_chosen u v (select_passes (gap n g) (cross n n) (u, v) (greatest-In (common n g) (select (gap n g) (cross n n)) (u, v) e)))
    where
      go : (o : Option (ℕ × ℕ)) → ((u v : ℕ) → o ≡ some (u, v) → Chosen n g u v) → o ≡ none
      go none f = refl
      go (some p) f =
          let c = f p.0 p.1 refl in
          absurd (T_not (gap n g p) (all_get n (λ y. not (gap n g (p.0, y))) (all_get n (λ x. all n (λ y. not (gap n g (x, y)))) t p.0 c.live_u.below) p.1
          c.live_v.below) (chosen_gap p.0 p.1 c))
