-- The first round on the clique of lent rows, and the H that it makes: what each function of it asks, by the laws of nodes. Assumes nothing.
use mathlib.Core.Path.{◌≡◌}
use mathlib.Core.List.{List}
use Prim.Native.Nat.{ℕ, ◌<◌}
use lib.Dec.{T}
use Rattle.sets.specs.Set.{has, size, IsLowest}
use Rattle.graphs.specs.Held.{HoldsAt, EachAt, holding, view}
use Rattle.cliques.specs.Growth.{Within, ReachesAt}
use Rattle.mycielski.specs.Rounds.{every_edge, of_w_lem, extend}
use Rattle.mycielski.specs.Words.{Sub, part_of, Among, Serves, ServesAll}
use Rattle.mycielski.proofs.ClimbLaws.{reaches_short, clique_live, climb_among, first_among, first_fit, first_w, first_next}

-- c is the clique, being smaller than what would have been enough
module _ (cap live : ℕ) (rows : List ℕ) (holds : HoldsAt cap live rows) (e c : ℕ) (found : EachAt cap live rows (λ h. ReachesAt cap h.n (view h) e c)) (few : size cap c < e) where
  pub round_live : Within c live
  round_live = clique_live (holding live rows holds.0) holds.1 c (reaches_short (holding live rows holds.0) holds.1 e c (found holds.0 holds.1) few)

  module _ (p : Sub) (every : part_of p ≡ every_edge (has c)) where
    pub round_among : Among live p
    round_among =
        first_among (holding live rows holds.0) holds.1 c p every
        (reaches_short (holding live rows holds.0) holds.1 e c (found holds.0 holds.1) few)

    pub round_fit : (fit : List ℕ) → EachAt cap live rows (λ h. ServesAll h.n (view h) c fit) → EachAt cap live rows (λ h. Serves h.n (view h) p fit)
    round_fit fit s m k = first_fit (holding live rows m) k c p every (reaches_short (holding live rows m) k e c (found m k) few) fit (s m k)

    module _ (room : size cap c < size cap live) (ws w : ℕ) (are : EachAt cap live rows (λ h. (x : ℕ) → has ws x ≡ of_w_lem h.n (view h) (every_edge (has c)) x))
        (low : IsLowest cap ws w) where
      pub round_w : EachAt cap live rows (λ h. T (of_w_lem h.n (view h) (part_of p) w))
      round_w m k = first_w (holding live rows m) k c p every (reaches_short (holding live rows m) k e c (found m k) few) room ws (are m k) w low

      pub round_next : (r : Sub) → EachAt cap live rows (λ h. part_of r ≡ extend h.n (view h) (part_of p) w) → Among live r
      round_next r f =
          climb_among (holding live rows holds.0) holds.1 r _
          (first_next (holding live rows holds.0) holds.1 c p every
          (reaches_short (holding live rows holds.0) holds.1 e c (found holds.0 holds.1) few) room ws (are holds.0 holds.1) w low r (f holds.0 holds.1))
