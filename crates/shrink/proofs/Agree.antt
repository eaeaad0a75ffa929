-- Two lists whose tests agree below n have one graph, one tree and one walk. Assumes nothing.
use mathlib.Core.Path.{◌≡◌, refl, ap}
use mathlib.Core.Bool.{Bool, true, false, ◌&&◌}
use Prim.Native.Nat.{ℕ, ◌<◌}
use lib.Dec.{T, ltb, ltb→lt}
use Rattle.graphs.specs.Graph.{Graph, graph}
use Rattle.zykov.specs.Tree.{below}
use Rattle.zykov.specs.Walk.{walk, start, bounded, bounded_walk_lem}

module _ (n : ℕ) (a b : ℕ → ℕ → Bool) (agree : (x y : ℕ) → x < n → y < n → a x y ≡ b x y) where
  adj_agree : (x y : ℕ) → (ltb x n && (ltb y n && a x y)) ≡ (ltb x n && (ltb y n && b x y))
  adj_agree x y = go (ltb x n) (ltb y n) (λ t u. agree x y (ltb→lt x n t) (ltb→lt y n u))
    where
      go : (s t : Bool) → (T s → T t → a x y ≡ b x y) → (s && (t && a x y)) ≡ (s && (t && b x y))
      go true true f = f tt tt
      go true false f = refl
      go false t f = refl

  pub graph_agree : graph n a ≡ graph n b
  graph_agree = λ i. record { rep = (graph n a).rep; adj = λ x y. adj_agree x y i }

  pub walk_agree : (bound : ℕ → Graph → ℕ) → bounded_walk_lem bound n a ≡ bounded_walk_lem bound n b
  walk_agree bound = ap (λ (g : Graph). walk (bounded n bound) (below n g) (start n)) graph_agree
