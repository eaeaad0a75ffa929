-- The described search of small lists, computed: best division and nodes. Beside each its placings in the order in which they are entered, as one counts
-- them by hand; a bar stands before those that go back at once. Assumes nothing.
use mathlib.Core.Path.{◌≡◌, refl}
use mathlib.Core.List.{List, [], ◌∷◌}
use Prim.Native.Nat.{ℕ}
use Rattle.clashes.specs.Matrix.{matrix}
use Rattle.placing.specs.Search.{State, search, placing_search, nodes_from}

answer : List ℕ → ℕ → State
answer best nodes = record { best = best; nodes = nodes }

-- the empty start
no_entry : placing_search 0 (matrix []) ≡ answer [] 1
unfolding search answer
no_entry = refl

-- the empty start, |0
one_entry : placing_search 1 (matrix (0 ∷ [])) ≡ answer (0 ∷ []) 2
unfolding search answer
one_entry = refl

-- the clash 0 - 1: the empty start, 0, |01
one_clash : placing_search 2 (matrix (2 ∷ 1 ∷ [])) ≡ answer (0 ∷ 1 ∷ []) 3
unfolding search answer
one_clash = refl

-- no clash: the empty start, 0, 00, 000 the best, |001, |01. The node 00 enters 001 though its one group reaches the best size by then.
apart : placing_search 3 (matrix (0 ∷ 0 ∷ 0 ∷ [])) ≡ answer (0 ∷ 0 ∷ 0 ∷ []) 6
unfolding search answer
apart = refl

-- and all there are: the empty start, 0, 00, 000, 001, 01, 010, 011, 012
apart_all : nodes_from (matrix (0 ∷ 0 ∷ 0 ∷ [])) 3 [] ≡ 9
unfolding nodes_from
apart_all = refl

-- the path 0 - 1 - 2: the empty start, 0, 01, 010 the best, |012
path : placing_search 3 (matrix (2 ∷ 5 ∷ 2 ∷ [])) ≡ answer (0 ∷ 1 ∷ 0 ∷ []) 5
unfolding search answer
path = refl

-- the path 0 - 2 - 3 - 1: the empty start, 0, 00, 001, 0012 the best, 01, 011, 0110 the best, |0112, |012
mended : placing_search 4 (matrix (4 ∷ 8 ∷ 9 ∷ 6 ∷ [])) ≡ answer (0 ∷ 1 ∷ 1 ∷ 0 ∷ []) 10
unfolding search answer
mended = refl

-- the cycle of five: the empty start, 0, 01, 010, 0101, 01012 the best, |0102, |012
cycle : placing_search 5 (matrix (18 ∷ 5 ∷ 10 ∷ 20 ∷ 9 ∷ [])) ≡ answer (0 ∷ 1 ∷ 0 ∷ 1 ∷ 2 ∷ []) 8
unfolding search answer
cycle = refl
