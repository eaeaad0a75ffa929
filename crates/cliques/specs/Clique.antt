-- Document 01, "The two bounds": the clique of a node, over its live vertices (document 000, section 2.2).
--
--   is_in x c      : x is one of c's members
--   admits g c x   : c admits x: x is adjacent to each member of c
--   joined g c x   : c, with x where c admits it
--   again g cs x   : x is added to every clique on hand that admits it
--   once g cs x    : and opens a new one if none does
--   cliques n g    : the cliques on hand, by when they were opened, after all vertices were taken by rising number, and then once more
--   clique n g     : the largest of them, the earliest opened on a tie; it has no member where the graph is empty
--   set_of c       : c's members as a set
--   IsClique n g c : c's members are live, none stands twice, and each two are adjacent
--
-- Assumes nothing.
use Rattle.std.specs.Prelude.{◌≢◌, Bool, cond, List, [], ◌∷◌, ◌++◌, map, ℕ, ◌^◌, T, eqb, length}
use Rattle.std.proofs.Math.Option.{get_or}
use Rattle.std.specs.Int.Bits.{bit_or}
use Rattle.sets.specs.Lists.{In, NoDup, every, some?, greatest, over}
use Rattle.graphs.specs.Graph.{Graph, vertices}
use Rattle.graphs.specs.Good.{Live}

abbrev pub is_in : ℕ → List ℕ → Bool
is_in x c = some? (eqb x) c

abbrev pub admits : Graph → List ℕ → ℕ → Bool
admits g c x = every (g.adj x) c

abbrev pub joined : Graph → List ℕ → ℕ → List ℕ
joined g c x = cond (admits g c x) (x ∷ c) c

abbrev pub again : Graph → List (List ℕ) → ℕ → List (List ℕ)
again g cs x = map (λ c. joined g c x) cs

abbrev pub once : Graph → List (List ℕ) → ℕ → List (List ℕ)
once g cs x = again g cs x ++ cond (some? (λ c. admits g c x) cs) [] ((x ∷ []) ∷ [])

abbrev pub cliques : ℕ → Graph → List (List ℕ)
cliques n g = over (again g) (over (once g) [] (vertices n g)) (vertices n g)

unfoldable pub clique : ℕ → Graph → List ℕ
clique n g = get_or (greatest length (cliques n g)) []

abbrev pub set_of : List ℕ → ℕ
set_of [] = 0
set_of (x ∷ c) = bit_or (set_of c) (2 ^ x)

pub record IsClique (n : ℕ) (g : Graph) (c : List ℕ) : Type 0 where
  pub lives : (x : ℕ) → In x c → Live n g x
  pub once_each : NoDup c
  pub pairs : (x y : ℕ) → In x c → In y c → x ≢ y → T (g.adj x y)
