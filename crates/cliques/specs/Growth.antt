-- How the clique is grown in words, a clique at a time.
--
--   IsSetOf c w       : the set w has c's members
--   elements cap w    : the members of the set w below cap, rising
--   in_numbers num c  : a clique on the way, its two sets as the numbers that they are
--   scan g c vs       : c grown along vs: each vertex in turn is added if it is admitted
--   Grown n g c k     : k has c's members, and the live vertices that c admits
--   GrowsAt cap n g left c r : r is c grown by the members of left below cap, lowest first
--   Within s t        : each member of s is one of t
--   after s p x       : x passes p and comes after s
--   opening n g s     : the clique that s opens: it grows along the live vertices after s
--   ReachesAt cap n g e w : w is the set of the clique, or of another as large as e asks, and no larger than it
--   Grows, Reaches    : the same at 64
--
-- Assumes nothing.
use Rattle.std.specs.Prelude.{◌≡◌, ◌⊎◌, Bool, ◌&&◌, List, [], ◌∷◌, ℕ, ◌≤◌, T, ltb, length}
use Rattle.sets.specs.Lists.{members, over}
use Rattle.sets.specs.Set.{has, size}
use Rattle.graphs.specs.Graph.{Graph, live}
use Rattle.cliques.specs.Clique.{is_in, admits, joined, clique}
use Rattle.cliques.specs.declared.Growth.{Growth}

abbrev pub IsSetOf : List ℕ → ℕ → Type 0
IsSetOf c w = (x : ℕ) → has w x ≡ is_in x c

unfoldable pub elements : ℕ → ℕ → List ℕ
elements cap w = members (has w) cap

abbrev pub scan : Graph → List ℕ → List ℕ → List ℕ
scan g c vs = over (joined g) c vs

abbrev pub in_numbers : {S : Type 0} → (S → ℕ) → Growth S → Growth ℕ
in_numbers num c = record { set = num c.set; near = num c.near }

pub record Grown (n : ℕ) (g : Graph) (c : List ℕ) (k : Growth ℕ) : Type 0 where
  pub members : IsSetOf c k.set
  pub near : (x : ℕ) → has k.near x ≡ (live n g x && admits g c x)

abbrev pub GrowsAt : ℕ → ℕ → Graph → ℕ → Growth ℕ → Growth ℕ → Type 0
GrowsAt cap n g left c r = (l : List ℕ) → Grown n g l c → Grown n g (scan g l (elements cap left)) r

abbrev pub Grows : ℕ → Graph → ℕ → Growth ℕ → Growth ℕ → Type 0
Grows n g left c r = GrowsAt 64 n g left c r

abbrev pub Within : ℕ → ℕ → Type 0
Within s t = (x : ℕ) → T (has s x) → T (has t x)

abbrev pub after : ℕ → (ℕ → Bool) → ℕ → Bool
after s p x = p x && ltb s x

abbrev pub opening : ℕ → Graph → ℕ → List ℕ
opening n g s = scan g (s ∷ []) (members (after s (live n g)) n)

abbrev pub ReachesAt : ℕ → ℕ → Graph → ℕ → ℕ → Type 0
ReachesAt cap n g e w = IsSetOf (clique n g) w ⊎ ((e ≤ size cap w) × (size cap w ≤ length (clique n g)))

abbrev pub Reaches : ℕ → Graph → ℕ → ℕ → Type 0
Reaches n g e w = ReachesAt 64 n g e w
