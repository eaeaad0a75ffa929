-- H in words.
--
--   Sub                 : H: its vertices, and for each the vertices that an edge of H joins it to
--   sub set near        : the H of these
--   part_of p            : the part that the words p hold
--   Among live p        : p's vertices, and the ends of its edges, are among the live vertices
--   reachable n g s w   : w is adjacent to some member of s
--   Serves n g p fit    : fit has S(v) at each v of p
--   ServesAll n g c fit : the same where every two members of c are joined
--   Ties near u ys r    : r has as many rows, the edges of near, and one between u and each member of ys, both ways
--   misses cap rows c x : how many members of c, below cap, do not have x in their row
--   LacksAt cap live rows c m : m has the live vertices that lack a member of c, and those that lack two; Lacks: at 64
--   Outside live c once r : r has the live vertices, but c's members where every live vertex is in once
--   Climbs b e r : r is the bound b, or a bound on the way to it that has reached e
--
-- Assumes nothing.
use Rattle.std.specs.Prelude.{◌≡◌, ◌⊎◌, Bool, not, ◌&&◌, ◌||◌, List, ℕ, zero, ◌≤◌, ◌<◌, T, eqb, leb, length, get_or}
use Rattle.sets.specs.Lists.{any, count, upto}
use Rattle.sets.specs.Set.{has}
use Rattle.graphs.specs.Graph.{Graph}
use Rattle.cliques.specs.Growth.{Within}
use Rattle.mycielski.specs.Rounds.{Part, every_edge, near_all}
use Rattle.mycielski.specs.declared.Lack.{Lack}

pub record Sub : Type 0 where
  pub set : ℕ
  pub near : List ℕ

abbrev pub sub : ℕ → List ℕ → Sub
sub set near = record { set = set; near = near }

abbrev pub part_of : Sub → Part
part_of p = record { vert = λ x. has p.set x; edge = λ x y. has (get_or p.near x zero) y }

pub record Among (live : ℕ) (p : Sub) : Type 0 where
  pub verts : Within p.set live
  pub ends : (x : ℕ) → Within (get_or p.near x zero) live

abbrev pub reachable : ℕ → Graph → ℕ → ℕ → Bool
reachable n g s w = any n (λ x. has s x && g.adj w x)

abbrev pub Serves : ℕ → Graph → Sub → List ℕ → Type 0
Serves n g p fit = (v : ℕ) → T (has p.set v) → (x : ℕ) → has (get_or fit v zero) x ≡ near_all n g (has (get_or p.near v zero)) x

abbrev pub ServesAll : ℕ → Graph → ℕ → List ℕ → Type 0
ServesAll n g c fit = (v : ℕ) → T (has c v) → (x : ℕ) → has (get_or fit v zero) x ≡ near_all n g ((every_edge (has c)).edge v) x

pub record Ties (near : List ℕ) (u ys : ℕ) (r : List ℕ) : Type 0 where
  pub long : length r ≡ length near
  pub is : (x y : ℕ) → has (get_or r x zero) y ≡ (has (get_or near x zero) y || (eqb x u && has ys y || eqb y u && has ys x))

abbrev pub misses : ℕ → List ℕ → ℕ → ℕ → ℕ
misses cap rows c x = count (λ v. has c v && not (has (get_or rows v zero) x)) (upto cap)

pub record LacksAt (cap live : ℕ) (rows : List ℕ) (c : ℕ) (m : Lack ℕ) : Type 0 where
  pub once : (x : ℕ) → has m.once x ≡ (has live x && leb 1 (misses cap rows c x))
  pub twice : (x : ℕ) → has m.twice x ≡ (has live x && leb 2 (misses cap rows c x))

abbrev pub Lacks : ℕ → List ℕ → ℕ → Lack ℕ → Type 0
Lacks live rows c m = LacksAt 64 live rows c m

pub record Outside (live c once r : ℕ) : Type 0 where
  pub within : Within r live
  pub all : (x : ℕ) → T (has live x) → T (has r x) ⊎ (T (has c x) × (once ≡ live))

pub record Climbs (b e r : ℕ) : Type 0 where
  pub most : r ≤ b
  pub exact : r < e → r ≡ b
