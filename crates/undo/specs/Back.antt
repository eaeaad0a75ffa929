-- Rows that are changed in place and changed back. Everything is said of all bits, not of the view alone; rows are lists of numbers, of any width.
--
--   word_has s from x   : x is a member of s, read as the word of a set whose places start at from
--   LinkedBy rows u p r : r are as many rows, these, with u in each row that passes the test p; UnlinkedBy: with u in none of these
--   Unlinked rows u s r : the same for the members of s
--   Undone rows u old near r : r are as many rows, these, with old at u, and u in no other row of near
--   Merges cap live rows u v r old near : r are the rows once v is merged into u; undone by old and near they are the rows again
--   hit u v x y         : x and y are u and v, in this or the other order
--   Cut rows u v r      : r are as many rows, these, without the edge of u and v
--   Separates cap rows u v r : r are the rows once u and v are adjacent; cut at u and v they are the rows again
--   is_met cap trail at k x y : x and y are one of the k pairs of the trail from at on. A trail's entry is u * 256 + v
--   Restored cap trail at k rows r : r are as many rows, these, without the edges of those pairs
--
-- `cap` is how many rows there are, and entries may be. Assumes nothing.
use Rattle.std.specs.Prelude.{◌≡◌, Bool, false, not, ◌&&◌, ◌||◌, cond, List, ℕ, zero, suc, ◌+◌, ◌-◌, ◌/◌, ◌%◌, eqb, leb, length, get_or}
use Rattle.sets.specs.Set.{has}
use Rattle.wide.specs.Form.{Fits}
use Rattle.graphs.specs.Held.{holding}
use Rattle.graphs.specs.Acts.{PairAt, MergedAt, SeparatedAt}
use Rattle.graphs.specs.declared.Node.{Node}

abbrev pub word_has : ℕ → ℕ → ℕ → Bool
word_has s from x = leb from x && has s (x - from)

pub record LinkedBy (rows : List ℕ) (u : ℕ) (p : ℕ → Bool) (r : List ℕ) : Type 0 where
  pub long : length r ≡ length rows
  pub is : (x y : ℕ) → has (get_or r x zero) y ≡ (has (get_or rows x zero) y || (p x && eqb u y))

pub record UnlinkedBy (rows : List ℕ) (u : ℕ) (p : ℕ → Bool) (r : List ℕ) : Type 0 where
  pub long : length r ≡ length rows
  pub is : (x y : ℕ) → has (get_or r x zero) y ≡ (has (get_or rows x zero) y && not (p x && eqb u y))

abbrev pub Unlinked : List ℕ → ℕ → ℕ → List ℕ → Type 0
Unlinked rows u s r = UnlinkedBy rows u (has s) r

pub record Undone (rows : List ℕ) (u old near : ℕ) (r : List ℕ) : Type 0 where
  pub long : length r ≡ length rows
  pub is : (x y : ℕ) → has (get_or r x zero) y ≡ cond (eqb x u) (has old y) (has (get_or rows x zero) y && not (has near x && eqb u y))

pub record Merges (cap live : ℕ) (rows : List ℕ) (u v : ℕ) (r : List ℕ) (old near : ℕ) : Type 0 where
  pub is : MergedAt cap live rows u v r
  pub back : (m : Node) → PairAt cap (holding live rows m) u v → Undone r u old near rows
  pub old_fits : Fits cap old
  pub near_fits : Fits cap near

abbrev pub hit : ℕ → ℕ → ℕ → ℕ → Bool
hit u v x y = eqb x u && eqb y v || eqb x v && eqb y u

pub record Cut (rows : List ℕ) (u v : ℕ) (r : List ℕ) : Type 0 where
  pub long : length r ≡ length rows
  pub is : (x y : ℕ) → has (get_or r x zero) y ≡ (has (get_or rows x zero) y && not (hit u v x y))

pub record Separates (cap : ℕ) (rows : List ℕ) (u v : ℕ) (r : List ℕ) : Type 0 where
  pub is : SeparatedAt cap rows u v r
  pub back : (m : Node) → PairAt cap (holding m.live rows m) u v → Cut r u v rows

abbrev pub is_met : ℕ → List ℕ → ℕ → ℕ → ℕ → ℕ → Bool
is_met cap trail at zero x y = false
is_met cap trail at (suc k) x y =
    is_met cap trail at k x y || hit (get_or trail (at + k) zero / 256 % cap) (get_or trail (at + k) zero % 256 % cap) x y

pub record Restored (cap : ℕ) (trail : List ℕ) (at k : ℕ) (rows r : List ℕ) : Type 0 where
  pub long : length r ≡ length rows
  pub is : (x y : ℕ) → has (get_or r x zero) y ≡ (has (get_or rows x zero) y && not (is_met cap trail at k x y))
