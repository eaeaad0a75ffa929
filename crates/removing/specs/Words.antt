-- Shrinking on words: what the functions promise that find who goes. A set of entries is a number, by its members.
--
--   Entries n s               : s is a set of entries, of which there are n
--   Listed rows s             : the rows are those of a list, and s is a set of its entries
--   Sharing rows near among r : r has who of `among` clashes with each of near
--   removal v u               : the removal of v, with u noted: by the second rule, where v is noted with itself
--   removal_of g              : the removal of who goes, as g notes it
--   goes_of g                 : who goes next, where g is the answer
--   removed went m            : the first m removals of those that went
--   Shrank L rows r           : r is what shrinking these rows by L comes to: who went, in order; who stays; whether one went by the second rule
--
-- Assumes nothing.
use Rattle.std.specs.Prelude.{◌≡◌, cond, Option, Some, None, List, ℕ, ◌+◌, ◌<◌, T, eqb, length, get_or}
use Rattle.std.proofs.Math.Option.{Option as Maybe, none, some}
use Rattle.sets.specs.Lists.{table, some?}
use Rattle.sets.specs.Set.{has, size}
use Rattle.clashes.specs.Matrix.{matrix, Valid}
use Rattle.shrink.specs.Rules.{Removal, covered, few, left, everyone, gone}
use Rattle.shrink.specs.Shrunk.{is_few}
use Rattle.removing.specs.declared.Goes.{Goes}
use Rattle.removing.specs.declared.Shrunk.{Shrunk}

abbrev pub Entries : ℕ → ℕ → Type 0
Entries n s = (x : ℕ) → T (has s x) → x < n

pub record Listed (rows : List ℕ) (s : ℕ) : Type 0 where
  pub valid : Valid (length rows) (matrix rows)
  pub entries : Entries (length rows) s

pub record Sharing (rows : List ℕ) (near among r : ℕ) : Type 0 where
  pub shares : (u : ℕ) → T (has r u) → T (has among u) × ((w : ℕ) → T (has near w) → T (matrix rows w u))
  pub every : (u : ℕ) → T (has among u) → ((w : ℕ) → T (has near w) → T (matrix rows w u)) → T (has r u)

abbrev pub removal : ℕ → ℕ → Removal
removal v u = cond (eqb v u) (few v) (covered v u)

abbrev pub removal_of : Goes → Removal
removal_of g = removal g.who g.other

abbrev pub goes_of : Option Goes → Maybe Removal
goes_of (Some g) = some (removal_of g)
goes_of None = none

abbrev pub nobody : Goes
nobody = record { who = 0; other = 0 }

abbrev pub removed : List Goes → ℕ → List Removal
removed went m = table (λ i. removal_of (get_or went i nobody)) m

pub record Shrank (L : ℕ) (rows : List ℕ) (r : Shrunk) : Type 0 where
  pub went : removed r.went r.gone ≡ gone L (length rows) (matrix rows)
  pub stays : (x : ℕ) → has r.present x ≡ left (everyone (length rows)) (gone L (length rows) (matrix rows)) x
  pub second : r.few ≡ some? is_few (gone L (length rows) (matrix rows))
  pub all : r.gone + size (length rows) r.present ≡ length rows
