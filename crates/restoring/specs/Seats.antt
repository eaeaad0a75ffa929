-- Putting back on words: what the functions promise that group those who stayed, put back who went, and number the groups.
--
--   seating_of h               : the groups that h holds
--   Sets cap p group sets      : each group's set has its present members, where `group` has each entry's group
--   Clear a b                  : the sets a and b have no member in common
--   Taken cap s c              : the first of c, one for each member of s, are group numbers
--   Spread cap s c many h      : h has `many` groups, and each member of s in the group that c has at its place
--   Joined v j h r             : r is h, with v in group j too
--   Seat rows g h r            : r is the group of h that who went by g is put into: that of the other who was noted, or, where it was noted with itself,
--                                the lowest group that has nobody who clashes with it, or a new one
--   Returning cap rows went gone h : those who went may be put back into h: each was removed by a rule, who stayed is in h without a clash, and there is
--                                room for as many new groups
--   Returned cap rows went gone h r : r is h with all put back, the last first
--   Standing cap n h room      : n entries are in h, and there are as many bytes for their groups
--
-- `cap` is how many entries there may be. Assumes nothing.
use Rattle.std.specs.Prelude.{◌≡◌, Bool, ◌&&◌, List, ℕ, ◌+◌, ◌≤◌, ◌<◌, T, eqb, ltb, length, get_or, set}
use Rattle.std.proofs.Math.Decide.{ℕ_discrete}
use Rattle.sets.specs.Set.{has, size, IsWith}
use Rattle.clashes.specs.Labels.{place}
use Rattle.clashes.specs.Matrix.{matrix, Valid, FirstRow}
use Rattle.clashes.specs.Divisions.{at}
use Rattle.shrink.specs.Rules.{left, everyone}
use Rattle.shrink.specs.Back.{Seating, back}
use Rattle.shrink.specs.Steps.{Steps, Fits}
use Rattle.removing.specs.Words.{removed}
use Rattle.removing.specs.declared.Goes.{Goes}
use Rattle.restoring.specs.Rows.{names}
use Rattle.restoring.specs.declared.Seats.{Seats}

abbrev pub seating_of : Seats → Seating
seating_of h = record { many = h.many; group = h.group }

abbrev pub Sets : ℕ → (ℕ → Bool) → List ℕ → List ℕ → Type 0
Sets cap p group sets = (j x : ℕ) → j < cap → has (at sets j) x ≡ (p x && eqb (at group x) j)

abbrev pub Clear : ℕ → ℕ → Type 0
Clear a b = (x : ℕ) → T (has a x) → ¬ T (has b x)

pub record Joined (v j : ℕ) (h r : Seats) : Type 0 where
  pub many : r.many ≡ h.many
  pub group : r.group ≡ set h.group v j
  pub sets : r.sets ≡ set h.sets j (at r.sets j)
  pub wider : IsWith (at h.sets j) v (at r.sets j)

pub record Seat (rows : List ℕ) (g : Goes) (h : Seats) (r : ℕ) : Type 0 where
  pub own : g.who ≡ g.other → FirstRow (λ j. Clear (get_or rows g.who 0) (at h.sets j)) h.many r
  pub other : (g.who ≡ g.other → ⊥) → r ≡ at h.group g.other

abbrev pub Taken : ℕ → ℕ → List ℕ → Type 0
Taken cap s c = (i : ℕ) → i < size cap s → at c i < cap

pub record Spread (cap s : ℕ) (c : List ℕ) (many : ℕ) (h : Seats) : Type 0 where
  pub many_is : h.many ≡ many
  pub long_group : length h.group ≡ cap
  pub long_sets : length h.sets ≡ cap
  pub group : (x : ℕ) → x < cap → T (has s x) → at h.group x ≡ at c (place ℕ_discrete x (names cap s))
  pub sets : Sets cap (has s) h.group h.sets

module _ (cap : ℕ) (rows : List ℕ) (went : List Goes) (gone : ℕ) (h : Seats) where
  pub record Returning : Type 0 where
    pub few : length rows ≤ cap
    pub valid : Valid (length rows) (matrix rows)
    pub bound : ℕ
    pub steps : Steps bound (length rows) (matrix rows) (everyone (length rows)) (removed went gone)
    pub fits : Fits (length rows) (matrix rows) (left (everyone (length rows)) (removed went gone)) (seating_of h)
    pub sets : Sets cap (left (everyone (length rows)) (removed went gone)) h.group h.sets
    pub room : h.many + gone ≤ length rows
    pub long_group : length h.group ≡ cap
    pub long_sets : length h.sets ≡ cap

  pub record Returned (r : Seats) : Type 0 where
    pub is : seating_of r ≡ back (length rows) (matrix rows) (everyone (length rows)) (removed went gone) (seating_of h)
    pub sets : Sets cap (everyone (length rows)) r.group r.sets
    pub room : r.many ≤ length rows

pub record Standing (cap n : ℕ) (h : Seats) (room : ℕ) : Type 0 where
  pub few : n ≤ cap
  pub bytes : n ≤ room
  pub below : (x : ℕ) → x < n → at h.group x < cap
  pub sets : Sets cap (λ x. ltb x n) h.group h.sets
