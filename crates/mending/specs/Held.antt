-- A sheet on its way, as the code holds it: a set is a number (sets' `has`).
--
--   going_of g        : what g holds of a sheet on its way
--   full s            : 1 where the set s has a member, else 0
--   Fits n g          : g's groups and the entries that are lifted are together no more than those seen, so there is room for every group
--   Membered n rows g line u r : the member u on this line is gone through, and r is known then
--   cut_of c           : the fault of a line that is not ended
--   dropped_more n seen line u : the given line, where the member u on it is dropped
--   dropped_at n t line c seen : the lines that are dropped of the lines t, of which the first is the given line; up to the first fault
--   run n clash g t   : what comes of a sheet of which t is still to come: all of it gone through, or its fault
--   ran_of r          : what r says came of it
--   HeldBy n s r      : what r has gone through fits, and knows how long the report on dropped lines is: at most 16 bytes for each byte of a sheet
--   ThroughOf n clash s r : r is the sheet s, gone through
--
-- Sets are of `cap` entries (`FitsAt cap`, `MemberedAt cap`); today's are of 64. Assumes nothing.
use Rattle.std.specs.Prelude.{ℕ, ◌+◌, ◌≤◌, ◌≡◌, List, [], Bool, not, cond, eqb, length, Option, Some, Result, Ok, Err}
use Rattle.sets.specs.Lists.{bit, put, over}
use Rattle.sets.specs.Set.{has, size}
use Rattle.clashes.specs.Matrix.{matrix}
use Rattle.lines.specs.Text.{Text, done, unended, ended, lines_of}
use Rattle.sheets.specs.Sound.{Within}
use Rattle.sheets.specs.declared.Refused.{Refused}
use Rattle.sheets.specs.declared.SheetFault.{SheetFault}
use Rattle.sheets.specs.declared.SheetFault.TheVariants.{Line, Extra}
use Rattle.mends.specs.declared.Counts.{Counts}
use Rattle.mends.specs.declared.Step.{Step}
use Rattle.mends.specs.declared.Step.TheVariants.{Groups, Size, Member}
use Rattle.mends.specs.Typed.{step_of, met, Typed, is, faulty, typed_of, start as no_counts}
use Rattle.mends.specs.Mend.{none, Going, taken, sees, member_of_lem, closed, group_of, start as nothing_gone}
use Rattle.mends.specs.Report.{dropped_text}
use Rattle.mending.specs.Groups.{sets_of}
use Rattle.mending.specs.declared.Gone.{Gone}

-- ---- on the way

abbrev pub going_of : Gone → Going
going_of g = record { seen = has g.seen; lifted = has g.lifted; mates = has g.mates; groups = sets_of g.groups }

abbrev pub full : ℕ → ℕ
full s = bit (not (eqb s 0))

pub record FitsAt (cap n : ℕ) (g : Gone) : Type 0 where
  pub room : g.groups.many + size cap g.lifted + full g.mates ≤ size cap g.seen
  pub mates : Within n g.mates
  pub lifted : Within n g.lifted

abbrev pub Fits : ℕ → Gone → Type 0
Fits n g = FitsAt 64 n g

-- ---- the lines that are dropped

abbrev pub cut_of : Option Counts → SheetFault
cut_of c = cond (met c) Extra Line

abbrev pub dropped_more : ℕ → (ℕ → Bool) → ℕ → ℕ → List ℕ
dropped_more n seen line u = put (not (taken n seen u)) line []

abbrev pub MemberedAt : ℕ → ℕ → List ℕ → Gone → ℕ → ℕ → Gone → Type 0
MemberedAt cap n rows g line u r =
    (going_of r ≡ member_of_lem n (matrix rows) (going_of g) u) × FitsAt cap n r × (r.bytes ≡ g.bytes + length (dropped_text (dropped_more n (has g.seen) line u)))

abbrev pub Membered : ℕ → List ℕ → Gone → ℕ → ℕ → Gone → Type 0
Membered n rows g line u r = MemberedAt 64 n rows g line u r

abbrev pub drops_of : ℕ → Result Step SheetFault → ℕ → (ℕ → Bool) → (Option Counts → (ℕ → Bool) → List ℕ) → List ℕ
drops_of n (Err f) line seen next = []
drops_of n (Ok (Groups c)) line seen next = next (Some c) seen
drops_of n (Ok (Size c)) line seen next = next (Some c) seen
drops_of n (Ok (Member c u)) line seen next = put (not (taken n seen u)) line (next (Some c) (sees n seen u))

abbrev pub dropped_at : ℕ → Text → ℕ → Option Counts → (ℕ → Bool) → List ℕ
dropped_at n done line c seen = []
dropped_at n (unended l) line c seen = []
dropped_at n (ended l t) line c seen = drops_of n (step_of c l) line seen (dropped_at n t (line + 1))

-- of a whole sheet
abbrev pub dropped_of : ℕ → List ℕ → List ℕ
dropped_of n s = dropped_at n (lines_of s) 1 no_counts none

-- ---- the sheet

abbrev pub run : ℕ → (ℕ → ℕ → Bool) → Going → Typed → Result Going Refused
run n clash g (is us gs) = Ok (over (group_of n clash) (closed n (over (member_of_lem n clash) g us)) gs)
run n clash g (faulty f k) = Err (record { why = f; line = k })

abbrev pub ran_of : Result Gone Refused → Result Going Refused
ran_of (Ok g) = Ok (going_of g)
ran_of (Err why) = Err why

abbrev pub HeldBy : ℕ → List ℕ → Result Gone Refused → Type 0
HeldBy n s (Ok g) = Fits n g × (g.bytes ≡ length (dropped_text (dropped_of n s))) × (g.bytes ≤ 1048576)
HeldBy n s (Err why) = Unit {0}

pub record ThroughOf (n : ℕ) (clash : ℕ → ℕ → Bool) (s : List ℕ) (r : Result Gone Refused) : Type 0 where
  pub ran : ran_of r ≡ run n clash nothing_gone (typed_of (lines_of s))
  pub held : HeldBy n s r
