-- A sheet as it was typed: its groups, each a list of its members' numbers in the sheet's order, by the shape of its lines alone (document 01, "Texts").
-- Document 02, Ask 9: of a sheet's own refusals only 18, 30, 35 and 37 are left; 31 to 34 and 36 are what mending puts right.
--
--   step_of c l         : what the line l is, by its place
--   met c              : all counts are met
--   Typed              : the members of this group still to come, and the groups after it; or the first fault, with its line
--   member u t, group t: u in front of the members still to come; these are a group
--   typed_from t line c : the lines t, of which the first is the given line
--   typed_of t          : the lines of a whole sheet
--
-- c is what is still to come: nothing is known before "groups K" was read (None); then how many groups (left), and how many members of this one (need).
-- Assumes nothing.
use Rattle.std.specs.Prelude.{ℕ, ◌+◌, ◌-◌, List, [], ◌∷◌, Bool, true, false, cond, leb, Option, None, Some, Result, Ok, Err}
use Rattle.lines.specs.Text.{Text, done, unended, ended}
use Rattle.lines.specs.Words.{alone_of}
use Rattle.sheets.specs.Check.{groups_word, size_word, behind_of}
use Rattle.sheets.specs.declared.SheetFault.{SheetFault}
use Rattle.sheets.specs.declared.SheetFault.TheVariants.{Line, Ends, Extra}
use Rattle.mends.specs.declared.Counts.{Counts}
use Rattle.mends.specs.declared.Step.{Step}
use Rattle.mends.specs.declared.Step.TheVariants.{Groups, Size, Member}

-- ---- one line

abbrev pub groups_of : Option ℕ → Result Step SheetFault
groups_of None = Err Line
groups_of (Some k) = Ok (Groups (record { left = k; need = 0 }))

-- S is at least 1
abbrev pub size_of : Counts → Option ℕ → Result Step SheetFault
size_of c None = Err Line
size_of c (Some s) = cond (leb 1 s) (Ok (Size (record { left = c.left - 1; need = s }))) (Err Line)

abbrev pub member_of_lem : Counts → Option ℕ → Result Step SheetFault
member_of_lem c None = Err Line
member_of_lem c (Some u) = Ok (Member (record { left = c.left; need = c.need - 1 }) u)

-- the first line is "groups K"; while members are to come a member; then a size, while groups are to come; then there is no line any more
abbrev pub step_of : Option Counts → List ℕ → Result Step SheetFault
step_of None l = groups_of (behind_of groups_word l)
step_of (Some c) l =
    cond (leb 1 c.need) (member_of_lem c (alone_of l))
    (cond (leb 1 c.left) (size_of c (behind_of size_word l))
    (Err Extra))

-- ---- the sheet

abbrev pub met : Option Counts → Bool
met None = false
met (Some c) = cond (leb 1 c.need) false (cond (leb 1 c.left) false true)

pub data Typed : Type 0 where
  is : List ℕ → List (List ℕ) → Typed
  faulty : SheetFault → ℕ → Typed

abbrev pub member : ℕ → Typed → Typed
member u (is us gs) = is (u ∷ us) gs
member u (faulty f k) = faulty f k

abbrev pub group : Typed → Typed
group (is us gs) = is [] (us ∷ gs)
group (faulty f k) = faulty f k

abbrev pub after : Result Step SheetFault → ℕ → (Option Counts → Typed) → Typed
after (Err f) line next = faulty f line
after (Ok (Groups c)) line next = next (Some c)
after (Ok (Size c)) line next = group (next (Some c))
after (Ok (Member c u)) line next = member u (next (Some c))

-- at the end 35, unless all counts are met; a line that is not ended is 37 after the last group, else 30
abbrev pub typed_from : Text → ℕ → Option Counts → Typed
typed_from done line c = cond (met c) (is [] []) (faulty Ends line)
typed_from (unended l) line c = cond (met c) (faulty Extra line) (faulty Line line)
typed_from (ended l t) line c = after (step_of c l) line (typed_from t (line + 1))

-- before the first line
abbrev pub start : Option Counts
start = None

abbrev pub typed_of : Text → Typed
typed_of t = typed_from t 1 start
