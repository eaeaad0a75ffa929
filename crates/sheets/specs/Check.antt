-- What checking a sheet against a clash list gives (document 01, "Texts" and "Order"): its lines are taken one by one, from what is known so
-- far, until the first faulty one. Entries count from 0 here and from 1 in the texts. No bits: sets are tests, `mates j` says that j is one.
--
--   behind_of w l       : the word w and then one number are the whole line l
--   groups_of a          : what the first line does, of which a stands behind "groups "
--   size_of p a          : what a line at the place of a size does, of which a stands behind "size "
--   member_of_lem n clash p mates earlier a : what a line at the place of a member does, which is a
--   step_of n clash p mates earlier l : what the line l does, by its place
--   met p               : all counts are met
--   finish n p mates earlier colours k : what is found at the sheet's end, where the next line would be line k
--   check_from t n clash k p mates earlier colours : the lines t, of which the first is line k, where the rest is known
--   sheet_of n clash s  : the sheet s, checked against a list of n entries
--   check_of plain list s room : the same against the clash text `list`, where so many colour bytes are lent; `plain` says by which reading the
--                         list is read
--
-- p is what is known of the counts, which is nothing (None) before "groups K" is read: groups and members of this group still to come (left, need),
-- groups opened, whether this group has no member yet (fresh), the first member of the latest group that has one (first, 0 for none), and what the
-- next member has to be above (floor): the member before it in its group, or for a group's first the previous group's first.
-- `mates` are this group's members so far, `earlier` those of the groups before it, `colours` the group number of each.
--
-- What depends on a limit is stated for lists of up to `most` entries and texts of up to `longest` bytes (`sheet_up_to most longest`, .., `check_up_to
-- plain most longest`) and is then named for today's limits (`sheet_of`, .., `check_of`).
-- Assumes nothing.
use Rattle.std.specs.Prelude.{ℕ, ◌+◌, ◌-◌, List, [], ◌∷◌, Bool, true, false, cond, ◌&&◌, ◌||◌, length, drop, set, replicate, leb, ltb, eqb, Option, Some, None, Result, Ok, Err}
use Rattle.sets.specs.Lists.{all, any}
use Rattle.clashes.specs.Matrix.{matrix}
use Rattle.lines.specs.Text.{Text, done, unended, ended, lines_of}
use Rattle.lines.specs.Words.{starts, alone_of}
use Rattle.lists.specs.Read.{inside, most_entries, longest_text, read_up_to}
use Rattle.lists.specs.declared.Gathered.{Gathered}
use Rattle.lists.specs.declared.Unread.{Unread}
use Rattle.sheets.specs.declared.SheetFault.{SheetFault}
use Rattle.sheets.specs.declared.SheetFault.TheVariants.{Long, Line, Member, Order, Twice, Clash, Ends, Missing, Extra}
use Rattle.sheets.specs.declared.Refused.{Refused}
use Rattle.sheets.specs.declared.Unchecked.{Unchecked}
use Rattle.sheets.specs.declared.Unchecked.TheVariants.{OfList, Short, OfSheet}
use Rattle.sheets.specs.declared.Division.{Division}
use Rattle.sheets.specs.declared.Progress.{Progress}
use Rattle.sheets.specs.declared.Step.{Step}
use Rattle.sheets.specs.declared.Step.TheVariants.{Count, Place}

-- ---- the answers

abbrev pub accepted : ℕ → ℕ → List ℕ → Result Division Refused
accepted n k c = Ok (record { groups = k; entries = n; colours = c })

abbrev pub on_line : SheetFault → ℕ → Refused
on_line f k = record { why = f; line = k }

abbrev pub refused : SheetFault → ℕ → Result Division Refused
refused f k = Err (on_line f k)

-- what a sheet is accepted or refused with, as the pair's answer
abbrev pub of_sheet : Result Division Refused → Result Division Unchecked
of_sheet (Ok d) = Ok d
of_sheet (Err r) = Err (OfSheet r)

-- ---- one line

-- "groups " and "size "
abbrev pub groups_word : List ℕ
groups_word = 103 ∷ 114 ∷ 111 ∷ 117 ∷ 112 ∷ 115 ∷ 32 ∷ []

abbrev pub size_word : List ℕ
size_word = 115 ∷ 105 ∷ 122 ∷ 101 ∷ 32 ∷ []

abbrev pub behind_of : List ℕ → List ℕ → Option ℕ
behind_of w l = cond (starts w l) (alone_of (drop (length w) l)) None

abbrev pub groups_of : Option ℕ → Result Step SheetFault
groups_of None = Err Line
groups_of (Some k) = Ok (Count (record { left = k; need = 0; opened = 0; fresh = false; first = 0; floor = 0 }))

-- S is at least 1
abbrev pub size_of : Progress → Option ℕ → Result Step SheetFault
size_of p None = Err Line
size_of p (Some s) =
    cond (leb 1 s)
    (Ok (Count (record { left = p.left - 1; need = s; opened = p.opened + 1; fresh = true; first = p.first; floor = p.first })))
    (Err Line)

-- the counts after the member u
abbrev pub placed : Progress → ℕ → Progress
placed p u = record {
  left = p.left;
  need = p.need - 1;
  opened = p.opened;
  fresh = false;
  first = cond p.fresh u p.first;
  floor = u;
}

-- within a line the order is 30, 31, 32, 33, 34
abbrev pub member_of_lem : ℕ → (ℕ → ℕ → Bool) → Progress → (ℕ → Bool) → (ℕ → Bool) → Option ℕ → Result Step SheetFault
member_of_lem n clash p mates earlier None = Err Line
member_of_lem n clash p mates earlier (Some u) =
    cond (inside n u)
    (cond (ltb p.floor u)
    (cond (earlier (u - 1)) (Err Twice)
    (cond (any n (λ j. mates j && clash (u - 1) j)) (Err Clash)
    (Ok (Place (placed p u) (u - 1) (p.opened - 1)))))
    (Err Order))
    (Err Member)

-- the first line is "groups K"; while members are to come a member; then a size, while groups are to come; then there is no line any more
abbrev pub step_of : ℕ → (ℕ → ℕ → Bool) → Option Progress → (ℕ → Bool) → (ℕ → Bool) → List ℕ → Result Step SheetFault
step_of n clash None mates earlier l = groups_of (behind_of groups_word l)
step_of n clash (Some p) mates earlier l =
    cond (leb 1 p.need) (member_of_lem n clash p mates earlier (alone_of l))
    (cond (leb 1 p.left) (size_of p (behind_of size_word l))
    (Err Extra))

-- ---- the sheet

abbrev pub met : Progress → Bool
met p = cond (leb 1 p.need) false (cond (leb 1 p.left) false true)

abbrev pub none : ℕ → Bool
none j = false

-- before the first line
abbrev pub start : Option Progress
start = None

-- at the end: 35, 36
abbrev pub finish : ℕ → Option Progress → (ℕ → Bool) → (ℕ → Bool) → List ℕ → ℕ → Result Division Refused
finish n None mates earlier colours k = refused Ends k
finish n (Some p) mates earlier colours k =
    cond (met p)
    (cond (all n (λ j. earlier j || mates j)) (accepted n p.opened colours) (refused Missing k))
    (refused Ends k)

-- a line that is not ended: 37 after the last group, else 30
abbrev pub cut : Option Progress → ℕ → Refused
cut None k = on_line Line k
cut (Some p) k = cond (met p) (on_line Extra k) (on_line Line k)

-- after a count the group's members are earlier ones; a member joins its group
abbrev pub after : Result Step SheetFault → ℕ → (ℕ → Bool) → (ℕ → Bool) → List ℕ → (Option Progress → (ℕ → Bool) → (ℕ → Bool) → List ℕ → Result Division Refused) → Result Division Refused
after (Err f) k mates earlier colours next = refused f k
after (Ok (Count p)) k mates earlier colours next = next (Some p) none (λ j. earlier j || mates j) colours
after (Ok (Place p i g)) k mates earlier colours next = next (Some p) (λ j. mates j || eqb i j) earlier (set colours i g)

abbrev pub check_from : Text → ℕ → (ℕ → ℕ → Bool) → ℕ → Option Progress → (ℕ → Bool) → (ℕ → Bool) → List ℕ → Result Division Refused
check_from done n clash k p mates earlier colours = finish n p mates earlier colours k
check_from (unended l) n clash k p mates earlier colours = Err (cut p k)
check_from (ended l t) n clash k p mates earlier colours =
    after (step_of n clash p mates earlier l) k mates earlier colours (check_from t n clash (k + 1))

-- ---- up to `most` entries and `longest` bytes

-- what checking starts from
abbrev pub no_colours_up_to : ℕ → List ℕ
no_colours_up_to most = replicate most 0

module _ (most longest : ℕ) where
  abbrev pub sheet_up_to : ℕ → (ℕ → ℕ → Bool) → List ℕ → Result Division Refused
  sheet_up_to n clash s =
      cond (leb (length s) longest) (check_from (lines_of s) n clash 1 start none none (no_colours_up_to most)) (refused Long 0)

  -- the list's own refusals, then 5, then the sheet
  abbrev pub against_up_to : Result Gathered Unread → List ℕ → ℕ → Result Division Unchecked
  against_up_to (Err u) s room = Err (OfList u)
  against_up_to (Ok f) s room = cond (leb f.n room) (of_sheet (sheet_up_to f.n (matrix f.rows) s)) (Err Short)

-- with as many rows to read into as a list can have, so that 17 cannot arise
abbrev pub check_up_to : Bool → ℕ → ℕ → List ℕ → List ℕ → ℕ → Result Division Unchecked
check_up_to plain most longest list s room = against_up_to most longest (read_up_to plain most longest list most) s room

-- ---- today's limits

abbrev pub no_colours : List ℕ
no_colours = no_colours_up_to most_entries

abbrev pub sheet_of : ℕ → (ℕ → ℕ → Bool) → List ℕ → Result Division Refused
sheet_of n clash s = sheet_up_to most_entries longest_text n clash s

abbrev pub against : Result Gathered Unread → List ℕ → ℕ → Result Division Unchecked
against a s room = against_up_to most_entries longest_text a s room

abbrev pub check_of : Bool → List ℕ → List ℕ → ℕ → Result Division Unchecked
check_of plain list s room = check_up_to plain most_entries longest_text list s room
