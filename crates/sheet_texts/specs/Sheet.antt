-- The text of a sheet (document 01, "Texts"): "groups K"; then the groups by smallest member, each "size S" and its members, rising, one a
-- line. Colour bytes give each entry's group number (clashes' `Divisions`); entries count from 0 here and from 1 in the text.
--
--   number_from m i c : the colour bytes c, of which the first is entry i's, where m numbers have been used before: how many are used in all,
--                       or the lowest entry whose number is neither used before nor the next one
--   numbering c       : the same for all colour bytes
--   members_of c i g   : the entries of group g among c, of which the first is entry i's
--   member_lines l    : a line for each entry of l
--   group_text c g    : group g's size and members
--   groups_text c g k : k groups, of which the first is group g
--   sheet_text c      : the whole sheet
--   clash_line c clash : the line of that sheet's first member that clashes with an earlier one of its group, if there is one
--
-- `numbering` goes by `Canon` and `groups` (proofs/FirstUse.antt). Assumes nothing.
use Rattle.std.specs.Prelude.{ℕ, zero, suc, ◌+◌, max, List, [], ◌∷◌, ◌++◌, Bool, cond, length, leb, eqb, Result, Ok, Err}
use Rattle.std.proofs.Math.Option.{Option, none, some}
use Rattle.sets.specs.Lists.{put, some?}
use Rattle.clashes.specs.Divisions.{groups}
use Rattle.lines.specs.Numeral.{one_line}
use Rattle.sheets.specs.Check.{groups_word, size_word}

abbrev pub number_from : ℕ → ℕ → List ℕ → Result ℕ ℕ
number_from m i [] = Ok m
number_from m i (x ∷ c) = cond (leb x m) (number_from (max m (suc x)) (i + 1) c) (Err i)

abbrev pub numbering : List ℕ → Result ℕ ℕ
numbering c = number_from 0 0 c

abbrev pub members_of : List ℕ → ℕ → ℕ → List ℕ
members_of [] i g = []
members_of (x ∷ c) i g = put (eqb x g) i (members_of c (i + 1) g)

abbrev pub member_lines : List ℕ → List ℕ
member_lines [] = []
member_lines (i ∷ l) = one_line [] (i + 1) ++ member_lines l

abbrev pub group_text : List ℕ → ℕ → List ℕ
group_text c g = one_line size_word (length (members_of c 0 g)) ++ member_lines (members_of c 0 g)

abbrev pub groups_text : List ℕ → ℕ → ℕ → List ℕ
groups_text c g zero = []
groups_text c g (suc k) = group_text c g ++ groups_text c (g + 1) k

unfoldable pub sheet_text : List ℕ → List ℕ
sheet_text c = one_line groups_word (groups 0 c) ++ groups_text c 0 (groups 0 c)

-- ---- the first clash

-- the members l, after those of the group that were seen, from a line on
abbrev pub clash_in : (ℕ → ℕ → Bool) → List ℕ → List ℕ → ℕ → Option ℕ
clash_in clash seen [] line = none
clash_in clash seen (i ∷ l) line = cond (some? (clash i) seen) (some line) (clash_in clash (i ∷ seen) l (line + 1))

abbrev pub or_else : Option ℕ → Option ℕ → Option ℕ
or_else none y = y
or_else (some x) y = some x

-- k groups from group g on, whose first line is given: its size, and then its members
abbrev pub clash_from : (ℕ → ℕ → Bool) → List ℕ → ℕ → ℕ → ℕ → Option ℕ
clash_from clash c g zero line = none
clash_from clash c g (suc k) line =
    or_else (clash_in clash [] (members_of c 0 g) (line + 1)) (clash_from clash c (g + 1) k (line + 1 + length (members_of c 0 g)))

-- the groups start at line 2
unfoldable pub clash_line : (ℕ → ℕ → Bool) → List ℕ → Option ℕ
clash_line clash c = clash_from clash c 0 (groups 0 c) 2
