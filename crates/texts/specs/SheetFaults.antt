-- The refusals of a sheet in document 01's words, over its lines as they stand. What a line has to be depends on what those before it say.
--
--   Kind, kind_at t k  : what a line says, whatever its place: "groups K", "size S", one member, or none of these; of line k, counted from 1
--   Group             : a stated size and the members so far, by their numbers in the text, latest first
--   Saying            : what lines can say: nothing, there being none; or K and the groups so far, latest first
--   laid x            : the kinds of the lines that say x, latest first
--   before t i        : the kinds of the first i lines of t, latest first
--   need_of gs         : members of the latest group still to come
--   GroupsPlace x, SizePlace x, MemberPlace x, OverPlace x : after lines that say x comes "groups K", a size, a member, or no line any more
--   floor_of gs       : what the next member has to be above: the member before it in its group, or the previous group's first (0: none)
--   now_of gs, earlier_of gs : the latest group's members; the groups before it
--   HasAt n clash t k x f : line k has the fault numbered f, where the lines before it say x
--   Has n clash t k f : the same, where they say anything at all
--   sheet_order       : the order within a line
--   Lacks n t f       : at the end, the lines t have the fault numbered f
--   SheetRefused longest n clash s f k : the sheet s is refused with the number f and the line k
--
-- Assumes nothing.
use Rattle.std.specs.Prelude.{ℕ, zero, suc, ◌-◌, ◌≤◌, ◌<◌, ◌≡◌, ◌⊎◌, List, [], ◌∷◌, Bool, Option, None, Some, T, eqb, length}
use Rattle.sets.specs.Lists.{In}
use Rattle.refusals.specs.Table.{number_of, If}
use Rattle.refusals.specs.declared.Refusal.TheVariants.{SheetLine, Member, Order, Twice, Clash, Ends, Missing, Extra}
use Rattle.lines.specs.Text.{Text, lines_of, line_no_lem, line_count}
use Rattle.lines.specs.Words.{alone_of}
use Rattle.sheets.specs.Check.{groups_word, size_word, behind_of}
use Rattle.texts.specs.Faults.{Unended, Outside, Refusal}

-- ---- what a line says

pub data Kind : Type 0 where
  groups_line : ℕ → Kind
  size_line : ℕ → Kind
  member_line : ℕ → Kind
  no_line : Kind

-- the kind of a number that is found, else what else it is
abbrev pub found : Option ℕ → (ℕ → Kind) → Kind → Kind
found (Some v) kind else = kind v
found None kind else = else

abbrev pub kind_of : List ℕ → Kind
kind_of l = found (behind_of groups_word l) groups_line (found (behind_of size_word l) size_line (found (alone_of l) member_line no_line))

abbrev pub kind_at : Text → ℕ → Kind
kind_at t zero = no_line
kind_at t (suc i) = kind_of (line_no_lem t i)

-- ---- what lines say

pub record Group : Type 0 where
  pub size : ℕ
  pub members : List ℕ

pub data Saying : Type 0 where
  nothing : Saying
  says : ℕ → List Group → Saying

abbrev pub groups_of : Saying → List Group
groups_of nothing = []
groups_of (says k gs) = gs

abbrev pub laid_group : ℕ → List ℕ → List Kind → List Kind
laid_group s [] rest = size_line s ∷ rest
laid_group s (u ∷ us) rest = member_line u ∷ laid_group s us rest

abbrev pub laid_groups : ℕ → List Group → List Kind
laid_groups k [] = groups_line k ∷ []
laid_groups k (g ∷ gs) = laid_group g.size g.members (laid_groups k gs)

abbrev pub laid : Saying → List Kind
laid nothing = []
laid (says k gs) = laid_groups k gs

abbrev pub before : Text → ℕ → List Kind
before t zero = []
before t (suc i) = kind_at t (suc i) ∷ before t i

-- ---- places

abbrev pub need_of : List Group → ℕ
need_of [] = 0
need_of (g ∷ gs) = g.size - length g.members

abbrev pub GroupsPlace : Saying → Type 0
GroupsPlace nothing = Unit {0}
GroupsPlace (says k gs) = ⊥

abbrev pub MemberPlace : Saying → Type 0
MemberPlace nothing = ⊥
MemberPlace (says k gs) = 1 ≤ need_of gs

abbrev pub SizePlace : Saying → Type 0
SizePlace nothing = ⊥
SizePlace (says k gs) = (need_of gs < 1) × (length gs < k)

abbrev pub OverPlace : Saying → Type 0
OverPlace nothing = ⊥
OverPlace (says k gs) = (need_of gs < 1) × (k ≤ length gs)

-- the first of members that are given latest first
abbrev pub earliest : ℕ → List ℕ → ℕ
earliest v [] = v
earliest v (w ∷ us) = earliest w us

abbrev pub first_in : List ℕ → ℕ → ℕ
first_in [] f = f
first_in (v ∷ us) f = earliest v us

-- the first of the latest group that has one
abbrev pub first_of : List Group → ℕ
first_of [] = 0
first_of (g ∷ gs) = first_in g.members (first_of gs)

abbrev pub floor_in : List ℕ → ℕ → ℕ
floor_in [] f = f
floor_in (v ∷ us) f = v

abbrev pub floor_of : List Group → ℕ
floor_of [] = 0
floor_of (g ∷ gs) = floor_in g.members (first_of gs)

abbrev pub now_of : List Group → List ℕ
now_of [] = []
now_of (g ∷ gs) = g.members

abbrev pub earlier_of : List Group → List Group
earlier_of [] = []
earlier_of (g ∷ gs) = gs

abbrev pub StandsIn : List Group → ℕ → Type 0
StandsIn [] u = ⊥
StandsIn (g ∷ gs) u = In u g.members ⊎ StandsIn gs u

-- ---- faults of a line

-- v is a member before u in its group, and they clash; entries count from 0 in the list
abbrev pub ClashIn : (ℕ → ℕ → Bool) → List ℕ → ℕ → Type 0
ClashIn clash us u = (v : ℕ) × In v us × T (clash (u - 1) (v - 1))

-- a line of this kind is not what comes after x; a size is at least 1
abbrev pub Misshaped : Saying → Kind → Type 0
Misshaped x kind =
    (GroupsPlace x × ((k : ℕ) → ¬ (kind ≡ groups_line k)))
    ⊎ (SizePlace x × ((s : ℕ) → 1 ≤ s → ¬ (kind ≡ size_line s)))
    ⊎ (MemberPlace x × ((u : ℕ) → ¬ (kind ≡ member_line u)))

-- line k is the member u
abbrev pub MemberAt : Text → ℕ → Saying → ℕ → Type 0
MemberAt t k x u = MemberPlace x × (kind_at t k ≡ member_line u)

abbrev pub HasAt : ℕ → (ℕ → ℕ → Bool) → Text → ℕ → Saying → ℕ → Type 0
HasAt n clash t k x f =
    -- wrong shape for this place, or last line unended
    If (eqb f (number_of SheetLine)) (Misshaped x (kind_at t k) ⊎ (Unended t k × ¬ OverPlace x))
    -- member outside 1 to n
    (If (eqb f (number_of Member)) ((u : ℕ) × MemberAt t k x u × Outside n u)
    -- not above the member before it in its group, or a group's first not above the previous group's first
    (If (eqb f (number_of Order)) ((u : ℕ) × MemberAt t k x u × (u ≤ floor_of (groups_of x)))
    -- member stands in an earlier group
    (If (eqb f (number_of Twice)) ((u : ℕ) × MemberAt t k x u × StandsIn (earlier_of (groups_of x)) u)
    -- member clashes with an earlier one of its group
    (If (eqb f (number_of Clash)) ((u : ℕ) × MemberAt t k x u × ClashIn clash (now_of (groups_of x)) u)
    -- a line after the last group, ended or not
    (If (eqb f (number_of Extra)) (OverPlace x)
    ⊥)))))

abbrev pub Has : ℕ → (ℕ → ℕ → Bool) → Text → ℕ → ℕ → Type 0
Has n clash t zero f = ⊥
Has n clash t (suc i) f = (x : Saying) × (before t i ≡ laid x) × HasAt n clash t (suc i) x f

-- where 37 is, there is no other
abbrev pub sheet_order : List ℕ
sheet_order = 30 ∷ 31 ∷ 32 ∷ 33 ∷ 34 ∷ 37 ∷ []

-- ---- faults at the end

abbrev pub LacksAt : ℕ → Saying → ℕ → Type 0
LacksAt n x f =
    -- sheet empty, or ends before its counts are met
    If (eqb f (number_of Ends)) (¬ OverPlace x)
    -- all counts met, an entry absent
    (If (eqb f (number_of Missing)) (OverPlace x × ((u : ℕ) × (1 ≤ u) × (u ≤ n) × ¬ StandsIn (groups_of x) u))
    ⊥)

abbrev pub Lacks : ℕ → Text → ℕ → Type 0
Lacks n t f = (x : Saying) × (before t (line_count t) ≡ laid x) × LacksAt n x f

abbrev pub SheetRefused : ℕ → ℕ → (ℕ → ℕ → Bool) → List ℕ → ℕ → ℕ → Type 0
SheetRefused longest n clash s f k = Refusal longest s (Has n clash (lines_of s)) sheet_order (Lacks n (lines_of s)) f k
