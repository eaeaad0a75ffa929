-- The very bytes that slotsheet prints for a clash text (document 01, "Texts", at the end): the sheet, or "refused R line L" and a line feed; with
-- " column C" after the line for the refusals that have one (document 02, Ask 1).
--
--   budget             : 1,000,000, the nodes that the walk may enter
--   told_text r k c    : the line of the refusal r at the line k and the column c, where the table says that these are returned with it
--   refused_text r l c : the same by the numbers, with 0 for a column that is not named
--   rows_text rows     : for a list: the sheet of the described walk's best division, where that walk has no more nodes than the budget; else 6
--   printed plain s    : for the text s: its own refusal, or what is printed for its list; repeats are refused where `plain` is true, else allowed
--   IsText x t         : t holds the bytes x
--   Writes x old a new : x is written from the first of the bytes old on, which leaves the bytes new, and a has its length; or it does not fit, and nothing is written
--   AnswerPromise plain s old a new : what slotsheet prints for s is written so; without --repeats it reads plainly
--   LongPromise old a new     : the same for each text that is too long, by both readings
--
-- That the sheet is that of the fewest sittings, and what a refusal means, follows from what the calls promise (proofs/Calls.antt). Assumes nothing.
use Rattle.std.specs.Prelude.{ℕ, ◌≤◌, ◌<◌, ◌≡◌, List, [], ◌∷◌, ◌++◌, Bool, cond, leb, eqb, length, take, Result, Ok, Err}
use Rattle.refusals.specs.Table.{Beside, nothing, a_row, the_nodes, a_line, a_spot, an_index, Told, entry, told_at}
use Rattle.refusals.specs.declared.Refusal.{Refusal}
use Rattle.refusals.specs.declared.Refusal.TheVariants as refusal
use Rattle.clashes.specs.Matrix.{matrix}
use Rattle.bounds.specs.Names.{mycielskian}
use Rattle.zykov.specs.Walk.{State, bounded_walk_lem}
use Rattle.lines.specs.Numeral.{numeral, one_line, over}
use Rattle.lists.specs.Read.{longest_text, read_of}
use Rattle.lists.specs.Promise.{refusal_of_lem}
use Rattle.lists.specs.declared.Gathered.{Gathered}
use Rattle.lists.specs.declared.Unread.{Unread}
use Rattle.sheet_texts.specs.Sheet.{sheet_text}
use Rattle.sheet_texts.specs.declared.Composed.{Composed}
use Rattle.answers.specs.declared.Full.{Full}

abbrev pub budget : ℕ
budget = 1000000

-- "refused ", " line " and " column "
abbrev pub refused_word : List ℕ
refused_word = 114 ∷ 101 ∷ 102 ∷ 117 ∷ 115 ∷ 101 ∷ 100 ∷ 32 ∷ []

abbrev pub line_word : List ℕ
line_word = 32 ∷ 108 ∷ 105 ∷ 110 ∷ 101 ∷ 32 ∷ []

abbrev pub column_word : List ℕ
column_word = 32 ∷ 99 ∷ 111 ∷ 108 ∷ 117 ∷ 109 ∷ 110 ∷ 32 ∷ []

-- a line, and a line and a column
abbrev pub line_text : ℕ → List ℕ
line_text l = one_line line_word l

abbrev pub spot_text : ℕ → ℕ → List ℕ
spot_text l c = line_word ++ (numeral l ++ one_line column_word c)

-- "for these kinds slotsheet adds " column C" to its line"
abbrev pub beside_text : Beside → Told → List ℕ
beside_text nothing t = line_text t.line
beside_text a_row t = line_text t.line
beside_text the_nodes t = line_text t.line
beside_text a_line t = line_text t.line
beside_text a_spot t = spot_text t.line t.column
beside_text an_index t = line_text t.line

abbrev pub told_text : Refusal → ℕ → ℕ → List ℕ
told_text r k c = refused_word ++ (numeral (told_at r k c).number ++ beside_text (entry r).beside (told_at r k c))

-- the same from the numbers alone: the column of every other refusal is 0
abbrev pub place_text : ℕ → ℕ → List ℕ
place_text l c = cond (eqb c 0) (line_text l) (spot_text l c)

abbrev pub refused_text : ℕ → ℕ → ℕ → List ℕ
refused_text r l c = refused_word ++ (numeral r ++ place_text l c)

-- the walk, and what comes of it
abbrev pub walk_text : State → List ℕ
walk_text w =
    cond (leb w.nodes budget) (sheet_text w.best)
    (told_text refusal.Budget budget 0)

unfoldable pub rows_text : List ℕ → List ℕ
rows_text rows = walk_text (bounded_walk_lem mycielskian (length rows) (matrix rows))

abbrev pub read_text : Result Gathered Unread → List ℕ
read_text (Ok list) = rows_text (take list.n list.rows)
read_text (Err u) = told_text (refusal_of_lem u.why) u.line u.column

-- with 64 rows to read into, so that 17 cannot arise
unfoldable pub printed : Bool → List ℕ → List ℕ
printed plain s = read_text (read_of plain s 64)

pub record IsText (x : List ℕ) (t : Composed) : Type 0 where
  pub fits : t.length ≤ 768
  pub long : t.length ≡ length x
  pub is : take t.length t.bytes ≡ x

pub record Writes (x old : List ℕ) (a : Result ℕ Full) (new : List ℕ) : Type 0 where
  pub answer : a ≡ cond (leb (length x) (length old)) (Ok (length x)) (Err (record {}))
  pub lent : new ≡ cond (leb (length x) (length old)) (over old 0 x) old

-- what `fit` promises of any composed text
abbrev pub Fitted : Composed → List ℕ → Result ℕ Full → List ℕ → Type 0
Fitted t old a new = (x : List ℕ) → IsText x t → Writes x old a new

abbrev pub AnswerPromise : Bool → List ℕ → List ℕ → Result ℕ Full → List ℕ → Type 0
AnswerPromise plain s old a new = Writes (printed plain s) old a new

abbrev pub LongPromise : List ℕ → Result ℕ Full → List ℕ → Type 0
LongPromise old a new = (plain : Bool) (s : List ℕ) → longest_text < length s → AnswerPromise plain s old a new
