-- The refusals of a clash text in document 01's and document 02's words, over its lines as they stand.
--
--   PBefore t k n        : a p line that says n entries stands before line k
--   Has plain most t room k f : line k of the lines t has the fault numbered f, where so many rows are lent and a list may have `most` entries; a
--                          repeat is one where `plain` is true
--   list_order           : the order within a line
--   Lacks t f            : at the end, the lines t have the fault numbered f
--   ListRefused plain most longest s room f k c : the clash text s is refused with the number f, the line k and the column c
--
-- Assumes nothing.
use Rattle.std.specs.Prelude.{ℕ, ◌<◌, ◌≡◌, ◌⊎◌, List, [], ◌∷◌, Bool, None, Some, T, eqb}
use Rattle.refusals.specs.Table.{number_of, If}
use Rattle.refusals.specs.declared.Refusal.TheVariants.{Line, Headless, Second, Size, Vertex, Loop, Count, Room, Repeat, Digit, Space, Unended as NoFeed}
use Rattle.lines.specs.Text.{Text, lines_of}
use Rattle.lists.specs.declared.Shape.TheVariants.{P, E}
use Rattle.texts.specs.Faults.{Unended, Outside, Refusal}
use Rattle.texts.specs.Listed.{At, RepeatAt, edge_lines}
use Rattle.texts.specs.ListColumns.{word_due, digit_due, gap_due, Went, ColumnOf}

abbrev pub PBefore : Text → ℕ → ℕ → Type 0
PBefore t k n = (j m : ℕ) × (j < k) × At t j (Some (P n m))

abbrev pub Has : Bool → ℕ → Text → ℕ → ℕ → ℕ → Type 0
Has plain most t room k f =
    -- a word unknown, or an empty line
    If (eqb f (number_of Line)) (Went t k word_due)
    -- where a number must start and no digit stands, or a digit stands after a leading zero or a seventh digit
    (If (eqb f (number_of Digit)) (Went t k digit_due)
    -- any other byte, or a stop, where a space or the line's end could have followed a word or a number
    (If (eqb f (number_of Space)) (Went t k gap_due)
    -- last line unended though otherwise whole
    (If (eqb f (number_of NoFeed)) (Unended t k × ¬ At t k None)
    -- an e line before any p line
    (If (eqb f (number_of Headless)) (((u v : ℕ) × At t k (Some (E u v))) × ((n : ℕ) → ¬ PBefore t k n))
    -- a second p line
    (If (eqb f (number_of Second)) (((n m : ℕ) × At t k (Some (P n m))) × ((n : ℕ) × PBefore t k n))
    -- p line with over 64 entries
    (If (eqb f (number_of Size)) ((n m : ℕ) × At t k (Some (P n m)) × (most < n))
    -- fewer lent rows than n
    (If (eqb f (number_of Room)) ((n m : ℕ) × At t k (Some (P n m)) × (room < n))
    -- an end outside 1 to n
    (If (eqb f (number_of Vertex)) ((u v n : ℕ) × At t k (Some (E u v)) × PBefore t k n × (Outside n u ⊎ Outside n v))
    -- both ends equal
    (If (eqb f (number_of Loop)) ((u : ℕ) × At t k (Some (E u u)))
    -- where repeats are refused: an edge that stands in an earlier line, either way round
    (If (eqb f (number_of Repeat)) (T plain × RepeatAt t k)
    ⊥))))))))))

-- 21, 22 and 23 in the place of 10
abbrev pub list_order : List ℕ
list_order = 10 ∷ 21 ∷ 22 ∷ 23 ∷ 11 ∷ 12 ∷ 13 ∷ 17 ∷ 14 ∷ 15 ∷ 20 ∷ []

abbrev pub Lacks : Text → ℕ → Type 0
Lacks t f =
    -- no p line at all
    If (eqb f (number_of Headless)) ((k n m : ℕ) → ¬ At t k (Some (P n m)))
    -- number of e lines is not the stated one
    (If (eqb f (number_of Count)) ((k n m : ℕ) × At t k (Some (P n m)) × ¬ (edge_lines t ≡ m))
    ⊥)

abbrev pub ListRefused : Bool → ℕ → ℕ → List ℕ → ℕ → ℕ → ℕ → ℕ → Type 0
ListRefused plain most longest s room f k c =
    Refusal longest s (Has plain most (lines_of s) room) list_order (Lacks (lines_of s)) f k × ColumnOf (lines_of s) f k c
