-- The text of a list (document 01, "Texts"): the p line, then a line for each edge, by ends that count from 1; no comments.
--
--   edges_text es      : the e lines of the edges es
--   text_of rows        : the whole text
--   answer_of v x room  : what writing answers, where the rows' verdict is v, their text x, and there is room for so many bytes
--   left_of v x old     : what the lent bytes hold afterwards
--
-- Assumes nothing.
use Rattle.std.specs.Prelude.{ℕ, ◌+◌, List, [], ◌∷◌, ◌++◌, Result, Ok, Err, cond, leb, length}
use Rattle.lines.specs.Numeral.{two_line, over}
use Rattle.refusals.specs.declared.Invalid.{Invalid}
use Rattle.lists.specs.Shape.{p_word, e_word}
use Rattle.lists.specs.Edges.{edges}
use Rattle.lists.specs.declared.Unwritten.{Unwritten}
use Rattle.lists.specs.declared.Unwritten.TheVariants.{OfRows, Full}

abbrev pub edges_text : List (ℕ × ℕ) → List ℕ
edges_text [] = []
edges_text (e ∷ es) = two_line e_word (e.0 + 1) (e.1 + 1) ++ edges_text es

abbrev pub text_of : List ℕ → List ℕ
text_of rows = two_line p_word (length rows) (length (edges rows)) ++ edges_text (edges rows)

-- 1 to 4, then 19
abbrev pub answer_of : Result Unit Invalid → List ℕ → ℕ → Result ℕ Unwritten
answer_of (Ok _) x room = cond (leb (length x) room) (Ok (length x)) (Err Full)
answer_of (Err i) x room = Err (OfRows i)

-- the text from the first byte on and the others as they were; refused: nothing is written
abbrev pub left_of : Result Unit Invalid → List ℕ → List ℕ → List ℕ
left_of (Ok _) x old = cond (leb (length x) (length old)) (over old 0 x) old
left_of (Err i) x old = old
