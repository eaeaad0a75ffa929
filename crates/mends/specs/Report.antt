-- What mending prints (document 02, Ask 9): "dropped L" for each dropped line, "put E group G" for each entry that was put again, and the mended sheet.
--
--   dropped_in n seen line us   : the lines that are dropped of the members us, of which the first stands on the given line
--   dropped_lines n seen line gs : the same of whole groups, of which the first has its size on the given line
--   dropped_text lines, put_text c es : the lines of the report; c is the mended sheet's division
--   entry_line e g              : the line of the entry e, put into group g
--   report_text n clash gs      : the report
--   output_text n clash gs      : the whole output
--
-- Assumes nothing.
use Rattle.std.specs.Prelude.{ℕ, ◌+◌, List, [], ◌∷◌, ◌++◌, Bool, not, length}
use Rattle.sets.specs.Lists.{put, over}
use Rattle.clashes.specs.Divisions.{at}
use Rattle.lines.specs.Numeral.{numeral, one_line}
use Rattle.sheet_texts.specs.Sheet.{sheet_text}
use Rattle.mends.specs.Mend.{none, taken, sees, gone, again, mended}

-- ---- the lines that are dropped

abbrev pub dropped_in : ℕ → (ℕ → Bool) → ℕ → List ℕ → List ℕ
dropped_in n seen line [] = []
dropped_in n seen line (u ∷ us) = put (not (taken n seen u)) line (dropped_in n (sees n seen u) (line + 1) us)

abbrev pub dropped_lines : ℕ → (ℕ → Bool) → ℕ → List (List ℕ) → List ℕ
dropped_lines n seen line [] = []
dropped_lines n seen line (us ∷ gs) = dropped_in n seen (line + 1) us ++ dropped_lines n (over (sees n) seen us) (line + 1 + length us) gs

-- ---- the report

-- "dropped ", "put ", " group "
abbrev pub dropped_word : List ℕ
dropped_word = 100 ∷ 114 ∷ 111 ∷ 112 ∷ 112 ∷ 101 ∷ 100 ∷ 32 ∷ []

abbrev pub put_word : List ℕ
put_word = 112 ∷ 117 ∷ 116 ∷ 32 ∷ []

abbrev pub group_word : List ℕ
group_word = 32 ∷ 103 ∷ 114 ∷ 111 ∷ 117 ∷ 112 ∷ 32 ∷ []

-- "by its number"
abbrev pub dropped_text : List ℕ → List ℕ
dropped_text [] = []
dropped_text (line ∷ lines) = one_line dropped_word line ++ dropped_text lines

-- the entry e, put into group g: "G counted from 1 in the mended sheet"; entries count from 1 in texts
abbrev pub entry_line : ℕ → ℕ → List ℕ
entry_line e g = put_word ++ (numeral (e + 1) ++ one_line group_word (g + 1))

abbrev pub put_text : List ℕ → List ℕ → List ℕ
put_text c [] = []
put_text c (e ∷ es) = entry_line e (at c e) ++ put_text c es

-- a sheet's first size stands on line 2
abbrev pub report_text : ℕ → (ℕ → ℕ → Bool) → List (List ℕ) → List ℕ
report_text n clash gs = dropped_text (dropped_lines n none 2 gs) ++ put_text (mended n clash gs) (again n (gone n clash gs))

-- "the mended sheet, which follows in the same output"
abbrev pub output_text : ℕ → (ℕ → ℕ → Bool) → List (List ℕ) → List ℕ
output_text n clash gs = report_text n clash gs ++ sheet_text (mended n clash gs)
