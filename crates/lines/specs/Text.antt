-- Texts as lines, each ended by one line feed.
--
--   Text               : a run of lines: none (done), one that is not ended, or one that is ended and those after it
--   lines_of s         : the lines of the bytes s
--   line_no_lem t k    : line k of the lines t, counted from 0, without its line feed; nothing past the last
--   line_count t       : how many lines t has
--   Within t k         : line k, counted from 1 as in a refusal, is one of the lines t
--   first_line s       : the bytes before the first line feed
--   line_end_lem s a   : where the line that starts at place a ends: at its line feed, or at the text's end
--   next_start_lem s a : where the line after it starts: past its line feed, or at the text's end
--   place_of s k       : where line k starts, counted from 0; past the last, the text's end
--
-- Assumes nothing.
use Rattle.std.specs.Prelude.{ℕ, zero, suc, ◌+◌, ◌≤◌, List, [], ◌∷◌, Bool, true, false, cond, length, drop, eqb, ltb}

pub data Text : Type 0 where
  done : Text
  unended : List ℕ → Text
  ended : List ℕ → Text → Text

-- one byte more at the front of the first line
abbrev pub put : ℕ → Text → Text
put b done = unended (b ∷ [])
put b (unended l) = unended (b ∷ l)
put b (ended l t) = ended (b ∷ l) t

-- a line feed (true) ends an empty line; any other byte belongs to the line
abbrev pub feed : Bool → ℕ → Text → Text
feed true b t = ended [] t
feed false b t = put b t

abbrev pub lines_of : List ℕ → Text
lines_of [] = done
lines_of (b ∷ s) = feed (eqb b 10) b (lines_of s)

abbrev pub line_no_lem : Text → ℕ → List ℕ
line_no_lem done k = []
line_no_lem (unended l) zero = l
line_no_lem (unended l) (suc k) = []
line_no_lem (ended l t) zero = l
line_no_lem (ended l t) (suc k) = line_no_lem t k

abbrev pub line_count : Text → ℕ
line_count done = 0
line_count (unended l) = 1
line_count (ended l t) = suc (line_count t)

abbrev pub Within : Text → ℕ → Type 0
Within t k = (1 ≤ k) × (k ≤ line_count t)

abbrev pub first_line : List ℕ → List ℕ
first_line [] = []
first_line (b ∷ s) = cond (eqb b 10) [] (b ∷ first_line s)

abbrev pub line_end_lem : List ℕ → ℕ → ℕ
line_end_lem s a = a + length (first_line (drop a s))

abbrev pub next_start_lem : List ℕ → ℕ → ℕ
next_start_lem s a = cond (ltb (line_end_lem s a) (length s)) (line_end_lem s a + 1) (length s)

abbrev pub place_of : List ℕ → ℕ → ℕ
place_of s zero = zero
place_of s (suc k) = next_start_lem s (place_of s k)
