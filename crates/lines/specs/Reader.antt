-- A reader: the lent text, the place in it where the reader stands, and the number of the line there, from 1.
--
--   in_text_lem s a       : place a of the text s; past its end, the end
--   next_number_lem s a l : the number after l, where at place a there is a line to leave; at the text's end l stays, as the largest number does
--   start_of t            : the reader of t at its start, on line 1
--   next_of r             : the reader after r: `next`, once
--   at_end_lem r          : there is no line to leave
--   after t k             : the reader of t after k times `next`
--
-- Assumes nothing.
use Rattle.std.specs.Prelude.{ℕ, zero, suc, ◌+◌, List, Bool, cond, not, length, ltb}
use Rattle.std.specs.Borrow.{Bor}
use Rattle.lines.specs.Text.{next_start_lem}
use Rattle.lines.specs.declared.Reader.{Reader}

abbrev pub in_text_lem : List ℕ → ℕ → ℕ
in_text_lem s a = cond (ltb a (length s)) a (length s)

-- the largest number that a line's number can be
abbrev pub largest : ℕ
largest = 18446744073709551615

abbrev pub next_number_lem : List ℕ → ℕ → ℕ → ℕ
next_number_lem s a l = cond (ltb a (length s)) (cond (ltb l largest) (l + 1) l) l

abbrev pub start_of : Bor (List ℕ) → Reader
start_of t = record { text = t; at = 0; line = 1 }

abbrev pub next_of : Reader → Reader
next_of r = record { text = r.text; at = next_start_lem r.text.now r.at; line = next_number_lem r.text.now r.at r.line }

abbrev pub at_end_lem : Reader → Bool
at_end_lem r = not (ltb r.at (length r.text.now))

abbrev pub after : Bor (List ℕ) → ℕ → Reader
after t zero = start_of t
after t (suc k) = next_of (after t k)
