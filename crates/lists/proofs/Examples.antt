-- Document 01's small texts, and one for each edge of its wording, by computation.
use Prim.Native.Nat.{ℕ}
use mathlib.Core.Path.{◌≡◌, refl}
use mathlib.Core.List.{List, [], ◌∷◌}
use mathlib.Core.Bool.{true, false}
use lib.ListN.{replicate}
use Rattle.std.specs.Prelude.{Ok}
use Rattle.lines.specs.Numeral.{numeral}
use Rattle.lists.specs.Expect.{spot_of}
use Rattle.lists.specs.Read.{read_of, answer_in, written_of}
use Rattle.lists.specs.Edges.{edges}
use Rattle.lists.specs.Write.{text_of}
use Rattle.lists.specs.Promise.{read_numbers}

-- the empty text is 11 at line 1
empty_text : read_numbers (answer_in (read_of true ([]) 64)) ≡ record { number = 11; place = 1; column = 0; size = 0 }
empty_text = refl

-- "p edge 0 0" with its line feed is a list
no_entries : read_numbers (answer_in (read_of true (112 ∷ 32 ∷ 101 ∷ 100 ∷ 103 ∷ 101 ∷ 32 ∷ 48 ∷ 32 ∷ 48 ∷ 10 ∷ []) 0)) ≡ record
    { number = 0; place = 0; column = 0; size = 0 }
no_entries = refl

-- a lone line feed is one empty line
lone_feed : read_numbers (answer_in (read_of true (10 ∷ []) 64)) ≡ record { number = 10; place = 1; column = 1; size = 0 }
unfolding spot_of
lone_feed = refl

-- the last line lacks its line feed
unended_last : read_numbers (answer_in (read_of true (99 ∷ 32 ∷ 120 ∷ 10 ∷ 112 ∷ 32 ∷ 101 ∷ 100 ∷ 103 ∷ 101 ∷ 32 ∷ 49 ∷ 32 ∷ 48 ∷ []) 64)) ≡ record
    { number = 23; place = 2; column = 11; size = 0 }
unfolding spot_of
unended_last = refl

-- a number with a leading zero
leading_zero : read_numbers (answer_in (read_of true (112 ∷ 32 ∷ 101 ∷ 100 ∷ 103 ∷ 101 ∷ 32 ∷ 51 ∷ 32 ∷ 49 ∷ 10 ∷ 101 ∷ 32 ∷ 48 ∷ 49 ∷ 32 ∷ 51 ∷ 10 ∷ []) 64))
    ≡ record { number = 21; place = 2; column = 4; size = 0 }
unfolding spot_of
leading_zero = refl

-- eight digits, of which the first is a zero
eight_digits : read_numbers (answer_in (read_of true (112 ∷ 32 ∷ 101 ∷ 100 ∷ 103 ∷ 101 ∷ 32 ∷ 51 ∷ 32 ∷ 48 ∷ 48 ∷ 48 ∷ 48 ∷ 48 ∷ 48 ∷ 48 ∷ 49 ∷ 10 ∷ []) 64))
    ≡ record { number = 21; place = 1; column = 11; size = 0 }
unfolding spot_of
eight_digits = refl

-- 65 entries
sixty_five : read_numbers (answer_in (read_of true (112 ∷ 32 ∷ 101 ∷ 100 ∷ 103 ∷ 101 ∷ 32 ∷ 54 ∷ 53 ∷ 32 ∷ 48 ∷ 10 ∷ []) 64)) ≡ record
    { number = 13; place = 1; column = 0; size = 0 }
sixty_five = refl

-- fewer lent rows than n, found at the p line though a later line is faulty
few_rows : read_numbers (answer_in (read_of true (112 ∷ 32 ∷ 101 ∷ 100 ∷ 103 ∷ 101 ∷ 32 ∷ 51 ∷ 32 ∷ 48 ∷ 10 ∷ 120 ∷ 10 ∷ []) 2)) ≡ record
    { number = 17; place = 1; column = 0; size = 0 }
few_rows = refl

-- 11 stands before 14
headless_first : read_numbers (answer_in (read_of true (101 ∷ 32 ∷ 57 ∷ 32 ∷ 57 ∷ 10 ∷ []) 64)) ≡ record { number = 11; place = 1; column = 0; size = 0 }
headless_first = refl

-- one e line more than stated, found at the end
too_many_edges : read_numbers (answer_in (read_of false (
    112 ∷ 32 ∷ 101 ∷ 100 ∷ 103 ∷ 101 ∷ 32 ∷ 51 ∷ 32 ∷ 49 ∷ 10
    ∷ 101 ∷ 32 ∷ 49 ∷ 32 ∷ 51 ∷ 10
    ∷ 101 ∷ 32 ∷ 51 ∷ 32 ∷ 49 ∷ 10
    ∷ []) 64))
    ≡ record { number = 16; place = 4; column = 0; size = 0 }
too_many_edges = refl

-- but 20 comes first, with the line of the second: either way round, or the same way
repeat_turned : read_numbers (answer_in (read_of true (
    112 ∷ 32 ∷ 101 ∷ 100 ∷ 103 ∷ 101 ∷ 32 ∷ 51 ∷ 32 ∷ 49 ∷ 10
    ∷ 101 ∷ 32 ∷ 49 ∷ 32 ∷ 51 ∷ 10
    ∷ 101 ∷ 32 ∷ 51 ∷ 32 ∷ 49 ∷ 10
    ∷ []) 64))
    ≡ record { number = 20; place = 3; column = 0; size = 0 }
repeat_turned = refl

repeat_again : read_numbers (answer_in (read_of true (
    112 ∷ 32 ∷ 101 ∷ 100 ∷ 103 ∷ 101 ∷ 32 ∷ 51 ∷ 32 ∷ 51 ∷ 10
    ∷ 101 ∷ 32 ∷ 49 ∷ 32 ∷ 51 ∷ 10
    ∷ 101 ∷ 32 ∷ 49 ∷ 32 ∷ 50 ∷ 10
    ∷ 101 ∷ 32 ∷ 49 ∷ 32 ∷ 51 ∷ 10
    ∷ []) 64))
    ≡ record { number = 20; place = 4; column = 0; size = 0 }
repeat_again = refl

-- a fault of an earlier line comes before it
loop_before_repeat : read_numbers (answer_in (read_of true (
    112 ∷ 32 ∷ 101 ∷ 100 ∷ 103 ∷ 101 ∷ 32 ∷ 51 ∷ 32 ∷ 51 ∷ 10
    ∷ 101 ∷ 32 ∷ 49 ∷ 32 ∷ 51 ∷ 10
    ∷ 101 ∷ 32 ∷ 50 ∷ 32 ∷ 50 ∷ 10
    ∷ 101 ∷ 32 ∷ 49 ∷ 32 ∷ 51 ∷ 10
    ∷ []) 64))
    ≡ record { number = 15; place = 3; column = 0; size = 0 }
loop_before_repeat = refl

-- a repeated edge, either way round, is counted where it is allowed
both_ways_round : read_numbers (answer_in (read_of false (
    112 ∷ 32 ∷ 101 ∷ 100 ∷ 103 ∷ 101 ∷ 32 ∷ 51 ∷ 32 ∷ 50 ∷ 10
    ∷ 101 ∷ 32 ∷ 49 ∷ 32 ∷ 51 ∷ 10
    ∷ 101 ∷ 32 ∷ 51 ∷ 32 ∷ 49 ∷ 10
    ∷ []) 64))
    ≡ record { number = 0; place = 0; column = 0; size = 3 }
both_ways_round = refl

-- document 01's five-cycle, a line of the text to a line here
abbrev five : List ℕ
five =
    112 ∷ 32 ∷ 101 ∷ 100 ∷ 103 ∷ 101 ∷ 32 ∷ 53 ∷ 32 ∷ 53 ∷ 10
    ∷ 101 ∷ 32 ∷ 49 ∷ 32 ∷ 50 ∷ 10
    ∷ 101 ∷ 32 ∷ 50 ∷ 32 ∷ 51 ∷ 10
    ∷ 101 ∷ 32 ∷ 51 ∷ 32 ∷ 52 ∷ 10
    ∷ 101 ∷ 32 ∷ 52 ∷ 32 ∷ 53 ∷ 10
    ∷ 101 ∷ 32 ∷ 49 ∷ 32 ∷ 53 ∷ 10
    ∷ []

five_cycle : (answer_in (read_of true five 64) ≡ Ok 5) × (written_of (read_of true five 64) (replicate 5 0) ≡ 18 ∷ 5 ∷ 10 ∷ 20 ∷ 9 ∷ [])
five_cycle = (refl, refl)

-- and written, its edges in their order
abbrev written : List ℕ
written =
    112 ∷ 32 ∷ 101 ∷ 100 ∷ 103 ∷ 101 ∷ 32 ∷ 53 ∷ 32 ∷ 53 ∷ 10
    ∷ 101 ∷ 32 ∷ 49 ∷ 32 ∷ 50 ∷ 10
    ∷ 101 ∷ 32 ∷ 49 ∷ 32 ∷ 53 ∷ 10
    ∷ 101 ∷ 32 ∷ 50 ∷ 32 ∷ 51 ∷ 10
    ∷ 101 ∷ 32 ∷ 51 ∷ 32 ∷ 52 ∷ 10
    ∷ 101 ∷ 32 ∷ 52 ∷ 32 ∷ 53 ∷ 10
    ∷ []

five_cycle_text : text_of (18 ∷ 5 ∷ 10 ∷ 20 ∷ 9 ∷ []) ≡ written
unfolding edges numeral
five_cycle_text = refl
