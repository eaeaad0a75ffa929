-- Document 02, Asks 1 and 2: where a line went bad, and what is a comment, by computing. Each text is the one line that its comment shows, with its line
-- feed unless it says unended.
--
--   at r c : refused with r, at line 1 and column c
use Prim.Native.Nat.{ℕ}
use mathlib.Core.Path.{◌≡◌, refl}
use mathlib.Core.List.{List, [], ◌∷◌}
use mathlib.Core.Bool.{true}
use Rattle.lists.specs.Expect.{spot_of}
use Rattle.lists.specs.Read.{read_of, answer_in}
use Rattle.lists.specs.Promise.{Numbers, read_numbers}

abbrev at : ℕ → ℕ → Numbers
at r c = record { number = r; place = 1; column = c; size = 0 }

abbrev read : List ℕ → Numbers
read s = read_numbers (answer_in (read_of true s 64))

-- ""
empty : read (10 ∷ []) ≡ at 10 1
unfolding spot_of
empty = refl

-- "x"
unknown : read (120 ∷ 10 ∷ []) ≡ at 10 1
unfolding spot_of
unknown = refl

-- "p "
p_space : read (112 ∷ 32 ∷ 10 ∷ []) ≡ at 10 3
unfolding spot_of
p_space = refl

-- "p edg"
p_edg : read (112 ∷ 32 ∷ 101 ∷ 100 ∷ 103 ∷ 10 ∷ []) ≡ at 10 6
unfolding spot_of
p_edg = refl

-- "p x"
p_x : read (112 ∷ 32 ∷ 120 ∷ 10 ∷ []) ≡ at 10 3
unfolding spot_of
p_x = refl

-- "e "
e_space : read (101 ∷ 32 ∷ 10 ∷ []) ≡ at 21 3
unfolding spot_of
e_space = refl

-- "e  1 2"
e_two_spaces : read (101 ∷ 32 ∷ 32 ∷ 49 ∷ 32 ∷ 50 ∷ 10 ∷ []) ≡ at 21 3
unfolding spot_of
e_two_spaces = refl

-- "e -1 2"
e_minus : read (101 ∷ 32 ∷ 45 ∷ 49 ∷ 32 ∷ 50 ∷ 10 ∷ []) ≡ at 21 3
unfolding spot_of
e_minus = refl

-- "p edge 03 2"
zero_three : read (112 ∷ 32 ∷ 101 ∷ 100 ∷ 103 ∷ 101 ∷ 32 ∷ 48 ∷ 51 ∷ 32 ∷ 50 ∷ 10 ∷ []) ≡ at 21 9
unfolding spot_of
zero_three = refl

-- "p edge 12345678 0"
eighth_digit : read (112 ∷ 32 ∷ 101 ∷ 100 ∷ 103 ∷ 101 ∷ 32 ∷ 49 ∷ 50 ∷ 51 ∷ 52 ∷ 53 ∷ 54 ∷ 55 ∷ 56 ∷ 32 ∷ 48 ∷ 10 ∷ []) ≡ at 21 15
unfolding spot_of
eighth_digit = refl

-- "p edge 3 "
p_one : read (112 ∷ 32 ∷ 101 ∷ 100 ∷ 103 ∷ 101 ∷ 32 ∷ 51 ∷ 32 ∷ 10 ∷ []) ≡ at 21 10
unfolding spot_of
p_one = refl

-- "p"
p_alone : read (112 ∷ 10 ∷ []) ≡ at 22 2
unfolding spot_of
p_alone = refl

-- "edge 1 2"
edge_word : read (101 ∷ 100 ∷ 103 ∷ 101 ∷ 32 ∷ 49 ∷ 32 ∷ 50 ∷ 10 ∷ []) ≡ at 22 2
unfolding spot_of
edge_word = refl

-- "e1 2"
e_joined : read (101 ∷ 49 ∷ 32 ∷ 50 ∷ 10 ∷ []) ≡ at 22 2
unfolding spot_of
e_joined = refl

-- "p edges 3 2"
edges_word : read (112 ∷ 32 ∷ 101 ∷ 100 ∷ 103 ∷ 101 ∷ 115 ∷ 32 ∷ 51 ∷ 32 ∷ 50 ∷ 10 ∷ []) ≡ at 22 7
unfolding spot_of
edges_word = refl

-- "e 1"
e_one : read (101 ∷ 32 ∷ 49 ∷ 10 ∷ []) ≡ at 22 4
unfolding spot_of
e_one = refl

-- "e 1 2 "
e_trailing : read (101 ∷ 32 ∷ 49 ∷ 32 ∷ 50 ∷ 32 ∷ 10 ∷ []) ≡ at 22 6
unfolding spot_of
e_trailing = refl

-- "e 1 2" and a carriage return
e_return : read (101 ∷ 32 ∷ 49 ∷ 32 ∷ 50 ∷ 13 ∷ 10 ∷ []) ≡ at 22 6
unfolding spot_of
e_return = refl

-- "e 1 2" (unended)
e_unended : read (101 ∷ 32 ∷ 49 ∷ 32 ∷ 50 ∷ []) ≡ at 23 6
unfolding spot_of
e_unended = refl

-- "p ed" (unended)
p_ed_unended : read (112 ∷ 32 ∷ 101 ∷ 100 ∷ []) ≡ at 10 5
unfolding spot_of
p_ed_unended = refl

-- "c " (unended)
c_unended : read (99 ∷ 32 ∷ []) ≡ at 23 3
unfolding spot_of
c_unended = refl

-- a later line: "c" and a space, "p edge 2 1", "e 1"
later : read_numbers (answer_in (read_of true (99 ∷ 32 ∷ 10 ∷ 112 ∷ 32 ∷ 101 ∷ 100 ∷ 103 ∷ 101 ∷ 32 ∷ 50 ∷ 32 ∷ 49 ∷ 10 ∷ 101 ∷ 32 ∷ 49 ∷ 10 ∷ []) 64))
    ≡ record { number = 22; place = 3; column = 4; size = 0 }
unfolding spot_of
later = refl

-- a fault of shape comes before any other of its line: "e 9 9" (unended), before the p line, where both ends are equal
first_of_all : read (101 ∷ 32 ∷ 57 ∷ 32 ∷ 57 ∷ []) ≡ at 23 6
unfolding spot_of
first_of_all = refl

-- and a line before it first: "e 9 9", then "x"
line_before : read_numbers (answer_in (read_of true (101 ∷ 32 ∷ 57 ∷ 32 ∷ 57 ∷ 10 ∷ 120 ∷ 10 ∷ []) 64)) ≡ record { number = 11; place = 1; column = 0; size = 0 }
unfolding spot_of
line_before = refl

-- ---- since Ask 2 a line that begins with c is a comment: each of these, and then "p edge 1 0", is a list

abbrev list : Numbers
list = record { number = 0; place = 0; column = 0; size = 1 }

-- "c"
c_alone : read (99 ∷ 10 ∷ 112 ∷ 32 ∷ 101 ∷ 100 ∷ 103 ∷ 101 ∷ 32 ∷ 49 ∷ 32 ∷ 48 ∷ 10 ∷ []) ≡ list
c_alone = refl

-- "c---"
c_dashes : read (99 ∷ 45 ∷ 45 ∷ 45 ∷ 10 ∷ 112 ∷ 32 ∷ 101 ∷ 100 ∷ 103 ∷ 101 ∷ 32 ∷ 49 ∷ 32 ∷ 48 ∷ 10 ∷ []) ≡ list
c_dashes = refl

-- "comment"
c_word : read (99 ∷ 111 ∷ 109 ∷ 109 ∷ 101 ∷ 110 ∷ 116 ∷ 10 ∷ 112 ∷ 32 ∷ 101 ∷ 100 ∷ 103 ∷ 101 ∷ 32 ∷ 49 ∷ 32 ∷ 48 ∷ 10 ∷ []) ≡ list
c_word = refl

-- "c" and a carriage return
c_return : read (99 ∷ 13 ∷ 10 ∷ 112 ∷ 32 ∷ 101 ∷ 100 ∷ 103 ∷ 101 ∷ 32 ∷ 49 ∷ 32 ∷ 48 ∷ 10 ∷ []) ≡ list
c_return = refl

-- "c" and a NUL byte
c_nul : read (99 ∷ 0 ∷ 10 ∷ 112 ∷ 32 ∷ 101 ∷ 100 ∷ 103 ∷ 101 ∷ 32 ∷ 49 ∷ 32 ∷ 48 ∷ 10 ∷ []) ≡ list
c_nul = refl

-- ---- unended, each is 23, one past its end

-- "c"
c_alone_unended : read (99 ∷ []) ≡ at 23 2
unfolding spot_of
c_alone_unended = refl

-- "c---"
c_dashes_unended : read (99 ∷ 45 ∷ 45 ∷ 45 ∷ []) ≡ at 23 5
unfolding spot_of
c_dashes_unended = refl

-- "comment"
c_word_unended : read (99 ∷ 111 ∷ 109 ∷ 109 ∷ 101 ∷ 110 ∷ 116 ∷ []) ≡ at 23 8
unfolding spot_of
c_word_unended = refl

-- "c" and a carriage return
c_return_unended : read (99 ∷ 13 ∷ []) ≡ at 23 3
unfolding spot_of
c_return_unended = refl

-- "c" and a NUL byte
c_nul_unended : read (99 ∷ 0 ∷ []) ≡ at 23 3
unfolding spot_of
c_nul_unended = refl

-- ---- only the first byte counts: " c" and "pc"

c_after_space : read (32 ∷ 99 ∷ 10 ∷ []) ≡ at 10 1
unfolding spot_of
c_after_space = refl

c_after_p : read (112 ∷ 99 ∷ 10 ∷ []) ≡ at 22 2
unfolding spot_of
c_after_p = refl
