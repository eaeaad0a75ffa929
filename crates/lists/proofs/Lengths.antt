-- How long a list's text can be: no text of at most 64 rows is longer than 15,576 bytes, which is the text in which every two entries clash.
--
--   digits u        : how many digits u has, below 100
--   line_cost i j   : the bytes of the line of the edge between i and j
--   row_cost i j k  : of the lines of the edges between i and the k entries from j on
--   list_cost n i m : of all edges of the m entries from i on to later ones, of n
use Prim.Native.Nat.{ℕ, zero, suc, ◌+◌, ◌-◌, ◌≤◌, ◌<◌}
use mathlib.Core.Path.{◌≡◌, refl, sym, subst}
use mathlib.Core.List.{List, [], ◌∷◌}
use mathlib.Core.Bool.{Bool, true, false, cond}
use native.Mathlib.Decide.{dec_lt}
use native.Mathlib.Omega.{arith}
use borrow.Author.Tests.{lt-ltb, le-ltb}
use lib.Dec.{ltb}
use lib.ListN.{length, length-append}
use Rattle.sets.specs.Lists.{put}
use Rattle.sets.specs.Set.{has}
use Rattle.lines.specs.Numeral.{numeral, two_line}
use Rattle.lines.proofs.Writing.{length_one, length_2, length_3, length_4, two_digits, two_length}
use Rattle.lists.specs.Shape.{e_word}
use Rattle.lists.specs.Edges.{edges, row_edges, edges_from}
use Rattle.lists.specs.Write.{edges_text, text_of}
use Rattle.lists.proofs.EdgeLaws.{edges_are, text_append}
use Rattle.lists.proofs.EdgeMembers.{edges_le}
use Rattle.lists.proofs.Writes.{text_length}

abbrev digits : ℕ → ℕ
digits u = cond (ltb u 10) 1 2

abbrev line_cost : ℕ → ℕ → ℕ
line_cost i j = 4 + digits (i + 1) + digits (j + 1)

abbrev row_cost : ℕ → ℕ → ℕ → ℕ
row_cost i j zero = 0
row_cost i j (suc k) = line_cost i j + row_cost i (j + 1) k

abbrev list_cost : ℕ → ℕ → ℕ → ℕ
list_cost n i zero = 0
list_cost n i (suc m) = row_cost i (i + 1) (n - (i + 1)) + list_cost n (i + 1) m

-- ---- the lines of edges cost no more

digits_are : (u : ℕ) → u < 100 → length (numeral u) ≤ digits u
digits_are u h = go (dec_lt u 10)
  where
    go : Dec (u < 10) → length (numeral u) ≤ digits u
    go (yes l) = rw (lt-ltb u 10 l) (omega (arith, length_one u l))
    go (no l) = rw (le-ltb u 10 (omega arith)) (two_digits u h)

row-cost : (row i k j : ℕ) → i < j → j + k ≤ 64 → length (edges_text (row_edges row i j k)) ≤ row_cost i j k
row-cost row i zero j l h = omega arith
row-cost row i (suc k) j l h = go (has row j) (row-cost row i k (j + 1) (omega arith) (omega arith))
  where
    go : (b : Bool) → length (edges_text (row_edges row i (j + 1) k)) ≤ row_cost i (j + 1) k
        → length (edges_text (put b (i, j) (row_edges row i (j + 1) k))) ≤ line_cost i j + row_cost i (j + 1) k
    go true r =
        omega (arith, length-append (two_line e_word (i + 1) (j + 1)) (edges_text (row_edges row i (j + 1) k)), two_length e_word (i + 1) (j + 1), digits_are (i + 1) (omega arith), digits_are (j + 1) (omega arith))
    go false r = omega arith

list-cost : (n : ℕ) (rows : List ℕ) (i : ℕ) → n ≤ 64 → i + length rows ≤ n → length (edges_text (edges_from n rows i)) ≤ list_cost n i (length rows)
list-cost n [] i h l = omega arith
list-cost n (row ∷ rows) i h l =
    let x = row_edges row i (i + 1) (n - (i + 1)) in
    let y = edges_from n rows (i + 1) in
    let e = text_append x y in
    rw e (omega (arith, length-append (edges_text x) (edges_text y), row-cost row i (n - (i + 1)) (i + 1) (omega arith) (omega arith), list-cost n rows (i + 1) h (omega arith)))

-- ---- and more of them cost more

row_more : (i j k m : ℕ) → k ≤ m → row_cost i j k ≤ row_cost i j m
row_more i j zero m h = omega arith
row_more i j (suc k) zero h = absurd (omega arith)
row_more i j (suc k) (suc m) h = omega (arith, row_more i (j + 1) k m (omega arith))

list_more : (n o i k m : ℕ) → n ≤ o → k ≤ m → list_cost n i k ≤ list_cost o i m
list_more n o i zero m h l = omega arith
list_more n o i (suc k) zero h l = absurd (omega arith)
list_more n o i (suc k) (suc m) h l =
    omega (arith, row_more i (i + 1) (n - (i + 1)) (o - (i + 1)) (omega arith), list_more n o (i + 1) k m h (omega arith))

cost_64 : list_cost 64 0 64 ≡ 15561
cost_64 = refl

-- ---- the p line

four_digits : (n : ℕ) → n < 10000 → length (numeral n) ≤ 4
four_digits n h = go (dec_lt n 10) (dec_lt n 100) (dec_lt n 1000)
  where
    go : Dec (n < 10) → Dec (n < 100) → Dec (n < 1000) → length (numeral n) ≤ 4
    go (yes a) b c = omega (arith, length_one n a)
    go (no a) (yes b) c = omega (arith, length_2 n (omega arith) b)
    go (no a) (no b) (yes c) = omega (arith, length_3 n (omega arith) c)
    go (no a) (no b) (no c) = omega (arith, length_4 n (omega arith) h)

-- the law
pub list_most : (rows : List ℕ) → length rows ≤ 64 → length (text_of rows) ≤ 15576
list_most rows h =
    let n = length rows in
    let m = length (edges rows) in
    let e : length (edges_text (edges rows)) ≤ list_cost n 0 n = subst (λ (es : List (ℕ × ℕ)). length (edges_text es) ≤ list_cost n 0 n) (sym (edges_are rows)) (list-cost n rows 0 h (omega arith)) in
    omega (arith, text_length rows, list_more n 64 0 n 64 h h, cost_64, two_digits n (omega arith), four_digits m (omega (arith, edges_le rows h)))
