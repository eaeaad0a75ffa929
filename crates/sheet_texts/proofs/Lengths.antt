-- How long a sheet can be: no sheet of at most 64 entries is longer than 641 bytes, which is the sheet in which each entry is alone.
--
-- A group's size line has 6 bytes and the digits of S, so no more than 7 bytes for each of its S members. So each entry brings at most 7 bytes and
-- its own line, whichever its group is; no entry is in two groups; and "groups K" comes first.
--
--   cost i          : the most that entry i brings: 7 bytes, and its line
--   weigh w l       : the sum of w over the list l
--   span w i n      : the sum of w over i to i + n - 1
--   total w c i g k : the sum of w over the members of k groups from group g on, among c, of which the first is entry i's
use Prim.Native.Nat.{ℕ, zero, suc, ◌+◌, ◌*◌, ◌≤◌, ◌<◌}
use mathlib.Core.Path.{◌≡◌, refl, ap, subst}
use mathlib.Core.List.{List, [], ◌∷◌}
use mathlib.Core.Bool.{Bool, true, false}
use native.Mathlib.Decide.{dec_le}
use native.Mathlib.Omega.{arith}
use borrow.Author.Tests.{eqb-true, ne_eqb}
use lib.Dec.{eqb}
use lib.ListN.{length, length-append}
use Rattle.sets.specs.Lists.{put, table}
use Rattle.clashes.specs.Divisions.{Canon, groups}
use Rattle.clashes.proofs.DivisionLaws.{groups_fit}
use Rattle.lines.specs.Numeral.{numeral, one_line}
use Rattle.lines.proofs.Writing.{one_length, length_one, two_digits}
use Rattle.lines.proofs.Back.{numeral_length}
use Rattle.lists.specs.Read.{most_entries, longest_text}
use Rattle.sheets.specs.Check.{groups_word, size_word}
use Rattle.sheet_texts.specs.Sheet.{members_of, member_lines, group_text, groups_text, sheet_text}
use Rattle.sheet_texts.proofs.Groups.{group_led}

abbrev weigh : (ℕ → ℕ) → List ℕ → ℕ
weigh w [] = 0
weigh w (i ∷ l) = w i + weigh w l

abbrev span : (ℕ → ℕ) → ℕ → ℕ → ℕ
span w i zero = 0
span w i (suc n) = w i + span w (i + 1) n

abbrev total : (ℕ → ℕ) → List ℕ → ℕ → ℕ → ℕ → ℕ
total w c i g zero = 0
total w c i g (suc k) = weigh w (members_of c i g) + total w c i (g + 1) k

-- ---- no entry is in two groups

module _ (w : ℕ → ℕ) where
  -- an entry of an earlier group is in none of these
  total_below : (x : ℕ) (c : List ℕ) (i g k : ℕ) → x < g → total w (x ∷ c) i g k ≡ total w c (i + 1) g k
  total_below x c i g zero h = refl
  total_below x c i g (suc k) h =
      let r = total_below x c i (g + 1) k (omega arith) in
      let e : weigh w (members_of (x ∷ c) i g) ≡ weigh w (members_of c (i + 1) g) = rw (ne_eqb x g (λ z. omega arith)) in
      omega arith

  total_cons : (x : ℕ) (c : List ℕ) (i g k : ℕ) → total w (x ∷ c) i g k ≤ w i + total w c (i + 1) g k
  total_cons x c i g zero = omega arith
  total_cons x c i g (suc k) = go (eqb x g) refl (total_cons x c i (g + 1) k)
    where
      go : (b : Bool) → eqb x g ≡ b → total w (x ∷ c) i (g + 1) k ≤ w i + total w c (i + 1) (g + 1) k
          → weigh w (put b i (members_of c (i + 1) g)) + total w (x ∷ c) i (g + 1) k ≤ w i + (weigh w (members_of c (i + 1) g) + total w c (i + 1) (g + 1) k)
      go true e r = let z = eqb-true x g e in let t = total_below x c i (g + 1) k (omega arith) in omega arith
      go false e r = omega arith

  total_none : (i g k : ℕ) → total w [] i g k ≡ 0
  total_none i g zero = refl
  total_none i g (suc k) = omega (arith, total_none i (g + 1) k)

  total_le : (c : List ℕ) (i g k : ℕ) → total w c i g k ≤ span w i (length c)
  total_le [] i g k = omega (arith, total_none i g k)
  total_le (x ∷ c) i g k = omega (arith, total_cons x c i g k, total_le c (i + 1) g k)

  span_more : (i n m : ℕ) → n ≤ m → span w i n ≤ span w i m
  span_more i zero m h = omega arith
  span_more i (suc n) zero h = absurd (omega arith)
  span_more i (suc n) (suc m) h = omega (arith, span_more (i + 1) n m (omega arith))

-- ---- a group

abbrev cost : ℕ → ℕ
cost i = 7 + length (one_line [] (i + 1))

lines_cost : (l : List ℕ) → 7 * length l + length (member_lines l) ≡ weigh cost l
lines_cost [] = omega arith
lines_cost (i ∷ l) = omega (arith, lines_cost l, length-append (one_line [] (i + 1)) (member_lines l))

size_most : (s : ℕ) → 1 ≤ s → length (one_line size_word s) ≤ 7 * s
size_most s h = go (dec_le 2 s)
  where
    go : Dec (2 ≤ s) → length (one_line size_word s) ≤ 7 * s
    go (yes l) = omega (arith, one_length size_word s, (numeral_length s).1)
    go (no l) = omega (arith, one_length size_word s, length_one s (omega arith))

module _ (c : List ℕ) (canon : Canon 0 c) where
  group_most : (g : ℕ) → g < groups 0 c → length (group_text c g) ≤ weigh cost (members_of c 0 g)
  group_most g h =
      let m = members_of c 0 g in
      let some : 1 ≤ length m = omega (arith, ap length (group_led c g canon h).whole) in
      omega (arith, length-append (one_line size_word (length m)) (member_lines m), size_most (length m) some, lines_cost m)

  groups_most : (k g : ℕ) → g + k ≤ groups 0 c → length (groups_text c g k) ≤ total cost c 0 g k
  groups_most zero g h = omega arith
  groups_most (suc k) g h =
      omega (arith, length-append (group_text c g) (groups_text c (g + 1) k), group_most g (omega arith), groups_most k (g + 1) (omega arith))

  -- for any number of entries
  sheet_cost : length (sheet_text c) ≤ length (one_line groups_word (groups 0 c)) + span cost 0 (length c)
  unfolding sheet_text
  sheet_cost =
      let k = groups 0 c in
      omega (arith, length-append (one_line groups_word k) (groups_text c 0 k), groups_most k 0 (omega arith), total_le cost c 0 0 k)

-- ---- at most 64 entries

span_64 : span cost 0 64 ≡ 631
unfolding numeral
span_64 = refl

-- the law
pub sheet_most : (c : List ℕ) → Canon 0 c → length c ≤ 64 → length (sheet_text c) ≤ 641
sheet_most c canon h =
    let k = groups 0 c in
    let f = groups_fit 0 c canon in
    let s : span cost 0 (length c) ≤ 631 = subst (λ (x : ℕ). span cost 0 (length c) ≤ x) span_64 (span_more cost 0 (length c) 64 h) in
    omega (arith, sheet_cost c canon, one_length groups_word k, two_digits k (omega arith))

-- so long is the sheet of 64 entries that are alone
longest : length (sheet_text (table (λ i. i) 64)) ≡ 641
unfolding sheet_text numeral
longest = refl

pub sheet_fits : (c : List ℕ) → Canon 0 c → length c ≤ most_entries → length (sheet_text c) ≤ longest_text
sheet_fits c canon h = omega (arith, sheet_most c canon h)
