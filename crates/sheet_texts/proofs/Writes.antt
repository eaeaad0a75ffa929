-- A sheet, put piece by piece; and the answers of `write_sheet`.
use Prim.Native.Nat.{ℕ, suc, ◌+◌, ◌-◌, ◌≤◌, ◌<◌}
use mathlib.Core.Path.{◌≡◌, refl, sym, ap, ◌∙◌}
use mathlib.Core.List.{List, ◌++◌}
use native.Mathlib.Omega.{arith}
use lib.ListN.{length, take, drop, length-append}
use lib.Seq.{take_at}
use Rattle.clashes.specs.Divisions.{groups}
use Rattle.lines.specs.Numeral.{one_line, Put}
use Rattle.lines.proofs.Writing.{put_length, put_then}
use Rattle.sheets.specs.Check.{groups_word}
use Rattle.sheet_texts.specs.Sheet.{numbering, group_text, groups_text, sheet_text}

-- ---- two pieces

module _ (o : List ℕ) (a : ℕ) (x y : List ℕ) (h : a + length (x ++ y) ≤ length o) where
  pub head_room : a + length x ≤ length o
  head_room = omega (arith, length-append x y)

  module _ (o₁ : List ℕ) (a₁ : ℕ) (p : Put o a x o₁ a₁) where
    pub rest_room : a₁ + length y ≤ length o₁
    rest_room = omega (arith, length-append x y, p.0, put_length o a x o₁ a₁ head_room p)

    pub both_put : (o₂ : List ℕ) (a₂ : ℕ) → Put o₁ a₁ y o₂ a₂ → Put o a (x ++ y) o₂ a₂
    both_put o₂ a₂ q = put_then o a x o₁ a₁ y o₂ a₂ (omega (arith, length-append x y)) p q

-- ---- the groups

pub groups_more : (c : List ℕ) (g k : ℕ) → g < k → groups_text c g (k - g) ≡ group_text c g ++ groups_text c (g + 1) (k - (g + 1))
groups_more c g k h = let e : k - g ≡ suc (k - (g + 1)) = omega arith in ap (groups_text c g) e

pub groups_end : (c : List ℕ) (g k : ℕ) → k ≤ g → groups_text c g (k - g) ≡ groups_text c g 0
groups_end c g k h = let e : k - g ≡ 0 = omega arith in ap (groups_text c g) e

pub groups_all : (c : List ℕ) (k : ℕ) → groups_text c 0 k ≡ groups_text c 0 (k - 0)
groups_all c k = let e : k ≡ k - 0 = omega arith in ap (groups_text c 0) e

-- "groups K", and then the groups
pub sheet_is : (c : List ℕ) (k : ℕ) → k ≡ groups 0 c → sheet_text c ≡ one_line groups_word k ++ groups_text c 0 k
unfolding sheet_text
sheet_is c k e = rw e

-- ---- the answers

pub composed : (o x new : List ℕ) (n : ℕ) → Put o 0 x new n → take n new ≡ x
composed o x new n p =
    let e : length x ≡ n = omega (arith, p.0) in
    ap (take n) p.1 ∙ take_at x (drop (0 + length x) o) n e
