-- The members of a group, one entry at a time.
use Prim.Native.Nat.{ℕ, suc, ◌+◌, ◌≤◌, ◌<◌}
use mathlib.Core.Path.{◌≡◌, refl, ap}
use mathlib.Core.List.{List, [], ◌∷◌}
use mathlib.Core.Bool.{Bool, true, false, cond}
use Rattle.std.specs.Prelude.{filter}
use native.Mathlib.Omega.{arith}
use borrow.Author.Tests.{eq-eqb, ne_eqb}
use lib.Dec.{eqb}
use lib.ListN.{length, drop, get_or, drop_of_length-le}
use Rattle.sets.specs.Lists.{put}
use Rattle.lines.proofs.Basics.{from}
use Rattle.sheet_texts.specs.Sheet.{members_of}

-- ---- one entry

module _ (c : List ℕ) (i g x : ℕ) (h : i < length c) (e : x ≡ get_or c i 0) where
  pub member_yes : x ≡ g → members_of (drop i c) i g ≡ i ∷ members_of (drop (i + 1) c) (i + 1) g
  member_yes z = rw (from c i h, ← e, eq-eqb x g z)

  pub member_no : (x ≡ g → ⊥) → members_of (drop i c) i g ≡ members_of (drop (i + 1) c) (i + 1) g
  member_no z = rw (from c i h, ← e, ne_eqb x g z)

pub member_end : (c : List ℕ) (i g : ℕ) → length c ≤ i → members_of (drop i c) i g ≡ []
member_end c i g h = rw (drop_of_length-le c h)

pub members_le : (c : List ℕ) (i g : ℕ) → length (members_of c i g) ≤ length c
members_le [] i g = omega arith
members_le (x ∷ c) i g = go (eqb x g) (members_le c (i + 1) g)
  where
    go : (b : Bool) → length (members_of c (i + 1) g) ≤ length c → length (put b i (members_of c (i + 1) g)) ≤ suc (length c)
    go true r = omega arith
    go false r = omega arith

-- as many as there are bytes with the group's number
pub members_count : (c : List ℕ) (i g : ℕ) → length (members_of c i g) ≡ length (filter (λ x. eqb x g) c)
members_count [] i g = refl
members_count (x ∷ c) i g = go (eqb x g) (members_count c (i + 1) g)
  where
    go : (b : Bool) → length (members_of c (i + 1) g) ≡ length (filter (λ x. eqb x g) c)
        → length (put b i (members_of c (i + 1) g)) ≡ length (cond b (x ∷ filter (λ x. eqb x g) c) (filter (λ x. eqb x g) c))
    go true r = ap suc r
    go false r = r
