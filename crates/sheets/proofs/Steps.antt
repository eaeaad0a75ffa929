-- A line's step by its place.
use Rattle.std.specs.Prelude.{ℕ, ◌≡◌, ◌≤◌, ◌<◌, Bool, List, Option, Some, None}
use borrow.Author.Tests.{le-leb, lt-leb}
use Rattle.lines.specs.Words.{alone_of}
use Rattle.sheets.specs.Check.{groups_word, size_word, behind_of, groups_of, size_of, member_of_lem, step_of}
use Rattle.sheets.specs.declared.Progress.{Progress}

module _ (n : ℕ) (clash : ℕ → ℕ → Bool) where
  pub at_groups : (mates earlier : ℕ → Bool) (l : List ℕ) (a : Option ℕ) → behind_of groups_word l ≡ a → step_of n clash None mates earlier l ≡ groups_of a
  at_groups mates earlier l a e = rw e

  module _ (p : Progress) (mates earlier : ℕ → Bool) (l : List ℕ) (a : Option ℕ) where
    pub at_member : 1 ≤ p.need → alone_of l ≡ a → step_of n clash (Some p) mates earlier l ≡ member_of_lem n clash p mates earlier a
    at_member d e = rw (le-leb 1 p.need d, e)

    pub at_size : p.need < 1 → 1 ≤ p.left → behind_of size_word l ≡ a → step_of n clash (Some p) mates earlier l ≡ size_of p a
    at_size d f e = rw (lt-leb 1 p.need d, le-leb 1 p.left f, e)
