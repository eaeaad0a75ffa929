-- What the theorems and the code's promises rely on: removals that the rules allow, in whichever order, and groups without a clash.
--
--   Covered n clash p v u : v and u are two present entries, and every present one that clashes with v clashes with u
--   Few L n clash p v     : v is present, and fewer than L present entries clash with it
--   Allowed L n clash p r : r is a removal that a rule allows
--   Steps L n clash p rs  : each of rs is, when those before it have gone
--   Fits n clash p s      : s has each present entry in one of its groups, and no two that clash in one
--
-- Assumes nothing.
use Rattle.std.specs.Prelude.{◌≢◌, Bool, List, [], ◌∷◌, ℕ, ◌≤◌, ◌<◌, T, length}
use Rattle.clashes.specs.Divisions.{at}
use Rattle.shrink.specs.Rules.{Removal, covered, few, entry, without, clashing}
use Rattle.shrink.specs.Back.{Seating}

pub record Covered (n : ℕ) (clash : ℕ → ℕ → Bool) (p : ℕ → Bool) (v u : ℕ) : Type 0 where
  pub below : v < n
  pub here : T (p v)
  pub other_below : u < n
  pub other : T (p u)
  pub differ : u ≢ v
  pub shared : (w : ℕ) → w < n → T (p w) → T (clash v w) → T (clash u w)

pub record Few (L n : ℕ) (clash : ℕ → ℕ → Bool) (p : ℕ → Bool) (v : ℕ) : Type 0 where
  pub below : v < n
  pub here : T (p v)
  pub less : clashing n clash p v < L

module _ (L n : ℕ) (clash : ℕ → ℕ → Bool) where
  abbrev pub Allowed : (ℕ → Bool) → Removal → Type 0
  Allowed p (covered v u) = Covered n clash p v u
  Allowed p (few v) = Few L n clash p v

  abbrev pub Steps : (ℕ → Bool) → List Removal → Type 0
  Steps p [] = Unit {0}
  Steps p (r ∷ rs) = Allowed p r × Steps (without (entry r) p) rs

pub record Fits (n : ℕ) (clash : ℕ → ℕ → Bool) (p : ℕ → Bool) (s : Seating) : Type 0 where
  pub long : n ≤ length s.group
  pub below : (x : ℕ) → x < n → T (p x) → at s.group x < s.many
  pub apart : (x y : ℕ) → x < n → y < n → T (p x) → T (p y) → T (clash x y) → at s.group x ≢ at s.group y
