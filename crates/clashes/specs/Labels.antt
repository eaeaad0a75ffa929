-- Labels on a list, over any type whose elements can be told apart: which are used, and their numbers by first use.
--
--   when d a b       : a where the decision d is yes, else b
--   member x l       : whether x is one of l's elements
--   add s x          : s, with x behind it unless x stands in s already
--   place x s        : the place of x in s, or s's length where x is not in s
--   distinct s l     : s and then l's elements that are new, each once, in order of first use
--   number s l       : l's elements numbered by first use, where those of s have been used before
--
-- Assumes nothing.
use Rattle.std.specs.Prelude.{◌≡◌, ◌⊎◌, List, [], ◌∷◌, ◌++◌, ℕ, zero, suc}
use Rattle.std.proofs.Common.{inl, inr}
use mathlib.Core.HLevel.{Discrete}
use Rattle.sets.specs.Lists.{In}

abbrev pub when : {P A : Type 0} → Dec P → A → A → A
when (yes p) a b = a
when (no q) a b = b

module _ {A : Type 0} (same : Discrete A) where
  unfoldable pub member : (x : A) (l : List A) → Dec (In x l)
  member x [] = no (λ h. h)
  member x (y ∷ l) = either (same x y) (member x l)
    where
      either : Dec (x ≡ y) → Dec (In x l) → Dec ((x ≡ y) ⊎ In x l)
      either (yes e) q = yes (inl e)
      either (no a) (yes h) = yes (inr h)
      either (no a) (no b) = no (λ s. elim s [ inl e ↦ a e | inr h ↦ b h ])

  abbrev pub add : List A → A → List A
  add s x = when (member x s) s (s ++ x ∷ [])

  abbrev pub place : A → List A → ℕ
  place x [] = zero
  place x (y ∷ s) = when (same x y) zero (suc (place x s))

  abbrev pub distinct : List A → List A → List A
  distinct s [] = s
  distinct s (x ∷ l) = distinct (add s x) l

  abbrev pub number : List A → List A → List ℕ
  number s [] = []
  number s (x ∷ l) = place x s ∷ number (add s x) l
