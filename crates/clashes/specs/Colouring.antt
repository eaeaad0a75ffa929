-- Document 000, section 1. A list of n entries, 0 to n - 1, is given by `clash`: whether two of them clash. No search, no bits.
--
--   a labelling f        : f gives each entry an integer
--   Proper n clash f     : f is a colouring: different labels on each clash
--   cardinality n f      : how many labels f puts on the entries
--   Chromatic n clash k  : k is the cardinality of a smallest colouring
--   labels_on vs f       : how many labels f puts on the entries vs
--   Lower n live clash b : no colouring puts fewer than b labels on the entries that pass the test `live`
--
-- Integers are document 000's labels; what does not need them holds over any labels that can be told apart. Assumes nothing.
use Rattle.std.specs.Prelude.{◌≡◌, ◌≢◌, Bool, List, [], map, ℕ, ◌≤◌, ◌<◌, T, length, ℤ}
use mathlib.Core.HLevel.{Discrete}
use Rattle.std.proofs.Math.IntN.{ℤ_discrete}
use Rattle.sets.specs.Lists.{table, members}
use Rattle.clashes.specs.Labels.{distinct}

abbrev pub Proper : {A : Type 0} → ℕ → (ℕ → ℕ → Bool) → (ℕ → A) → Type 0
Proper n clash f = (x y : ℕ) → x < n → y < n → T (clash x y) → f x ≢ f y

abbrev pub labels_on : {A : Type 0} → Discrete A → List ℕ → (ℕ → A) → ℕ
labels_on same vs f = length (distinct same [] (map f vs))

abbrev pub cardinality : {A : Type 0} → Discrete A → ℕ → (ℕ → A) → ℕ
cardinality same n f = length (distinct same [] (table f n))

pub record Chromatic (n : ℕ) (clash : ℕ → ℕ → Bool) (k : ℕ) : Type 0 where
  pub colouring : ℕ → ℤ
  pub proper : Proper n clash colouring
  pub size : cardinality ℤ_discrete n colouring ≡ k
  pub smallest : (f : ℕ → ℤ) → Proper n clash f → k ≤ cardinality ℤ_discrete n f

abbrev pub Lower : ℕ → (ℕ → Bool) → (ℕ → ℕ → Bool) → ℕ → Type 0
Lower n live clash b = (f : ℕ → ℤ) → Proper n clash f → b ≤ labels_on ℤ_discrete (members live n) f
