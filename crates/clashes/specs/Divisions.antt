-- Divisions of the entries 0 to n - 1 into groups, as document 01's colour bytes have them: entry i's group number stands at place i, and the
-- groups are numbered from 0 by smallest member, that is, by first use.
--
--   at c i               : the number of i's group
--   Canon m c            : c is numbered by first use, where m numbers have been used before
--   groups m c           : how many numbers c uses, with the m before it
--   divisions n          : every division of n entries
--   alone n              : every entry alone, n groups
--   Division n c         : c is a division of n entries
--   division n f         : the groups of equal labels of a labelling f, numbered by first use
--   SameGroups n c f     : two entries are in one group of c just where f gives them one label
--   clash_free n clash c : no two entries that clash are in one group
--   free_divisions n clash: P, the number of clash-free divisions
--   Fewest n clash k     : k is the fewest groups of a clash-free division
--
-- Assumes nothing.
use Rattle.std.specs.Prelude.{◌≡◌, Bool, not, ◌&&◌, List, [], ◌∷◌, ◌++◌, map, ℕ, zero, suc, ◌≤◌, ◌<◌, max, T, eqb, length, get_or}
use mathlib.Core.HLevel.{Discrete}
use Rattle.sets.specs.Lists.{count, table, all}
use Rattle.clashes.specs.Labels.{number}

abbrev pub at : List ℕ → ℕ → ℕ
at c i = get_or c i zero

abbrev pub Canon : ℕ → List ℕ → Type 0
Canon m [] = Unit {0}
Canon m (k ∷ c) = (k ≤ m) × Canon (max m (suc k)) c

abbrev pub groups : ℕ → List ℕ → ℕ
groups m [] = m
groups m (k ∷ c) = groups (max m (suc k)) c

pub record Division (n : ℕ) (c : List ℕ) : Type 0 where
  pub numbered : Canon 0 c
  pub long : length c ≡ n

-- j ∷ c for each j below k and each c of f j
abbrev pub heads : (ℕ → List (List ℕ)) → ℕ → List (List ℕ)
heads f zero = []
heads f (suc k) = heads f k ++ map (λ c. k ∷ c) (f k)

-- all lists of n numbers that are numbered by first use, where m numbers have been used before
abbrev pub divs : ℕ → ℕ → List (List ℕ)
divs zero m = [] ∷ []
divs (suc n) m = heads (λ k. divs n (max m (suc k))) (suc m)

abbrev pub divisions : ℕ → List (List ℕ)
divisions n = divs n zero

abbrev pub alone : ℕ → List ℕ
alone n = table (λ i. i) n

abbrev pub division : {A : Type 0} → Discrete A → ℕ → (ℕ → A) → List ℕ
division same n f = number same [] (table f n)

pub record SameGroups {A : Type 0} (n : ℕ) (c : List ℕ) (f : ℕ → A) : Type 0 where
  pub together : (i j : ℕ) → i < n → j < n → f i ≡ f j → at c i ≡ at c j
  pub apart : (i j : ℕ) → i < n → j < n → at c i ≡ at c j → f i ≡ f j

-- x and y do not clash, or are in different groups
abbrev pub parted : (ℕ → ℕ → Bool) → List ℕ → ℕ → ℕ → Bool
parted clash c x y = not (clash x y && eqb (at c x) (at c y))

abbrev pub clash_free : ℕ → (ℕ → ℕ → Bool) → List ℕ → Bool
clash_free n clash c = all n (λ x. all n (parted clash c x))

abbrev pub free_divisions : ℕ → (ℕ → ℕ → Bool) → ℕ
free_divisions n clash = count (clash_free n clash) (divisions n)

pub record Fewest (n : ℕ) (clash : ℕ → ℕ → Bool) (k : ℕ) : Type 0 where
  pub best : List ℕ
  pub division : Division n best
  pub free : T (clash_free n clash best)
  pub many : groups 0 best ≡ k
  pub fewest : (c : List ℕ) → Division n c → T (clash_free n clash c) → k ≤ groups 0 c
