-- How a text is refused (document 01, "Order"): 18; then the first faulty line, and within it the first fault in an order; else what is lacking at the
-- end. Faults go by their numbers in the table. For clash texts and for sheets alike: `has j f` is that line j of the text, counted from 1, has the fault
-- numbered f, and `lacks f` that at the end the text has it.
--
--   Unended t k     : line k of the lines t is the last one, and lacks its line feed
--   Outside n u     : u is no entry of n, which count from 1 in a text
--   place order f   : how many numbers of the order stand before f
--   Clean has k     : line k has no fault
--   InLine t has order f k : the text of the lines t is refused with f at line k, for a fault of that line
--   AtEnd t has lacks f k  : it is refused with f at its end, and k is the number of lines plus one
--   Refusal longest s has order lacks f k : the text s, of at most so many bytes unless it is refused with 18, is refused with f, and with the line k
--   Faultless longest s has lacks : the text s has nothing that it could be refused with
--
-- Assumes nothing.
use Rattle.std.specs.Prelude.{ℕ, zero, suc, ◌+◌, ◌≤◌, ◌<◌, ◌≡◌, ◌⊎◌, List, [], ◌∷◌, cond, eqb, length}
use Rattle.refusals.specs.Table.{number_of, If}
use Rattle.refusals.specs.declared.Refusal.TheVariants.{Long}
use Rattle.lines.specs.Text.{Text, done, unended, ended, lines_of, line_count, Within}

abbrev pub Unended : Text → ℕ → Type 0
Unended done k = ⊥
Unended (unended l) k = k ≡ 1
Unended (ended l t) zero = ⊥
Unended (ended l t) (suc k) = Unended t k

abbrev pub Outside : ℕ → ℕ → Type 0
Outside n u = (u < 1) ⊎ (n < u)

abbrev pub place : List ℕ → ℕ → ℕ
place [] f = 0
place (g ∷ order) f = cond (eqb f g) 0 (suc (place order f))

abbrev pub Clean : (ℕ → ℕ → Type 0) → ℕ → Type 0
Clean has k = (f : ℕ) → ¬ has k f

pub record InLine (t : Text) (has : ℕ → ℕ → Type 0) (order : List ℕ) (f k : ℕ) : Type 0 where
  pub within : Within t k
  pub fault : has k f
  pub first : (j : ℕ) → j < k → Clean has j
  pub lowest : (g : ℕ) → place order g < place order f → ¬ has k g

-- "a fault at the end of a text gives the number of lines plus one"
pub record AtEnd (t : Text) (has : ℕ → ℕ → Type 0) (lacks : ℕ → Type 0) (f k : ℕ) : Type 0 where
  pub line : k ≡ line_count t + 1
  pub fault : lacks f
  pub clean : (j : ℕ) → j < k → Clean has j

abbrev pub Refusal : ℕ → List ℕ → (ℕ → ℕ → Type 0) → List ℕ → (ℕ → Type 0) → ℕ → ℕ → Type 0
Refusal longest s has order lacks f k =
    If (eqb f (number_of Long)) ((k ≡ 0) × (longest < length s))
    ((length s ≤ longest) × (InLine (lines_of s) has order f k ⊎ AtEnd (lines_of s) has lacks f k))

pub record Faultless (longest : ℕ) (s : List ℕ) (has : ℕ → ℕ → Type 0) (lacks : ℕ → Type 0) : Type 0 where
  pub short : length s ≤ longest
  pub clean : (k : ℕ) → k ≤ line_count (lines_of s) → Clean has k
  pub full : (f : ℕ) → ¬ lacks f
