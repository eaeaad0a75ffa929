-- Document 02, Ask 8, the first half: who is removed, in which order, and the list that is left. "Only entries still present and clashes among them
-- count": `p` is the test of being present. L is the bound, "kept from the unshrunk list".
--
--   Removal               : covered v u: v goes by the first rule, and u is noted; few v: v goes by the second
--   entry r               : who goes
--   without v p           : p, without v
--   covers n clash p v u  : u is another present entry, and every present one that clashes with v clashes with u
--   is_covered n clash p v : v is present and meets the first rule
--   clashing n clash p v  : how many present entries clash with v
--   has_few n clash p L v : v is present and meets the second rule
--   or_else d o            : what o has, or d
--   noted n clash p v     : the other entry that is noted with v
--   next n clash p L      : who goes next, and how; none where neither rule applies
--   removals L n clash m p: who goes, in order; m of them at most
--   left p rs             : who is present when rs have gone
--   everyone n            : all are present
--   gone L n clash        : who goes from the whole list. No more than n can go: then neither rule applies (`gone_end` of proofs/RuleLaws.antt)
--   names L n clash       : who stays, by rising number: entry i of the shrunk list is `at names i`
--   among l clash         : the clashes of the entries l, each numbered by its place
--
-- Assumes nothing.
use Rattle.std.specs.Prelude.{Bool, not, ◌&&◌, ◌||◌, List, [], ◌∷◌, ℕ, zero, suc, eqb, ltb}
use Rattle.std.proofs.Math.Option.{Option, none, some}
use Rattle.sets.specs.Lists.{count, all, any, upto, members, lowest}
use Rattle.clashes.specs.Divisions.{at}

pub data Removal : Type 0 where
  covered : ℕ → ℕ → Removal
  few : ℕ → Removal

abbrev pub entry : Removal → ℕ
entry (covered v u) = v
entry (few v) = v

abbrev pub without : ℕ → (ℕ → Bool) → ℕ → Bool
without v p x = p x && not (eqb v x)

abbrev pub or_else : ℕ → Option ℕ → ℕ
or_else d none = d
or_else d (some x) = x

module _ (n : ℕ) (clash : ℕ → ℕ → Bool) (p : ℕ → Bool) where
  -- "an entry whose clashes are all clashes of another entry"
  abbrev pub covers : ℕ → ℕ → Bool
  covers v u = p u && (not (eqb v u) && all n (λ w. not (p w && clash v w) || clash u w))

  abbrev pub is_covered : ℕ → Bool
  is_covered v = p v && any n (covers v)

  abbrev pub clashing : ℕ → ℕ
  clashing v = count (λ w. p w && clash v w) (upto n)

  -- "or one with fewer clashes than the root's Mycielskian bound L"
  abbrev pub has_few : ℕ → ℕ → Bool
  has_few L v = p v && ltb (clashing v) L

  -- "the lowest such other is noted"
  abbrev pub noted : ℕ → ℕ
  noted v = or_else v (lowest (covers v) n)

  -- "Each time the lowest entry that meets the first rule goes; where none does, the lowest that meets the second; until neither applies"
  abbrev pub choose : Option ℕ → Option ℕ → Option Removal
  choose (some v) o = some (covered v (noted v))
  choose none (some v) = some (few v)
  choose none none = none

  abbrev pub next : ℕ → Option Removal
  next L = choose (lowest is_covered n) (lowest (has_few L) n)

-- r and those after it, where there is one
abbrev pub onward : (ℕ → Bool) → Option Removal → ((ℕ → Bool) → List Removal) → List Removal
onward p none f = []
onward p (some r) f = r ∷ f (without (entry r) p)

unfoldable pub removals : ℕ → ℕ → (ℕ → ℕ → Bool) → ℕ → (ℕ → Bool) → List Removal
removals L n clash zero p = []
removals L n clash (suc m) p = onward p (next n clash p L) (removals L n clash m)

abbrev pub left : (ℕ → Bool) → List Removal → ℕ → Bool
left p [] = p
left p (r ∷ rs) = left (without (entry r) p) rs

abbrev pub everyone : ℕ → ℕ → Bool
everyone n x = ltb x n

abbrev pub gone : ℕ → ℕ → (ℕ → ℕ → Bool) → List Removal
gone L n clash = removals L n clash n (everyone n)

abbrev pub names : ℕ → ℕ → (ℕ → ℕ → Bool) → List ℕ
names L n clash = members (left (everyone n) (gone L n clash)) n

abbrev pub among : List ℕ → (ℕ → ℕ → Bool) → ℕ → ℕ → Bool
among l clash i j = clash (at l i) (at l j)
