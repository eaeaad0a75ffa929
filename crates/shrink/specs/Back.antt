-- Document 02, Ask 8, the second half: "Put removed entries back in reverse order".
--
--   Seating                : how many groups there are, and each entry's, for the entries that are present
--   into v j s             : v goes into group j, which is one of s or the next one
--   admits n clash p s v j : no present entry of group j clashes with v
--   home n clash p s v     : "the lowest group that admits it, a new last one if none does"
--   put n clash p r s      : who went by r is put back, where those of p are present
--   back n clash p rs s    : those of rs are put back, the last first: s is the seating without them, p is who is present when all are back
--   spread n l c           : the seating of the entries l that are divided as c says: the one at place i is in group `at c i`
--
-- Groups keep the shrunk division's numbers until all are back, and a new one takes the next. Assumes nothing.
use Rattle.std.specs.Prelude.{Bool, not, ◌&&◌, List, [], ◌∷◌, ℕ, suc, max, eqb, set}
use Rattle.std.proofs.Math.Decide.{ℕ_discrete}
use Rattle.sets.specs.Lists.{all, table, lowest}
use Rattle.clashes.specs.Labels.{place}
use Rattle.clashes.specs.Divisions.{at, groups}
use Rattle.shrink.specs.Rules.{Removal, covered, few, entry, without, or_else}

pub record Seating : Type 0 where
  pub many : ℕ
  pub group : List ℕ

abbrev pub into : ℕ → ℕ → Seating → Seating
into v j s = record { many = max s.many (suc j); group = set s.group v j }

module _ (n : ℕ) (clash : ℕ → ℕ → Bool) where
  abbrev pub admits : (ℕ → Bool) → Seating → ℕ → ℕ → Bool
  admits p s v j = all n (λ x. not (p x && (clash v x && eqb (at s.group x) j)))

  abbrev pub home : (ℕ → Bool) → Seating → ℕ → ℕ
  home p s v = or_else s.many (lowest (admits p s v) s.many)

  -- "by the first rule, into the other entry's group; by the second, into the lowest group that admits it, a new last one if none does"
  abbrev pub put : (ℕ → Bool) → Removal → Seating → Seating
  put p (covered v u) s = into v (at s.group u) s
  put p (few v) s = into v (home p s v) s

  unfoldable pub back : (ℕ → Bool) → List Removal → Seating → Seating
  back p [] s = s
  back p (r ∷ rs) s = put (without (entry r) p) r (back (without (entry r) p) rs s)

abbrev pub spread : ℕ → List ℕ → List ℕ → Seating
spread n l c = record { many = groups 0 c; group = table (λ x. at c (place ℕ_discrete x l)) n }
