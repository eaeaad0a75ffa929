-- Laws of numbers by first use, of joined lists. Assumes nothing.
use mathlib.Core.Path.{◌≡◌, refl, sym, ap, ◌∙◌}
use mathlib.Core.List.{List, [], ◌∷◌, ◌++◌}
use Prim.Native.Nat.{ℕ, zero, suc, ◌<◌, max}
use native.Mathlib.Nat.{add-zero}
use lib.ListN.{length, get_or-append}
use lib.Seq.{get_or-append-add}
use Rattle.clashes.specs.Divisions.{at, Canon, groups}

pub groups_append : (m : ℕ) (c e : List ℕ) → groups m (c ++ e) ≡ groups (groups m c) e
groups_append m [] e = refl
groups_append m (k ∷ c) e = groups_append (max m (suc k)) c e

pub canon_append : (m : ℕ) (c e : List ℕ) → Canon m c → Canon (groups m c) e → Canon m (c ++ e)
canon_append m [] e a b = b
canon_append m (k ∷ c) e a b = (a.0, canon_append (max m (suc k)) c e a.1 b)

pub canon_behind : (m : ℕ) (c e : List ℕ) → Canon m (c ++ e) → Canon (groups m c) e
canon_behind m [] e a = a
canon_behind m (k ∷ c) e a = canon_behind (max m (suc k)) c e a.1

pub at_front : (c e : List ℕ) (i : ℕ) → i < length c → at (c ++ e) i ≡ at c i
at_front c e i b = get_or-append c e zero i b

pub at_next : (c e : List ℕ) (j : ℕ) → at (c ++ j ∷ e) (length c) ≡ j
at_next c e j = ap (λ (i : ℕ). at (c ++ j ∷ e) i) (sym (add-zero (length c))) ∙ get_or-append-add c (j ∷ e) 0 zero
