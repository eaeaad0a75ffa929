-- What every proof here leans on: a test by its cases, and the bytes from a place on.
use Prim.Native.Nat.{ℕ, ◌+◌, ◌-◌, ◌<◌}
use mathlib.Core.Path.{◌≡◌, refl, sym, subst}
use mathlib.Core.List.{List, ◌∷◌}
use mathlib.Core.Bool.{Bool, true, false, cond}
use native.Mathlib.Numerals.{add-one}
use native.Mathlib.Omega.{arith}
use lib.Dec.{T}
use lib.ListN.{length, take, drop, get_or, length-drop}
use lib.Seq.{drop-cons, take_all}

-- what holds on both sides of a test holds of its choice
pub cond_cases : {A : Type 0} (Q : A → Type 0) (b : Bool) (x y : A) → (b ≡ true → Q x) → (b ≡ false → Q y) → Q (cond b x y)
cond_cases Q true x y f g = f refl
cond_cases Q false x y f g = g refl

-- "a and b" that passes: b passes
pub cond_and : (a b : Bool) → cond a b false ≡ true → b ≡ true
cond_and true b e = e
cond_and false b e = absurd (subst T (sym e) tt)

-- the bytes from i are the one at i and those from i + 1
pub from : (s : List ℕ) (i : ℕ) → i < length s → drop i s ≡ get_or s i 0 ∷ drop (i + 1) s
from s i h = rw (add-one, drop-cons s i 0)

-- the part that `&s[a..]` lends
pub rest : (s : List ℕ) (a : ℕ) → take (length s - a) (drop a s) ≡ drop a s
rest s a = take_all (length s - a) (drop a s) (omega (arith, length-drop a s))
