-- A word at the front, byte by byte; one number, and two, by their cases.
use Prim.Native.Nat.{ℕ, ◌+◌, ◌≤◌, zero-le, suc-le-suc}
use mathlib.Core.Path.{◌≡◌, refl, sym, ap, subst, ◌∙◌}
use mathlib.Core.List.{List, [], ◌∷◌}
use mathlib.Core.Bool.{Bool, true, false, cond, ◌&&◌}
use borrow.Author.Tests.{eq-eqb}
use lib.ListN.{length, drop, get_or}
use lib.Dec.{T, eqb}
use Rattle.std.specs.Prelude.{Option, Some}
use Rattle.std.specs.List.{starts_with}
use Rattle.lines.specs.Number.{number_of}
use Rattle.lines.specs.Words.{starts, whole, alone_of, besides, second, pair_of}
use Rattle.lines.proofs.Basics.{cond_and}

pub starts_is : (w s : List ℕ) → starts_with eqb s w ≡ starts w s
starts_is [] s = refl
starts_is (w ∷ ws) [] = refl
starts_is (w ∷ ws) (b ∷ s) = go (eqb w b) (starts_is ws s)
  where
    go : (x : Bool) → starts_with eqb s ws ≡ starts ws s → (x && starts_with eqb s ws) ≡ cond x (starts ws s) false
    go true r = r
    go false r = refl

-- what begins with a word is no shorter
pub starts_long : (w s : List ℕ) → starts w s ≡ true → length w ≤ length s
starts_long [] s e = zero-le
starts_long (w ∷ ws) [] e = absurd (subst T (sym e) tt)
starts_long (w ∷ ws) (b ∷ s) e = suc-le-suc (starts_long ws s (cond_and (eqb w b) (starts ws s) e))

-- ---- one number

pub alone_is : (s : List ℕ) (v k : ℕ) → number_of s ≡ Some (v, k) → k ≡ length s → alone_of s ≡ Some v
alone_is s v k e h = ap (whole s) e ∙ rw (eq-eqb k (length s) h)

-- ---- two numbers

pub pair_is : (s : List ℕ) (u k : ℕ) (a : Option ℕ) → number_of s ≡ Some (u, k) → get_or s k 0 ≡ 32 → alone_of (drop (k + 1) s) ≡ a → pair_of s ≡ besides u a
pair_is s u k a e g n = ap (second s) e ∙ rw (eq-eqb _ _ g, n)
