-- The bytes of a run of lines. (Laws of `lines`.)
--
--   bytes_of t : the lines t with their line feeds, one after the other
use Prim.Native.Nat.{ℕ}
use mathlib.Core.Path.{◌≡◌, refl, ap, ◌∙◌}
use mathlib.Core.List.{List, [], ◌∷◌, ◌++◌}
use mathlib.Core.Bool.{Bool, true, false}
use borrow.Author.Tests.{eqb-true}
use lib.Dec.{eqb}
use Rattle.lines.specs.Text.{Text, done, unended, ended, put, feed, lines_of}

abbrev pub bytes_of : Text → List ℕ
bytes_of done = []
bytes_of (unended l) = l
bytes_of (ended l t) = l ++ 10 ∷ bytes_of t

put_bytes : (b : ℕ) (t : Text) → bytes_of (put b t) ≡ b ∷ bytes_of t
put_bytes b done = refl
put_bytes b (unended l) = refl
put_bytes b (ended l t) = refl

pub bytes_are : (s : List ℕ) → bytes_of (lines_of s) ≡ s
bytes_are [] = refl
bytes_are (b ∷ s) = go (eqb b 10) refl (bytes_are s)
  where
    go : (x : Bool) → eqb b 10 ≡ x → bytes_of (lines_of s) ≡ s → bytes_of (feed x b (lines_of s)) ≡ b ∷ s
    go true e r = let z = eqb-true b 10 e in rw (r, z)
    go false e r = put_bytes b (lines_of s) ∙ ap (λ (l : List ℕ). b ∷ l) r
