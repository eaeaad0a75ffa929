-- Laws of who has a count or more: the count is taken from every number's at once, digit by digit. Assumes nothing.
use mathlib.Core.Path.{◌≡◌, refl, sym, ap, ◌∙◌}
use mathlib.Core.Bool.{Bool, true, false, not, ◌&&◌}
use Prim.Native.Nat.{ℕ, ◌+◌, ◌*◌, ◌^◌, ◌≤◌, ◌<◌}
use native.Mathlib.Decide.{dec_lt}
use native.Mathlib.Omega.{arith}
use lib.Dec.{leb}
use borrow.Author.Tests.{le-leb, lt-leb}
use Rattle.sets.specs.Lists.{bit}
use Rattle.sets.specs.Set.{has, IsLess}
use Rattle.sets.proofs.SetLaws.{has_beyond}
use Rattle.counts.specs.Counts.{value, IsAtLeast}
use Rattle.counts.specs.declared.Counts.{Counts}

-- who need not borrow in the end has as many
pub least_is : (c : Counts) (need among b r : ℕ) → among < 2 ^ 64
    → ((v : ℕ) → v < 64 → (need ≤ value c v + 128 * bit (has b v)) × (value c v + 128 * bit (has b v) ≤ need + 127)) → IsLess among b r → IsAtLeast c need among r
least_is c need among b r small f h v = h v ∙ go (dec_lt v 64)
  where
    enough : (t : Bool) → has b v ≡ t → (need ≤ value c v + 128 * bit t) × (value c v + 128 * bit t ≤ need + 127) → not t ≡ leb need (value c v)
    enough true e g = sym (lt-leb need (value c v) (omega (arith, g.1)))
    enough false e g = sym (le-leb need (value c v) (omega (arith, g.0)))

    go : Dec (v < 64) → (has among v && not (has b v)) ≡ (has among v && leb need (value c v))
    go (yes k) = ap (λ (t : Bool). has among v && t) (enough (has b v) refl (f v k))
    go (no k) =
        let e : has among v ≡ false = has_beyond 64 among v small (omega arith) in
        ap (λ (t : Bool). t && not (has b v)) e ∙ sym (ap (λ (t : Bool). t && leb need (value c v)) e)
