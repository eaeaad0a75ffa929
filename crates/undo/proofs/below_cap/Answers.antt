-- `undo::below_cap` meets its contract. Assumes nothing.
use mathlib.Core.Path.{◌≡◌, sym, ap}
use mathlib.Core.Logic.{◌⊎◌, inl, inr}
use Prim.Native.Nat.{ℕ, ◌*◌, ◌%◌}
use Rattle.undo.proofs.below_cap.Goals as goal

four : (words : ℕ) → (words ≡ 1 → ⊥) → (words ≡ 1) ⊎ (words ≡ 4) → words ≡ 4
four words q (inl e) = absurd (q e)
four words q (inr e) = e

pub returns-then-words-eq1 : goal.returns-then-words-eq1
returns-then-words-eq1 c = sym (ap (λ (w : ℕ). c.args.x % (64 * w)) c.if-words-eq1.true)

pub returns : goal.returns
returns c = sym (ap (λ (w : ℕ). c.args.x % (64 * w)) (four c.args.words c.if-words-eq1.false c.requires))
