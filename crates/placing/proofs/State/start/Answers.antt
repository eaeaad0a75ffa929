-- `placing::State::start` meets its contract. Where i entries are written, they are 0 to i - 1. Assumes nothing.
use mathlib.Core.Path.{◌≡◌, refl, sym, ap, ◌∙◌}
use mathlib.Core.List.{List, [], ◌∷◌, ◌++◌}
use Prim.Native.Nat.{ℕ, suc, ◌+◌, ◌≤◌, ◌<◌}
use native.Mathlib.Decide.{dec_le}
use native.Mathlib.Omega.{arith}
use lib.ListN.{length, take, set, length-set}
use lib.Seq.{take-suc-set, take-set-le}
use Rattle.sets.proofs.ListLaws.{table_suc}
use Rattle.clashes.specs.Divisions.{groups, alone}
use Rattle.clashes.proofs.DivisionLaws.{alone_groups}
use Rattle.placing.proofs.State.start.Goals as goal

-- one more is written
one_more : (b : List ℕ) (i : ℕ) → i < length b → ((k : ℕ) → k ≤ i → take k b ≡ alone k) → (k : ℕ) → k ≤ i + 1 → take k (set b i i) ≡ alone k
one_more b i inside are k h = go (dec_le k i)
  where
    go : Dec (k ≤ i) → take k (set b i i) ≡ alone k
    go (yes p) = take-set-le k b i i p ∙ are k p
    go (no q) =
        ap (λ (m : ℕ). take m (set b i i)) (let e : k ≡ suc i = omega arith in e) ∙ take-suc-set b i i inside
        ∙ ap (λ (x : List ℕ). x ++ (i ∷ [])) (are i (omega arith)) ∙ sym (table_suc (λ j. j) i)
        ∙ ap alone (let e : suc i ≡ k = omega arith in e)

pub loop-i-preserved : goal.loop-i-preserved
loop-i-preserved c =
    let l = c.loop-i in
    let b = l.group-items in
    record { long = length-set b l.i l.i ∙ l.invariant.long; are = one_more b l.i (omega (arith, l.invariant.long)) l.invariant.are }

pub returns : goal.returns
returns c =
    let n = c.args.n in
    let e = c.loop-i.invariant.are n (omega arith) in
    record {
      fair = record { size = sym (ap (groups 0) e ∙ alone_groups n); paid = omega arith };
      budget = refl;
      is = ap (λ b. record { best = b; nodes = 0 }) e;
    }
