-- Laws of rows that are counted, member by member. Assumes nothing.
use mathlib.Core.Path.{◌≡◌, refl, sym, ap, ◌∙◌, subst}
use mathlib.Core.Logic.{◌≢◌}
use mathlib.Core.Bool.{Bool, true, false, not, ◌&&◌}
use mathlib.Core.List.{List}
use Prim.Native.Nat.{ℕ, zero, ◌+◌, ◌≤◌, ◌<◌}
use native.Mathlib.Omega.{arith}
use lib.Dec.{T}
use lib.ListN.{length, get_or}
use borrow.Author.Tests.{ne_eqb}
use Rattle.sets.specs.Lists.{bit, count, upto}
use Rattle.sets.specs.Set.{has, IsWithout, IsLowest}
use Rattle.sets.proofs.TestLaws.{and_l, and_true, eqb_same, T→true}
use Rattle.sets.proofs.MemberLaws.{count_few, count_but, members_count, members_none}
use Rattle.sets.proofs.SetLaws.{has_none, size_without}
use Rattle.counts.specs.Counts.{held}
use Rattle.counts.specs.Steps.{IsPulled}

-- ---- members that pass a test

-- those of s are w, where it passes, and those of the others
count_rest : (n s w r : ℕ) (p : ℕ → Bool) → w < n → T (has s w) → IsWithout s w r
    → count (λ x. has s x && p x) (upto n) ≡ bit (p w) + count (λ x. has r x && p x) (upto n)
count_rest n s w r p b t out =
    omega (
      arith,
      count_but n (λ x. has s x && p x) (λ x. has r x && p x) w b other,
      ap (λ (a : Bool). bit (a && p w)) (T→true (has s w) t),
      ap (λ (a : Bool). bit (a && p w)) (out w ∙ ap (λ (c : Bool). has s w && not c) (eqb_same w) ∙ none (has s w)),
    )
  where
    none : (a : Bool) → (a && false) ≡ false
    none true = refl
    none false = refl

    other : (j : ℕ) → j ≢ w → (has r j && p j) ≡ (has s j && p j)
    other j d = ap (λ (c : Bool). c && p j) (out j ∙ ap (λ (c : Bool). has s j && not c) (ne_eqb w j (λ e. d (sym e))) ∙ and_true (has s j))

-- ---- rows

pub held_none : (rows : List ℕ) (v : ℕ) → held rows 0 v ≡ 0
held_none rows v =
    sym (members_count (λ w. has 0 w && has (get_or rows w zero) v) 64)
    ∙ ap length (members_none (λ w. has 0 w && has (get_or rows w zero) v) 64 (λ w b t. subst T (has_none w) (and_l (has 0 w) (has (get_or rows w zero) v) t)))

pub held_few : (rows : List ℕ) (near v : ℕ) → held rows near v ≤ 64
held_few rows near v = count_few (λ w. has near w && has (get_or rows w zero) v) 64

pub pull_some : (rows : List ℕ) (left w next : ℕ) → IsLowest 64 left w → IsWithout left w next → IsPulled rows left (record { row = get_or rows w zero; left = next })
pull_some rows left w next l out =
    let k = size_without 64 left w next l.below l.member out in
    record {
      rest = λ v. count_rest 64 left w next (λ x. has (get_or rows x zero) v) l.below l.member out;
      within = omega arith;
      fewer = λ q. omega arith;
    }
