-- Laws of loops that go through a set's members, lowest first. Assumes nothing.
use mathlib.Core.Path.{◌≡◌, sym, ap, ◌∙◌, subst}
use mathlib.Core.Logic.{◌≢◌}
use mathlib.Core.Bool.{Bool, not, cond}
use Prim.Native.Nat.{ℕ, zero, ◌≤◌, ◌<◌}
use native.Mathlib.Decide.{dec_lt}
use native.Mathlib.Omega.{arith}
use lib.Dec.{T, eqb, ltb}
use lib.ListN.{get_or, replicate, length-replicate, get_or-replicate, get_or-eq_default}
use borrow.Author.Tests.{le-ltb}
use Rattle.sets.specs.Lists.{members, over}
use Rattle.sets.specs.Set.{has, size, IsWithout, IsLowest}
use Rattle.sets.proofs.TestLaws.{and_l, and_r, and_t}
use Rattle.sets.proofs.MemberLaws.{count_few, members_none}
use Rattle.sets.proofs.SetLaws.{has_none, size_without, members_cons}
use Rattle.graphs.proofs.PairLaws.{of_ne, ne_of}

-- ---- one member fewer

pub size_le : (n s : ℕ) → size n s ≤ n
size_le n s = count_few (has s) n

pub left_falls : {cap : ℕ} (s w r : ℕ) → IsLowest cap s w → IsWithout s w r → size cap r < size cap s
left_falls {cap} s w r l h = omega (arith, size_without cap s w r l.below l.member h)

pub without_kept : (s w r x : ℕ) → IsWithout s w r → T (has r x) → T (has s x) × (x ≢ w)
without_kept s w r x h t =
    let u = subst T (h x) t in
    (and_l (has s x) (not (eqb w x)) u, λ e. of_ne w x (and_r (has s x) (not (eqb w x)) u) (sym e))

pub kept_without : (s w r x : ℕ) → IsWithout s w r → T (has s x) → x ≢ w → T (has r x)
kept_without s w r x h t q = subst T (sym (h x)) (and_t (has s x) (not (eqb w x)) t (ne_of w x (λ e. q (sym e))))

-- one turn: what comes of the lowest, and then of the others, is what comes of all
pub over_next : {cap : ℕ} {B : Type 0} (f : B → ℕ → B) (a b : B) (s w r : ℕ) → IsLowest cap s w → IsWithout s w r → b ≡ f a w
    → over f b (members (has r) cap) ≡ over f a (members (has s) cap)
over_next {cap} f a b s w r l h e = ap (λ x. over f x (members (has r) cap)) e ∙ ap (over f a) (sym (members_cons cap s w r l h))

pub over_none : (cap : ℕ) {B : Type 0} (f : B → ℕ → B) (a : B) (s : ℕ) → s ≡ 0 → over f a (members (has s) cap) ≡ a
over_none cap f a s e = ap (over f a) (members_none (has s) cap (λ j b t. subst T (ap (λ (m : ℕ). has m j) e ∙ has_none j) t))

-- ---- an array of zeros that is filled from 0 on: places below i have f

pub fill_none : (f : ℕ → ℕ) (n k : ℕ) → get_or (replicate n zero) k zero ≡ cond (ltb k 0) (f k) zero
fill_none f n k = go (dec_lt k n) ∙ sym (ap (λ (t : Bool). cond t (f k) zero) (le-ltb k 0 (omega arith)))
  where
    go : Dec (k < n) → get_or (replicate n zero) k zero ≡ zero
    go (yes b) = get_or-replicate n k zero zero b
    go (no q) = get_or-eq_default (replicate n zero) zero (omega (arith, length-replicate n zero))
