-- S(v) of each v of a set, stored over its members, lowest first. Assumes nothing.
use mathlib.Core.Path.{◌≡◌, sym, ap, ◌∙◌, subst}
use mathlib.Core.Bool.{Bool, ◌||◌}
use mathlib.Core.List.{List}
use Prim.Native.Nat.{ℕ, zero}
use native.Mathlib.Omega.{arith}
use lib.Dec.{T}
use lib.ListN.{length, get_or, set, length-set}
use borrow.Author.Tests.{ne_eqb}
use Rattle.sets.specs.Set.{has, IsWithout, IsLowest}
use Rattle.sets.proofs.TestLaws.{or_false}
use Rattle.cliques.specs.Growth.{Within}
use Rattle.mycielski.proofs.DoneLaws.{done, done_none, done_all, within_again, done_more}
use Rattle.mycielski.proofs.EdgeLoops.{get_d_set}

-- `serves v x`: x is in S(v)
module _ (cap verts : ℕ) (serves : ℕ → ℕ → Bool) where
  pub record Fitting (fit : List ℕ) (left : ℕ) : Type 0 where
    pub wide : length fit ≡ cap
    pub within : Within left verts
    pub is : (v : ℕ) → T (done verts left v) → (x : ℕ) → has (get_or fit v zero) x ≡ serves v x

  pub fitting_start : (fit : List ℕ) → length fit ≡ cap → Fitting fit verts
  fitting_start fit l = record { wide = l; within = λ x t. t; is = λ v t. absurd (subst T (done_none verts v) t) }

  pub fitting_again : (fit : List ℕ) (left v s left' : ℕ) → Fitting fit left → IsLowest cap left v → ((x : ℕ) → has s x ≡ serves v x) → IsWithout left v left'
      → Fitting (set fit v s) left'
  fitting_again fit left v s left' i w q o = record {
    wide = length-set fit v s ∙ i.wide;
    within = within_again verts left v left' i.within w o;
    is = λ y t x.
        get_d_set fit v s y (omega (arith, i.wide, w.below)) (λ a. has a x ≡ serves y x)
        (λ e. subst (λ (z : ℕ). has s x ≡ serves z x) e (q x))
        (λ d. i.is y (subst T (done_more verts left v left' i.within w o y ∙ ap (λ (b : Bool). done verts left y || b) (ne_eqb v y d) ∙ or_false (done verts left y)) t) x);
  }

  pub fitting_end : (fit : List ℕ) → Fitting fit 0 → (v : ℕ) → T (has verts v) → (x : ℕ) → has (get_or fit v zero) x ≡ serves v x
  fitting_end fit i v t = i.is v (subst (λ (q : ℕ → Bool). T (q v)) (sym (done_all verts)) t)
