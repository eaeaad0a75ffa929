-- Whether row i's bits are returned, gathered over those bits, lowest first: what all their rows have. Assumes nothing.
use mathlib.Core.Path.{◌≡◌, sym, ap, ◌∙◌, subst}
use mathlib.Core.Bool.{Bool, not, ◌&&◌}
use mathlib.Core.List.{List}
use Prim.Native.Nat.{ℕ, ◌<◌}
use native.Mathlib.Decide.{ℕ_discrete}
use lib.Dec.{T, eqb, ltb→lt, lt→ltb}
use lib.ListN.{length, get_or}
use borrow.Author.Tests.{ne_eqb}
use Rattle.sets.specs.Set.{has, IsBelow, IsMeet, IsWithout, IsLowest}
use Rattle.sets.proofs.TestLaws.{and_l, and_r, and_t, and_true, T?}
use Rattle.sets.proofs.SetLaws.{has_none}
use Rattle.clashes.specs.Matrix.{matrix, HasOneSided}

module _ (rows : List ℕ) (i : ℕ) where
  -- `left` has row i's bits that are still to be looked at, `all` what the rows of the others have
  pub record Looked (all left : ℕ) : Type 0 where
    pub bits : (j : ℕ) → T (has left j) → (j < length rows) × T (matrix rows i j)
    pub returned : T (has all i) → (j : ℕ) → j < length rows → T (matrix rows i j) → ¬ T (has left j) → T (matrix rows j i)
    pub lone : ¬ T (has all i) → HasOneSided rows i

  pub looked_start : (n all below left : ℕ) → i < n → IsBelow n all → IsBelow (length rows) below → IsMeet (get_or rows i 0) below left → Looked all left
  looked_start n all below left l a b m = record {
    bits = λ j t.
        let u : T (matrix rows i j && has below j) = subst T (m j) t in
        (ltb→lt j (length rows) (subst T (b j) (and_r (matrix rows i j) (has below j) u)), and_l (matrix rows i j) (has below j) u);
    returned = λ u j k t q. absurd (q (subst T (sym (m j)) (and_t (matrix rows i j) (has below j) t (subst T (sym (b j)) (lt→ltb j (length rows) k)))));
    lone = λ q. absurd (q (subst T (sym (a i)) (lt→ltb i n l)));
  }

  pub looked_again : (n all left w all' left' : ℕ) → Looked all left → IsLowest n left w → IsMeet all (get_or rows w 0) all' → IsWithout left w left'
      → Looked all' left'
  looked_again n all left w all' left' o l m r = record {
    bits = λ j t. o.bits j (and_l (has left j) (not (eqb w j)) (subst T (r j) t));
    returned = λ u j. back (subst T (m i) u) j (ℕ_discrete w j);
    lone = λ q. at (T? (has all i)) q;
  }
    where
      back : T (has all i && matrix rows w i) → (j : ℕ) → Dec (w ≡ j) → j < length rows → T (matrix rows i j) → ¬ T (has left' j) → T (matrix rows j i)
      back u j (yes e) k t q = subst (λ (x : ℕ). T (matrix rows x i)) e (and_r (has all i) (matrix rows w i) u)
      back u j (no d) k t q =
          o.returned (and_l (has all i) (matrix rows w i) u) j k t
          (λ v. q (subst T (sym (r j ∙ ap (λ (b : Bool). has left j && not b) (ne_eqb w j d) ∙ and_true (has left j))) v))

      at : Dec (T (has all i)) → ¬ T (has all' i) → HasOneSided rows i
      at (no f) q = o.lone f
      at (yes t) q =
          let b = o.bits w l.member in
          (w, b.0, b.1, λ u. q (subst T (sym (m i)) (and_t (has all i) (matrix rows w i) t u)))

  pub looked_end : (all : ℕ) → Looked all 0 → T (has all i) → ¬ HasOneSided rows i
  looked_end all o u (j, k, t, f) = f (o.returned u j k t (λ v. subst T (has_none j) v))
