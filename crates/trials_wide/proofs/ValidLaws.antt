-- Rows that are made pair by pair are a valid list's: those without a pair are, and one pair more, either way round, keeps them so. Assumes nothing.
use mathlib.Core.Path.{◌≡◌, refl, sym, ap, ◌∙◌, subst}
use mathlib.Core.Logic.{◌⊎◌, inl, inr}
use mathlib.Core.Bool.{Bool, ◌&&◌, ◌||◌}
use mathlib.Core.List.{List}
use Prim.Native.Nat.{ℕ, zero, ◌≤◌, ◌<◌}
use native.Mathlib.Decide.{dec_lt}
use native.Mathlib.Omega.{arith}
use lib.Dec.{T, eqb, eqb→eq}
use lib.ListN.{length, get_or, replicate, length-replicate, get_or-replicate, get_or-eq_default}
use Rattle.sets.specs.Set.{has}
use Rattle.sets.proofs.TestLaws.{and_l, and_r, and_t, or_l, or_r, or_cases}
use Rattle.sets.proofs.SetLaws.{has_none}
use Rattle.wide.specs.Words.{rows_of}
use Rattle.wide.specs.Form.{Marked}
use Rattle.wide.proofs.RowLaws.{rows_zero}
use Rattle.clashes.specs.Matrix.{Valid, matrix}

pub none_valid : (n : ℕ) → Valid n (matrix (rows_of 4 256 (replicate 1024 zero)))
none_valid n = subst (λ (rows : List ℕ). Valid n (matrix rows)) (sym (rows_zero 256 1024 refl)) (record {
  no_self = λ x b t. nothing x x t;
  both_ways = λ x y b d t. absurd (nothing x y t);
})
  where
    zeros : (x : ℕ) → Dec (x < 256) → get_or (replicate 256 zero) x zero ≡ zero
    zeros x (yes b) = get_or-replicate 256 x zero zero b
    zeros x (no b) = get_or-eq_default (replicate 256 zero) zero (let z : length (replicate 256 zero) ≤ x = omega (arith, length-replicate 256 zero) in z)

    nothing : (x y : ℕ) → ¬ T (matrix (replicate 256 zero) x y)
    nothing x y t = subst T (ap (λ (s : ℕ). has s y) (zeros x (dec_lt x 256)) ∙ has_none y) t

module _ {n u v : ℕ} {rows half r : List ℕ} (apart : u ≡ v → ⊥) (one : Marked rows u v half) (other : Marked half v u r) (valid : Valid n (matrix rows)) where
  is : (x y : ℕ) → matrix r x y ≡ ((matrix rows x y || (eqb u x && eqb v y)) || (eqb v x && eqb u y))
  is x y = other.is x y ∙ ap (λ (b : Bool). b || (eqb v x && eqb u y)) (one.is x y)

  -- a clash is an old one, or the pair's, from one end or from the other
  clash : (x y : ℕ) → T (matrix r x y) → T (matrix rows x y) ⊎ (T (eqb u x && eqb v y) ⊎ T (eqb v x && eqb u y))
  clash x y t = elim (or_cases (matrix rows x y || (eqb u x && eqb v y)) (eqb v x && eqb u y) (subst T (is x y) t)) [
    | inl a ↦ (elim (or_cases (matrix rows x y) (eqb u x && eqb v y) a) [ inl b ↦ inl b | inr b ↦ inr (inl b) ])
    | inr a ↦ inr (inr a)
  ]

  pub pair_valid : Valid n (matrix r)
  pair_valid = record {
    no_self = λ x b t. elim (clash x x t) [
      | inl a ↦ valid.no_self x b a
      | inr a ↦ (elim a [
        | inl e ↦ apart (eqb→eq u x (and_l (eqb u x) (eqb v x) e) ∙ sym (eqb→eq v x (and_r (eqb u x) (eqb v x) e)))
        | inr e ↦ apart (eqb→eq u x (and_r (eqb v x) (eqb u x) e) ∙ sym (eqb→eq v x (and_l (eqb v x) (eqb u x) e)))
      ])
    ];
    both_ways = λ x y b d t. subst T (sym (is y x)) (elim (clash x y t) [
      | inl a ↦ or_l (matrix rows y x || (eqb u y && eqb v x)) (eqb v y && eqb u x) (or_l (matrix rows y x) (eqb u y && eqb v x) (valid.both_ways x y b d a))
      | inr a ↦ (elim a [
        | inl e ↦ or_r (matrix rows y x || (eqb u y && eqb v x)) (eqb v y && eqb u x)
            (and_t (eqb v y) (eqb u x) (and_r (eqb u x) (eqb v y) e) (and_l (eqb u x) (eqb v y) e))
        | inr e ↦ or_l (matrix rows y x || (eqb u y && eqb v x)) (eqb v y && eqb u x)
            (or_r (matrix rows y x) (eqb u y && eqb v x) (and_t (eqb u y) (eqb v x) (and_r (eqb v x) (eqb u y) e) (and_l (eqb v x) (eqb u y) e)))
      ])
    ]);
  }
