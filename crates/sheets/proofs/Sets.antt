-- The sets that a check is held in, read as the definition's tests.
use Prim.Native.Nat.{ℕ, ◌≤◌, ◌<◌}
use mathlib.Core.Path.{◌≡◌, sym, ap, subst, fun_ext, ◌∙◌}
use mathlib.Core.Logic.{◌≢◌, ⊎_elim}
use mathlib.Core.Bool.{true, false, not, ◌&&◌, ◌||◌}
use native.Mathlib.Omega.{arith}
use lib.Dec.{T, eqb, lt→ltb, ltb→lt, eqb→eq}
use Rattle.sets.specs.Lists.{all, any}
use Rattle.sets.specs.Set.{has, subset, IsMeet, IsJoin, IsWith, IsBelow}
use Rattle.sets.proofs.TestLaws.{and_l, or_l, or_r, or_cases, not_t, t_not, T?, T→true, T→false, T-ext, all_get, all_make, any_make, any_get}
use Rattle.sets.proofs.SetLaws.{has_none, some_member}
use Rattle.sheets.specs.Check.{none}
use Rattle.sheets.specs.Sound.{Within}

pub empty_is : has 0 ≡ none
empty_is = fun_ext has_none

pub empty_within : (n : ℕ) → Within n 0
empty_within n j h = absurd (subst T (has_none j) h)

-- i is one more of them
pub with_within : (n s i r : ℕ) → i < n → IsWith s i r → Within n s → Within n r
with_within n s i r h w k j t = ⊎_elim (k j) (λ e. subst (λ (x : ℕ). x < n) (eqb→eq i j e) h) (or_cases (has s j) (eqb i j) (subst T (w j) t))

-- ---- what two sets have in common

module _ (n s t r : ℕ) (m : IsMeet s t r) where
  pub common_none : r ≡ 0 → any n (λ j. has s j && has t j) ≡ false
  common_none e = T→false _ (λ a. let (j, _, h) = any_get n (λ j. has s j && has t j) a in subst T (sym (m j) ∙ ap (λ (x : ℕ). has x j) e ∙ has_none j) h)

  pub common_some : Within n s → r ≢ 0 → any n (λ j. has s j && has t j) ≡ true
  common_some w e =
      let (j, h) = some_member r e in
      let b = subst T (m j) h in
      T→true _ (any_make n (λ j. has s j && has t j) j (w j (and_l (has s j) (has t j) b)) b)

-- ---- all numbers below n

pub complete_is : (n e m b u : ℕ) → n ≤ 64 → IsBelow n b → IsJoin e m u → subset 64 b u ≡ all n (λ j. has e j || has m j)
unfolding subset
complete_is n e m b u k B U =
    T-ext _ _
    (λ a. all_make n (λ j. has e j || has m j) (λ j h.
    let x = all_get 64 (λ j. not (has b j) || has u j) a j (omega arith) in
    subst T (U j) (⊎_elim (λ y. absurd (t_not (has b j) y (subst T (sym (B j)) (lt→ltb j n h)))) (λ y. y) (or_cases (not (has b j)) (has u j) x))))
    (λ a. all_make 64 (λ j. not (has b j) || has u j) (λ j h. go j a (T? (has b j))))
  where
    go : (j : ℕ) → T (all n (λ j. has e j || has m j)) → Dec (T (has b j)) → T (not (has b j) || has u j)
    go j a (yes y) = or_r (not (has b j)) (has u j) (subst T (sym (U j)) (all_get n (λ j. has e j || has m j) a j (ltb→lt j n (subst T (B j) y))))
    go j a (no y) = or_l (not (has b j)) (has u j) (not_t (has b j) y)
