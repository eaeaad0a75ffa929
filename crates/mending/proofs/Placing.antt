-- Entries put again: which they are, the first group that admits one, and what the groups are then.
use Prim.Native.Nat.{ℕ, zero, suc, ◌+◌, ◌-◌, ◌^◌, ◌≤◌, ◌<◌, suc-le-suc, zero-le}
use mathlib.Core.Path.{◌≡◌, refl, sym, ap, subst, fun_ext, ◌∙◌}
use mathlib.Core.Logic.{⊎_elim}
use mathlib.Core.List.{List, [], ◌∷◌, ◌++◌, map, map-append}
use mathlib.Core.Bool.{Bool, true, false, cond, not, ◌&&◌, ◌||◌}
use native.Mathlib.Nat.{le_of_suc-le-suc, not-suc-le-zero}
use native.Mathlib.Omega.{arith}
use borrow.Author.Tests.{lt-ltb, ltb-false}
use lib.Bits.{bit_and}
use lib.Dec.{T, eqb, ltb, ltb→lt}
use lib.ListN.{length, take, set, get_or}
use lib.Seq.{take-set-lt, length-take-le, get_or-take}
use Rattle.std.specs.Prelude.{Option, None, Some}
use Rattle.std.specs.List.{position, position_or_len}
use Rattle.std.proofs.lemmas.List.Quantifiers.{position-Some}
use Rattle.std.proofs.lemmas.List.Sums.{fails_before_first}
use Rattle.sets.specs.Lists.{bit, count, upto, members}
use Rattle.sets.specs.Set.{has, size, IsWith, IsWithout, IsJoin, IsLess, IsBelow, IsLowest}
use Rattle.sets.proofs.TestLaws.{and_l, and_r, or_cases, t_not}
use Rattle.sets.proofs.MemberLaws.{count_upto, members_agree, members_none, members_narrow}
use Rattle.sets.proofs.SetLaws.{has_none, without_is, size_without, members_cons}
use Rattle.sheets.specs.Sound.{Within}
use Rattle.mends.specs.Mend.{with, clashes, admit}
use Rattle.mending.specs.Held.{FitsAt}
use Rattle.mending.specs.Places.{AgainOf}
use Rattle.mending.specs.declared.Gone.{Gone}
use Rattle.mending.proofs.HeldLaws.{not_false, not_true}

-- ---- which they are

-- two tests count no more than one of them and the other do
or_most : (p q r : ℕ → Bool) → ((j : ℕ) → r j ≡ (p j || q j)) → (n : ℕ) → count r (upto n) ≤ count p (upto n) + count q (upto n)
unfolding upto
or_most p q r h zero = omega arith
or_most p q r h (suc n) = omega (arith, count_upto p n, count_upto q n, count_upto r n, or_most p q r h n, bits (p n) (q n), ap bit (h n))
  where
    bits : (a b : Bool) → bit (a || b) ≤ bit a + bit b
    bits true b = omega arith
    bits false b = omega arith

apart_most : (p q : ℕ → Bool) → ((j : ℕ) → T (p j) → ¬ T (q j)) → (n : ℕ) → count p (upto n) + count q (upto n) ≤ n
unfolding upto
apart_most p q h zero = omega arith
apart_most p q h (suc n) = omega (arith, count_upto p n, count_upto q n, apart_most p q h n, bits (p n) (q n) (h n))
  where
    bits : (a b : Bool) → (T a → ¬ T b) → bit a + bit b ≤ 1
    bits true true k = absurd (k tt tt)
    bits true false k = omega arith
    bits false true k = omega arith
    bits false false k = omega arith

module _ (n : ℕ) (few : n ≤ 64) (g : Gone) (f : FitsAt 64 n g) (b a r : ℕ) (B : IsBelow n b) (A : IsLess b g.seen a) (R : IsJoin g.lifted a r) where
  absent : (j : ℕ) → T (has a j) → (j < n) × ¬ T (has g.seen j)
  absent j t =
      let u = subst T (A j) t in
      (ltb→lt j n (subst T (B j) (and_l (has b j) (not (has g.seen j)) u)), t_not (has g.seen j) (and_r (has b j) (not (has g.seen j)) u))

  below : (j : ℕ) → T (has r j) → j < n
  below j t = ⊎_elim (λ u. f.lifted j u) (λ u. (absent j u).0) (or_cases (has g.lifted j) (has a j) (subst T (R j) t))

  pub again_is : AgainOf n g r
  again_is = record {
    is =
        members_narrow (has r) n 64 few (λ j h t. omega (arith, below j t))
        ∙ members_agree n (has r) (λ e. has g.lifted e || not (has g.seen e))
        (λ j h. R j ∙ ap (λ (x : Bool). has g.lifted j || x) (A j ∙ ap (λ (x : Bool). x && not (has g.seen j)) (B j ∙ lt-ltb j n h)));
    within = below;
    room =
        omega (
          arith,
          f.room,
          or_most (has g.lifted) (has a) (has r) R 64,
          apart_most (has a) (has g.seen) (λ j t. (absent j t).1) 64,
        );
  }

-- ---- the first group that admits an entry

-- where none passes, each fails
none_before : (p : ℕ → Bool) (l : List ℕ) → position p l ≡ None → (i : ℕ) → i < length l → p (get_or l i 0) ≡ false
none_before p l q i h = go (ltb (position_or_len p l) (length l)) refl q
  where
    go : (b : Bool) → ltb (position_or_len p l) (length l) ≡ b → ◌≡◌ {A = Option ℕ} (cond b (Some (position_or_len p l)) None) None → p (get_or l i 0) ≡ false
    go true e q = let z : ◌≡◌ {A = ℕ} 0 1 = cc in absurd (omega arith)
    go false e q = fails_before_first p l i 0 (omega (arith, ltb-false (position_or_len p l) (length l) e))

module _ (n : ℕ) (clash : ℕ → ℕ → Bool) (e : ℕ) where
  -- it is put into that one
  admit_at : (l : List ℕ) (j : ℕ) → j < length l → ((i : ℕ) → i < j → clashes n clash (has (get_or l i 0)) e ≡ true) → clashes n clash (has (get_or l j 0)) e ≡ false
      → (x : ℕ) → IsWith (get_or l j 0) e x → admit n clash (map has l) e ≡ map has (set l j x)
  admit_at [] j h b c x U = absurd (not-suc-le-zero h)
  admit_at (s ∷ l) zero h b c x U =
      ap (λ (y : Bool). cond y (has s ∷ admit n clash (map has l) e) (with (has s) e ∷ map has l)) c
      ∙ ap (λ (p : ℕ → Bool). p ∷ map has l) (sym (fun_ext U))
  admit_at (s ∷ l) (suc j) h b c x U =
      ap (λ (y : Bool). cond y (has s ∷ admit n clash (map has l) e) (with (has s) e ∷ map has l)) (b 0 (suc-le-suc zero-le))
      ∙ ap (λ (y : List (ℕ → Bool)). has s ∷ y) (admit_at l j (le_of_suc-le-suc h) (λ i k. b (suc i) (suc-le-suc k)) c x U)

  -- or into a new one
  admit_new : (l : List ℕ) → ((i : ℕ) → i < length l → clashes n clash (has (get_or l i 0)) e ≡ true) → (x : ℕ) → IsWith 0 e x
      → admit n clash (map has l) e ≡ map has (l ++ x ∷ [])
  admit_new [] b x U = ap (λ (p : ℕ → Bool). p ∷ []) (sym (fun_ext (λ j. U j ∙ ap (λ (y : Bool). y || eqb e j) (has_none j))))
  admit_new (s ∷ l) b x U =
      ap (λ (y : Bool). cond y (has s ∷ admit n clash (map has l) e) (with (has s) e ∷ map has l)) (b 0 (suc-le-suc zero-le))
      ∙ ap (λ (y : List (ℕ → Bool)). has s ∷ y) (admit_new l (λ i k. b (suc i) (suc-le-suc k)) x U)

  -- of the first `many` sets of an array
  pub admitted_at : (many : ℕ) (l : List ℕ) → many ≤ length l → (j : ℕ) → position (λ s. not (clashes n clash (has s) e)) (take many l) ≡ Some j
      → (x : ℕ) → IsWith (get_or l j 0) e x → map has (take many (set l j x)) ≡ admit n clash (map has (take many l)) e
  admitted_at many l few j q x U =
      let p = position-Some (λ s. not (clashes n clash (has s) e)) (take many l) j 0 q in
      let h : j < many = omega (arith, p.0, length-take-le many l few) in
      ap (map has) (take-set-lt many l j x h)
      ∙ sym (admit_at (take many l) j p.0 (λ i k. not_false _ (p.2 i k)) (not_true _ p.1) x (subst (λ (s : ℕ). IsWith s e x) (sym (get_or-take many l j 0 h)) U))

  pub admitted_new : (l : List ℕ) → position (λ s. not (clashes n clash (has s) e)) l ≡ None → (x : ℕ) → IsWith 0 e x
      → admit n clash (map has l) e ≡ map has l ++ has x ∷ []
  admitted_new l q x U = admit_new l (λ i h. not_false _ (none_before (λ s. not (clashes n clash (has s) e)) l q i h)) x U ∙ map-append has l (x ∷ [])

-- ---- one after the other

module _ (n left w : ℕ) (W : IsLowest 64 left w) (rest : ℕ) (R : IsWithout left w rest) where
  pub rest_size : suc (size 64 rest) ≡ size 64 left
  rest_size = size_without 64 left w rest W.below W.member R

  pub rest_members : members (has left) 64 ≡ w ∷ members (has rest) 64
  rest_members = members_cons 64 left w rest W R

  pub rest_within : Within n left → Within n rest
  rest_within h j t = h j (and_l (has left j) (not (eqb w j)) (subst T (R j) t))

pub some_left : (left w : ℕ) → IsLowest 64 left w → 1 ≤ size 64 left
some_left left w W = omega (arith, size_without 64 left w (left - bit_and left (2 ^ w)) W.below W.member (without_is left w))

pub none_left : (s : ℕ) → s ≡ 0 → members (has s) 64 ≡ []
none_left s z = members_none (has s) 64 (λ j h t. subst T (ap (λ (x : ℕ). has x j) z ∙ has_none j) t)
