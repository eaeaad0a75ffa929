-- Laws of the lent matrix: stray bits by sets, the promise leaves one answer and is what `judge` computes, and what a sound matrix is. Assumes
-- nothing.
use mathlib.Core.Path.{◌≡◌, sym, ap, ◌∙◌, subst}
use mathlib.Core.Logic.{◌≢◌}
use mathlib.Core.Bool.{Bool, true, false, not, ◌&&◌, cond}
use mathlib.Core.List.{List}
use mathlib.Core.Option.{Option, none, some}
use Prim.Native.Nat.{ℕ, ◌+◌, ◌*◌, ◌/◌, ◌^◌, ◌≤◌, ◌<◌}
use native.Mathlib.Nat.{mod-lt, zero-mul}
use native.Mathlib.Decide.{dec_lt}
use native.Mathlib.Omega.{arith}
use lib.Dec.{T, ltb→lt, lt→ltb, leb→le, le→leb, T_not, not_T}
use lib.ListN.{length, get_or}
use lib.Pow.{pow_pos, split}
use borrow.Author.Tests.{lt-ltb, le-ltb}
use Rattle.std.specs.Prelude.{Result, Ok, Err}
use Rattle.sets.specs.Lists.{lowest}
use Rattle.sets.specs.Set.{has, IsBelow, IsLess}
use Rattle.sets.proofs.TestLaws.{and_l, and_r, and_t, any_get, any_make}
use Rattle.sets.proofs.MemberLaws.{lowest_is, lowest_none}
use Rattle.sets.proofs.SetLaws.{has_none, has_beyond, has_shifted, some_member}
use Rattle.clashes.specs.Matrix.{matrix, Valid, HasStray, HasItself, HasOneSided, LowestRow, NoRow, InsideUpTo, ApartUpTo, SoundUpTo, JudgedUpTo, Judged, stray_at, itself_at, one_sided_at, refuse, judge_up_to, judge}
use Rattle.refusals.specs.declared.Invalid.{Invalid}
use Rattle.refusals.specs.declared.Invalid.TheVariants.{Many, Stray, Itself, OneSided}

-- ---- stray bits: what row i has besides the numbers below n

module _ (rows : List ℕ) (i all s : ℕ) (below : IsBelow (length rows) all) (rest : IsLess (get_or rows i 0) all s) where
  pub stray_none : s ≡ 0 → ¬ HasStray rows i
  stray_none e (j, b, t) =
      subst T (sym (rest j) ∙ ap (λ (x : ℕ). has x j) e ∙ has_none j)
      (and_t (matrix rows i j) (not (has all j)) t (not_T (has all j) (λ u. let l = ltb→lt j (length rows) (subst T (below j) u) in let z : ⊥ = omega arith in z)))

  pub stray_some : s ≢ 0 → HasStray rows i
  stray_some q =
      let m = some_member s q in
      let j : ℕ = m.0 in
      let t : T (matrix rows i j && not (has all j)) = subst T (rest j) m.1 in
      (j, out j (and_r (matrix rows i j) (not (has all j)) t), and_l (matrix rows i j) (not (has all j)) t)
    where
      out : (j : ℕ) → T (not (has all j)) → length rows ≤ j
      out j u = go (dec_lt j (length rows))
        where
          go : Dec (j < length rows) → length rows ≤ j
          go (yes l) = absurd (T_not (has all j) u (subst T (sym (below j)) (lt→ltb j (length rows) l)))
          go (no f) = omega arith

-- ---- the tests say what they should

module _ (rows : List ℕ) (i : ℕ) where
  stray_test : T (stray_at rows i) → HasStray rows i
  stray_test t =
      let m = some_member (get_or rows i 0 / 2 ^ length rows) high in
      (length rows + m.0, omega arith, subst T (has_shifted (length rows) (get_or rows i 0) m.0) m.1)
    where
      high : get_or rows i 0 / 2 ^ length rows ≢ 0
      high e =
          let z : get_or rows i 0 / 2 ^ length rows * 2 ^ length rows ≡ 0 = ap (λ (x : ℕ). x * 2 ^ length rows) e ∙ zero-mul (2 ^ length rows) in
          omega (
            arith,
            leb→le (2 ^ length rows) (get_or rows i 0) t,
            split (get_or rows i 0) (length rows),
            mod-lt (get_or rows i 0) (pow_pos (length rows)),
          )

  test_stray : HasStray rows i → T (stray_at rows i)
  test_stray (j, b, t) = go (dec_lt (get_or rows i 0) (2 ^ length rows))
    where
      go : Dec (get_or rows i 0 < 2 ^ length rows) → T (stray_at rows i)
      go (yes l) = absurd (subst T (has_beyond (length rows) (get_or rows i 0) j l b) t)
      go (no q) = le→leb (2 ^ length rows) (get_or rows i 0) (omega arith)

  lone : ℕ → Bool
  lone j = matrix rows i j && not (matrix rows j i)

  one_sided_test : T (one_sided_at rows i) → HasOneSided rows i
  unfolding lone
  one_sided_test t =
      let m = any_get (length rows) lone t in (
        m.0,
        m.1,
        and_l (matrix rows i m.0) (not (matrix rows m.0 i)) m.2,
        T_not (matrix rows m.0 i) (and_r (matrix rows i m.0) (not (matrix rows m.0 i)) m.2),
      )

  test_one_sided : HasOneSided rows i → T (one_sided_at rows i)
  unfolding lone
  test_one_sided (j, b, t, f) = any_make (length rows) lone j b (and_t (matrix rows i j) (not (matrix rows j i)) t (not_T (matrix rows j i) f))

module _ (p : ℕ → Bool) (P : ℕ → Type 0) (test : (i : ℕ) → P i → T (p i)) (says : (i : ℕ) → T (p i) → P i) (n : ℕ) where
  at_lowest : (i : ℕ) → LowestRow P n i → lowest p n ≡ some i
  at_lowest i l = lowest_is p n i l.below (test i l.here) (λ j b t. l.before j b (says j t))

  at_none : NoRow P n → lowest p n ≡ none
  at_none f = lowest_none p n (λ j b t. f j b (says j t))

-- ---- the promise leaves one answer: the one that `judge` computes

module _ (rows : List ℕ) where
  stray-at : (i : ℕ) → LowestRow (HasStray rows) (length rows) i → lowest (stray_at rows) (length rows) ≡ some i
  stray-at = at_lowest (stray_at rows) (HasStray rows) (test_stray rows) (stray_test rows) (length rows)

  no_stray_at : NoRow (HasStray rows) (length rows) → lowest (stray_at rows) (length rows) ≡ none
  no_stray_at = at_none (stray_at rows) (HasStray rows) (test_stray rows) (stray_test rows) (length rows)

  itself-at : (i : ℕ) → LowestRow (HasItself rows) (length rows) i → lowest (itself_at rows) (length rows) ≡ some i
  itself-at = at_lowest (itself_at rows) (HasItself rows) (λ i t. t) (λ i t. t) (length rows)

  no_itself_at : NoRow (HasItself rows) (length rows) → lowest (itself_at rows) (length rows) ≡ none
  no_itself_at = at_none (itself_at rows) (HasItself rows) (λ i t. t) (λ i t. t) (length rows)

  one-sided-at : (i : ℕ) → LowestRow (HasOneSided rows) (length rows) i → lowest (one_sided_at rows) (length rows) ≡ some i
  one-sided-at = at_lowest (one_sided_at rows) (HasOneSided rows) (test_one_sided rows) (one_sided_test rows) (length rows)

  no_one_sided_at : NoRow (HasOneSided rows) (length rows) → lowest (one_sided_at rows) (length rows) ≡ none
  no_one_sided_at = at_none (one_sided_at rows) (HasOneSided rows) (test_one_sided rows) (one_sided_test rows) (length rows)

  -- the three searches, one behind the other
  after_many : Option ℕ → Option ℕ → Option ℕ → Result Unit Invalid
  after_many s t o = refuse s Stray (refuse t Itself (refuse o OneSided (Ok tt)))

  abbrev searched : Result Unit Invalid
  searched = after_many (lowest (stray_at rows) (length rows)) (lowest (itself_at rows) (length rows)) (lowest (one_sided_at rows) (length rows))

module _ (most : ℕ) (rows : List ℕ) where
  judge_few : length rows ≤ most → (s : Option ℕ) → lowest (stray_at rows) (length rows) ≡ s
      → judge_up_to most rows ≡ after_many rows s (lowest (itself_at rows) (length rows)) (lowest (one_sided_at rows) (length rows))
  unfolding after_many
  judge_few h s e =
      ap (λ (b : Bool). cond b (Err Many) (searched rows)) (le-ltb most (length rows) h)
      ∙ ap (λ (x : Option ℕ). after_many rows x (lowest (itself_at rows) (length rows)) (lowest (one_sided_at rows) (length rows))) e

  judge_inside : InsideUpTo most rows → (t : Option ℕ) → lowest (itself_at rows) (length rows) ≡ t
      → judge_up_to most rows ≡ after_many rows none t (lowest (one_sided_at rows) (length rows))
  judge_inside h t e =
      judge_few h.few none (no_stray_at rows h.no_stray) ∙ ap (λ (x : Option ℕ). after_many rows none x (lowest (one_sided_at rows) (length rows))) e

  judge_apart : ApartUpTo most rows → (o : Option ℕ) → lowest (one_sided_at rows) (length rows) ≡ o → judge_up_to most rows ≡ after_many rows none none o
  judge_apart h o e = judge_inside h.inside none (no_itself_at rows h.no_itself) ∙ ap (after_many rows none none) e

  pub judged_up_to_is : (a : Result Unit Invalid) → JudgedUpTo most rows a → judge_up_to most rows ≡ a
  unfolding after_many
  judged_up_to_is (Ok tt) p = judge_apart p.apart none (no_one_sided_at rows p.no_one_sided)
  judged_up_to_is (Err Many) p = ap (λ (b : Bool). cond b (Err Many) (searched rows)) (lt-ltb most (length rows) p)
  judged_up_to_is (Err (Stray i)) p = judge_few p.0 (some i) (stray-at rows i p.1)
  judged_up_to_is (Err (Itself i)) p = judge_inside p.0 (some i) (itself-at rows i p.1)
  judged_up_to_is (Err (OneSided i)) p = judge_apart p.0 (some i) (one-sided-at rows i p.1)

  pub judged_up_to_unique : (a b : Result Unit Invalid) → JudgedUpTo most rows a → JudgedUpTo most rows b → a ≡ b
  judged_up_to_unique a b p q = sym (judged_up_to_is a p) ∙ judged_up_to_is b q

pub judged_is : (rows : List ℕ) (a : Result Unit Invalid) → Judged rows a → judge rows ≡ a
judged_is = judged_up_to_is 64

pub judged_unique : (rows : List ℕ) (a b : Result Unit Invalid) → Judged rows a → Judged rows b → a ≡ b
judged_unique = judged_up_to_unique 64

-- ---- a sound matrix is a valid list, and the other way round

pub sound_valid : {most : ℕ} (rows : List ℕ) → SoundUpTo most rows → Valid (length rows) (matrix rows)
sound_valid rows s = record {
  no_self = s.apart.no_itself;
  both_ways = λ x y a b t. by-T (matrix rows y x) (λ f. s.no_one_sided x a (y, b, t, f));
}
  where
    by-T : (b : Bool) → ((T b → ⊥) → ⊥) → T b
    by-T true f = tt
    by-T false f = f (λ t. t)
