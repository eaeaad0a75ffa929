-- Laws of the members of a test below n: how many there are, which they are, the lowest of them. Assumes nothing.
use mathlib.Core.Path.{◌≡◌, refl, sym, ap, ap₂, ◌∙◌, subst}
use mathlib.Core.Logic.{◌⊎◌, inl, inr, ◌≢◌}
use mathlib.Core.Bool.{Bool, true, false, not, ◌&&◌}
use mathlib.Core.List.{List, [], ◌∷◌, ◌++◌, append-nil}
use mathlib.Core.Option.{Option, none, some}
use Prim.Native.Nat.{ℕ, zero, suc, ◌+◌, ◌≤◌, ◌<◌}
use native.Mathlib.Nat.{not-suc-le-zero}
use native.Mathlib.Decide.{ℕ_discrete}
use native.Mathlib.Omega.{arith}
use lib.Dec.{T, eqb}
use lib.ListN.{length, length-append}
use borrow.Author.Tests.{ne_eqb}
use Rattle.sets.specs.Lists.{bit, In, NoDup, count, table, upto, keep, members, first, lowest}
use Rattle.sets.proofs.TestLaws.{bit_few, bit_one, bit_zero, T?, and_r, and_true, eqb_same}
use Rattle.sets.proofs.ListLaws.{count_append, table_suc, In-append, In-append_l, In-append_r, no_dup_append}

pub count_upto : (p : ℕ → Bool) (n : ℕ) → count p (upto (suc n)) ≡ count p (upto n) + bit (p n)
unfolding upto
count_upto p n = omega (arith, ap (count p) (table_suc (λ i. i) n), count_append p (table (λ i. i) n) (n ∷ []))

-- no more than n numbers below n pass
pub count_few : (p : ℕ → Bool) (n : ℕ) → count p (upto n) ≤ n
unfolding upto
count_few p zero = omega arith
count_few p (suc n) = omega (arith, count_upto p n, bit_few (p n), count_few p n)

-- two tests that agree below n count the same there
pub count_agree : (n : ℕ) (p q : ℕ → Bool) → ((j : ℕ) → j < n → p j ≡ q j) → count p (upto n) ≡ count q (upto n)
unfolding upto
count_agree zero p q h = refl
count_agree (suc n) p q h =
    omega (arith, count_upto p n, count_upto q n, ap bit (h n (omega arith)), count_agree n p q (λ j l. h j (omega arith)))

-- two tests that agree everywhere but at w count the same but for w
pub count_but : (n : ℕ) (p q : ℕ → Bool) (w : ℕ) → w < n → ((j : ℕ) → j ≢ w → q j ≡ p j)
    → count q (upto n) + bit (p w) ≡ count p (upto n) + bit (q w)
count_but zero p q w a h = absurd (not-suc-le-zero a)
count_but (suc n) p q w a h = go (ℕ_discrete w n) (λ b. count_but n p q w b h)
  where
    go : Dec (w ≡ n) → (w < n → count q (upto n) + bit (p w) ≡ count p (upto n) + bit (q w))
        → count q (upto (suc n)) + bit (p w) ≡ count p (upto (suc n)) + bit (q w)
    go (yes e) r =
        omega (arith, count_upto p n, count_upto q n, ap (λ (x : ℕ). bit (p x)) e, ap (λ (x : ℕ). bit (q x)) e, count_agree n q p (λ j l. h j (λ z. absurd (omega arith))))
    go (no d) r = omega (arith, count_upto p n, count_upto q n, ap bit (h n (λ z. d (sym z))), r (omega arith))

-- where one of them fails at w, and the other passes
pub count_out : (n : ℕ) (p q : ℕ → Bool) (w : ℕ) → w < n → T (p w) → ¬ T (q w) → ((j : ℕ) → j ≢ w → q j ≡ p j)
    → suc (count q (upto n)) ≡ count p (upto n)
count_out n p q w a t f h = omega (arith, count_but n p q w a h, bit_one (p w) t, bit_zero (q w) f)

pub members_count : (p : ℕ → Bool) (n : ℕ) → length (members p n) ≡ count p (upto n)
unfolding upto
members_count p zero = refl
members_count p (suc n) = omega (arith, length-append (members p n) (keep (p n) n), kept (p n), members_count p n, count_upto p n)
  where
    kept : (b : Bool) → length (keep b n) ≡ bit b
    kept true = refl
    kept false = refl

pub members_agree : (n : ℕ) (p q : ℕ → Bool) → ((j : ℕ) → j < n → p j ≡ q j) → members p n ≡ members q n
members_agree zero p q h = refl
members_agree (suc n) p q h =
    ap₂ (λ (l : List ℕ) (b : Bool). l ++ keep b n) (members_agree n p q (λ j l. h j (omega arith))) (h n (omega arith))

keep_none : (b : Bool) (n : ℕ) → ¬ T b → keep b n ≡ []
keep_none true n q = absurd (q tt)
keep_none false n q = refl

pub members_none : (p : ℕ → Bool) (n : ℕ) → ((j : ℕ) → j < n → ¬ T (p j)) → members p n ≡ []
members_none p zero f = refl
members_none p (suc n) f = ap (λ (l : List ℕ). l ++ keep (p n) n) (members_none p n (λ j b. f j (omega arith))) ∙ keep_none (p n) n (f n (omega arith))

-- a test that passes nowhere from n on
pub members_narrow : (p : ℕ → Bool) (n k : ℕ) → n ≤ k → ((j : ℕ) → n ≤ j → ¬ T (p j)) → members p k ≡ members p n
members_narrow p n zero b f = let e : zero ≡ n = omega arith in ap (members p) e
members_narrow p n (suc k) b f = go (ℕ_discrete n (suc k)) (λ c. members_narrow p n k c f)
  where
    go : Dec (n ≡ suc k) → (n ≤ k → members p k ≡ members p n) → members p k ++ keep (p k) k ≡ members p n
    go (yes e) r = ap (members p) (sym e)
    go (no q) r =
        let c : n ≤ k = omega arith in
        ap (λ (l : List ℕ). members p k ++ l) (keep_none (p k) k (f k c)) ∙ append-nil (members p k) ∙ r c

pub count_narrow : (p : ℕ → Bool) (n k : ℕ) → n ≤ k → ((j : ℕ) → n ≤ j → ¬ T (p j)) → count p (upto k) ≡ count p (upto n)
count_narrow p n k b f = sym (members_count p k) ∙ ap length (members_narrow p n k b f) ∙ members_count p n

-- the lowest member and the others
pub members_lowest : (n : ℕ) (p q : ℕ → Bool) (w : ℕ) → w < n → T (p w) → ((j : ℕ) → j < w → ¬ T (p j)) → ¬ T (q w)
    → ((j : ℕ) → j ≢ w → q j ≡ p j) → members p n ≡ w ∷ members q n
members_lowest zero p q w a t f g h = absurd (not-suc-le-zero a)
members_lowest (suc n) p q w a t f g h = go (ℕ_discrete w n) (λ b. members_lowest n p q w b t f g h)
  where
    one : (b : Bool) → T b → keep b n ≡ n ∷ []
    one true t = refl
    one false t = absurd t

    none_at : (b : Bool) → ¬ T b → keep b n ≡ []
    none_at true t = absurd (t tt)
    none_at false t = refl

    go : Dec (w ≡ n) → (w < n → members p n ≡ w ∷ members q n) → members p n ++ keep (p n) n ≡ w ∷ (members q n ++ keep (q n) n)
    go (yes e) r =
        let below : (j : ℕ) → j < n → ¬ T (p j) = λ j l. f j (omega arith) in
        let l : members p n ++ keep (p n) n ≡ n ∷ [] =
        ap (λ (l : List ℕ). l ++ keep (p n) n) (members_none p n below) ∙ one (p n) (subst (λ (z : ℕ). T (p z)) e t) in
        let m : members q n ≡ [] = members_none q n (λ j l. λ t. below j l (subst T (h j (λ z. absurd (omega arith))) t)) in
        let k : keep (q n) n ≡ [] = none_at (q n) (subst (λ (z : ℕ). ¬ T (q z)) e g) in
        l ∙ ap (λ (x : ℕ). x ∷ []) (sym e) ∙ ap (λ (l : List ℕ). w ∷ l) (sym (ap₂ (λ (x y : List ℕ). x ++ y) m k))
    go (no d) r =
        ap (λ (l : List ℕ). l ++ keep (p n) n) (r (omega arith)) ∙ ap (λ (b : Bool). w ∷ (members q n ++ keep b n)) (sym (h n (λ z. d (sym z))))

pub lowest_is : (p : ℕ → Bool) (n w : ℕ) → w < n → T (p w) → ((j : ℕ) → j < w → ¬ T (p j)) → lowest p n ≡ some w
lowest_is p n w a t f =
    ap first (members_lowest n p (λ j. p j && not (eqb w j)) w a t f out same)
  where
    out : ¬ T (p w && not (eqb w w))
    out t = subst (λ (b : Bool). T (not b)) (eqb_same w) (and_r (p w) (not (eqb w w)) t)

    same : (j : ℕ) → j ≢ w → (p j && not (eqb w j)) ≡ p j
    same j d = ap (λ (b : Bool). p j && not b) (ne_eqb w j (λ e. d (sym e))) ∙ and_true (p j)

pub lowest_none : (p : ℕ → Bool) (n : ℕ) → ((j : ℕ) → j < n → ¬ T (p j)) → lowest p n ≡ none
lowest_none p n f = ap first (members_none p n f)

-- what the lowest is: it passes and none below it does, or none passes
pub record IsLeast (p : ℕ → Bool) (n w : ℕ) : Type 0 where
  pub below : w < n
  pub passes : T (p w)
  pub least : (j : ℕ) → j < w → ¬ T (p j)

pub data Lowest (p : ℕ → Bool) (n : ℕ) : Option ℕ → Type 0 where
  found : (w : ℕ) → IsLeast p n w → Lowest p n (some w)
  nowhere : ((j : ℕ) → j < n → ¬ T (p j)) → Lowest p n none

pub lowest_cases : (p : ℕ → Bool) (n : ℕ) → Lowest p n (lowest p n)
lowest_cases p zero = nowhere (λ j b. absurd (not-suc-le-zero b))
lowest_cases p (suc n) = go (lowest p n) (lowest_cases p n)
  where
    at_n : ((j : ℕ) → j < n → ¬ T (p j)) → Dec (T (p n)) → Lowest p (suc n) (lowest p (suc n))
    at_n f (yes t) =
        subst (Lowest p (suc n)) (sym (lowest_is p (suc n) n (omega arith) t f)) (found n (record { below = omega arith; passes = t; least = f }))
    at_n f (no q) = subst (Lowest p (suc n)) (sym (lowest_none p (suc n) all_fail)) (nowhere all_fail)
      where
        all_fail : (j : ℕ) → j < suc n → ¬ T (p j)
        all_fail j b = by (ℕ_discrete j n)
          where
            by : Dec (j ≡ n) → ¬ T (p j)
            by (yes e) t = q (subst (λ (x : ℕ). T (p x)) e t)
            by (no d) t = f j (omega arith) t

    go : (o : Option ℕ) → Lowest p n o → Lowest p (suc n) (lowest p (suc n))
    go o (found w l) =
        subst (Lowest p (suc n)) (sym (lowest_is p (suc n) w (omega (arith, l.below)) l.passes l.least))
        (found w (record { below = omega (arith, l.below); passes = l.passes; least = l.least }))
    go o (nowhere f) = at_n f (T? (p n))

pub In-members : (p : ℕ → Bool) (n x : ℕ) → In x (members p n) → (x < n) × T (p x)
In-members p zero x h = absurd h
In-members p (suc n) x h = go (In-append x (members p n) (keep (p n) n) h) (In-members p n x)
  where
    kept : (b : Bool) → In x (keep b n) → (x ≡ n) × T b
    kept true (inl e) = (e, tt)
    kept true (inr f) = absurd f
    kept false f = absurd f

    go : In x (members p n) ⊎ In x (keep (p n) n) → (In x (members p n) → (x < n) × T (p x)) → (x < suc n) × T (p x)
    go (inl i) r = let t = r i in (omega arith, t.1)
    go (inr i) r = let t = kept (p n) i in (omega arith, rw t.0 t.1)

pub members-In : (p : ℕ → Bool) (n x : ℕ) → x < n → T (p x) → In x (members p n)
members-In p zero x b t = absurd (not-suc-le-zero b)
members-In p (suc n) x b t = go (ℕ_discrete x n) (members-In p n x)
  where
    kept : (b : Bool) → T b → In n (keep b n)
    kept true t = inl refl
    kept false t = absurd t

    go : Dec (x ≡ n) → (x < n → T (p x) → In x (members p n)) → In x (members p n ++ keep (p n) n)
    go (yes e) r = In-append_r x (members p n) (keep (p n) n) (subst (λ z. In z (keep (p n) n)) (sym e) (kept (p n) (rw e at t)))
    go (no a) r = In-append_l x (members p n) (keep (p n) n) (r (omega arith) t)

pub members_no_dup : (p : ℕ → Bool) (n : ℕ) → NoDup (members p n)
members_no_dup p zero = tt
members_no_dup p (suc n) = no_dup_append (members p n) (keep (p n) n) (members_no_dup p n) (alone (p n)) (λ x i j. above x (p n) (In-members p n x i).0 j)
  where
    alone : (b : Bool) → NoDup (keep b n)
    alone true = (λ i. i, tt)
    alone false = tt

    above : (x : ℕ) (b : Bool) → x < n → In x (keep b n) → ⊥
    above x true h (inl e) = omega arith
    above x true h (inr j) = j
    above x false h j = j
