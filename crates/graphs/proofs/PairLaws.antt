-- Laws of the pairs below two numbers, and the rules by which `search` takes a test apart (`out`) and puts one together (`in-to`).
-- Assumes nothing.
use mathlib.Core.Path.{◌≡◌}
use mathlib.Core.Logic.{◌≢◌}
use mathlib.Core.Bool.{Bool, true, false, not, ◌&&◌}
use mathlib.Core.List.{List, [], ◌∷◌, ◌++◌}
use Prim.Native.Nat.{ℕ, zero, suc, ◌*◌, ◌≤◌, ◌<◌, zero-le}
use native.Mathlib.Nat.{not-suc-le-zero}
use native.Mathlib.Decide.{ℕ_discrete}
use native.Mathlib.Omega.{arith}
use lib.Dec.{T, eqb, eqb→eq, ltb→lt, lt→ltb, T_not, not_T}
use lib.ListN.{length, length-append}
use Rattle.sets.specs.Lists.{bit, In, count, table, cross}
use Rattle.sets.proofs.TestLaws.{and_l, and_r, and_t, or_l, or_r, eqb_of}
use Rattle.sets.proofs.ListLaws.{In-table, length_table, In-append_l, In-append_r}

-- ---- tests

pub ne_of : (m k : ℕ) → m ≢ k → T (not (eqb m k))
ne_of m k q = not_T (eqb m k) (λ t. q (eqb→eq m k t))

pub of_ne : (m k : ℕ) → T (not (eqb m k)) → m ≢ k
of_ne m k t e = T_not (eqb m k) t (eqb_of m k e)

-- both tests pass where two numbers are equal and a test passes
pub both : (m k : ℕ) (b : Bool) → m ≡ k → T b → T (eqb m k && b)
both m k b e t = and_t (eqb m k) b (eqb_of m k e) t

pub un_both : (m k : ℕ) (b : Bool) → T (eqb m k && b) → (m ≡ k) × T b
un_both m k b t = (eqb→eq m k (and_l (eqb m k) b t), and_r (eqb m k) b t)

-- what a passed test says, and what passes a test
pub ruleset out = (and_l, and_r, ltb→lt, eqb→eq, of_ne)

pub ruleset in-to = (and_t, lt→ltb, eqb_of, ne_of, not_T, or_l, or_r)

-- ---- pairs

pub In-cross : (k n x y : ℕ) → x < k → y < n → In (x, y) (cross k n)
In-cross zero n x y a b = absurd (not-suc-le-zero a)
In-cross (suc k) n x y a b = go (ℕ_discrete x k) (λ h. In-cross k n x y h b)
  where
    go : Dec (x ≡ k) → (x < k → In (x, y) (cross k n)) → In (x, y) (cross k n ++ table (λ y. (k, y)) n)
    go (yes e) r = In-append_r (x, y) (cross k n) (table (λ y. (k, y)) n) (rw e (In-table {A = ℕ × ℕ} (λ y. (k, y)) n y b))
    go (no q) r = In-append_l (x, y) (cross k n) (table (λ y. (k, y)) n) (r (omega arith))

pub length_cross : (k n : ℕ) → length (cross k n) ≡ k * n
length_cross zero n = omega arith
length_cross (suc k) n = omega (arith, length-append (cross k n) (table (λ y. (k, y)) n), length_table {A = ℕ × ℕ} (λ y. (k, y)) n, length_cross k n)

pub count_length : {A : Type 0} (p : A → Bool) (l : List A) → count p l ≤ length l
count_length p [] = zero-le
count_length p (x ∷ l) = omega (arith, one (p x), count_length p l)
  where
    one : (b : Bool) → bit b ≤ 1
    one true = omega arith
    one false = omega arith
