-- Numbers in several words, of any number of words: what holds word by word holds of the whole. Assumes nothing.
use mathlib.Core.Path.{◌≡◌, refl, sym, ap, ap₂, ◌∙◌, subst}
use mathlib.Core.Bool.{Bool, true, false, not, cond, ◌&&◌, ◌||◌}
use mathlib.Core.List.{List, [], ◌∷◌}
use Prim.Native.Nat.{ℕ, suc, ◌+◌, ◌*◌, ◌-◌, ◌^◌, ◌≤◌, ◌<◌}
use native.Mathlib.Decide.{dec_lt}
use native.Mathlib.Numerals.{add-one}
use native.Mathlib.Omega.{arith}
use lib.Bits.{bit_and, bit_or, and_lt, or_lt}
use lib.Count.{ones_cat}
use lib.Dec.{T, eqb, ltb, eqb→eq, ltb→lt, lt→ltb}
use lib.ListN.{length, take, drop, get_or}
use lib.Pow.{pow-add}
use lib.Seq.{drop-cons, ext_get_or}
use borrow.Author.Tests.{lt-ltb, le-ltb}
use Rattle.sets.specs.Set.{has, size, IsLowest}
use Rattle.sets.proofs.SetLaws.{has_cat, has_none, ones_size, join_is, meet_is, less_is}
use Rattle.sets.proofs.TestLaws.{T-ext, eqb_of}
use Rattle.sets.proofs.ListLaws.{length_table, get_d_table}
use Rattle.wide.specs.Words.{wide, row, rows_of}

-- ---- what goes digit by digit, as joins, meets and differences do

-- three words, whose digits are related by g
pub record Word (g : Bool → Bool → Bool) (x y z : ℕ) : Type 0 where
  pub fits_x : x < 2 ^ 64
  pub fits_y : y < 2 ^ 64
  pub fits_z : z < 2 ^ 64
  pub is : (j : ℕ) → has z j ≡ g (has x j) (has y j)

pub data Words (g : Bool → Bool → Bool) : List ℕ → List ℕ → List ℕ → Type 0 where
  none : Words g [] [] []
  more : {x y z : ℕ} {k l m : List ℕ} → Word g x y z → Words g k l m → Words g (x ∷ k) (y ∷ l) (z ∷ m)

-- low words and high parts that go digit by digit do so together
both : (g : Bool → Bool → Bool) (x y z p q r : ℕ) → Word g x y z → ((j : ℕ) → has r j ≡ g (has p j) (has q j)) → (j : ℕ)
    → has (r * 2 ^ 64 + z) j ≡ g (has (p * 2 ^ 64 + x) j) (has (q * 2 ^ 64 + y) j)
both g x y z p q r w h j =
    has_cat 64 r z j w.fits_z ∙ go (ltb j 64) ∙ ap₂ g (sym (has_cat 64 p x j w.fits_x)) (sym (has_cat 64 q y j w.fits_y))
  where
    go : (t : Bool) → cond t (has z j) (has r (j - 64)) ≡ g (cond t (has x j) (has p (j - 64))) (cond t (has y j) (has q (j - 64)))
    go true = w.is j
    go false = h (j - 64)

pub wide_op : (g : Bool → Bool → Bool) → g false false ≡ false → {k l m : List ℕ} → Words g k l m → (j : ℕ) → has (wide m) j ≡ g (has (wide k) j) (has (wide l) j)
unfolding wide
wide_op g e none j = has_none j ∙ sym e ∙ sym (ap₂ g (has_none j) (has_none j))
wide_op g e (more {x} {y} {z} {k} {l} {m} w ws) j = both g x y z (wide k) (wide l) (wide m) w (λ i. wide_op g e ws i) j

pub op_four : (g : Bool → Bool → Bool) → g false false ≡ false → {x y z x' y' z' x'' y'' z'' x''' y''' z''' : ℕ}
    → Word g x y z → Word g x' y' z' → Word g x'' y'' z'' → Word g x''' y''' z'''
    → (j : ℕ) → has (wide (z ∷ z' ∷ z'' ∷ z''' ∷ [])) j ≡ g (has (wide (x ∷ x' ∷ x'' ∷ x''' ∷ [])) j) (has (wide (y ∷ y' ∷ y'' ∷ y''' ∷ [])) j)
op_four g e p q r s = wide_op g e (more p (more q (more r (more s none))))

pub and_word : {x y : ℕ} → x < 2 ^ 64 → y < 2 ^ 64 → Word ◌&&◌ x y (bit_and x y)
and_word {x} {y} a b = record { fits_x = a; fits_y = b; fits_z = and_lt 64 x y a b; is = meet_is x y }

pub or_word : {x y : ℕ} → x < 2 ^ 64 → y < 2 ^ 64 → Word ◌||◌ x y (bit_or x y)
or_word {x} {y} a b = record { fits_x = a; fits_y = b; fits_z = or_lt 64 x y a b; is = join_is x y }

pub less_word : {x y : ℕ} → x < 2 ^ 64 → y < 2 ^ 64 → Word (λ p q. p && not q) x y (x - bit_and x y)
less_word {x} {y} a b = record { fits_x = a; fits_y = b; fits_z = omega arith; is = less_is x y }

-- ---- one after the other

-- l are words, of n digits in all
pub data Fit : ℕ → List ℕ → Type 0 where
  none : Fit 0 []
  more : {n x : ℕ} {l : List ℕ} → x < 2 ^ 64 → Fit n l → Fit (64 + n) (x ∷ l)

pub wide_lt : {n : ℕ} {l : List ℕ} → Fit n l → wide l < 2 ^ n
unfolding wide
wide_lt none = omega arith
wide_lt (more {n} {x} {l} b f) = omega (arith, wide_lt f, pow-add 2 64 n)

-- a test on numbers that the words answer, each for its own digits, the whole answers
pub data Says (p : ℕ → Bool) : ℕ → List ℕ → Type 0 where
  none : {n : ℕ} → ((j : ℕ) → n ≤ j → p j ≡ false) → Says p n []
  more : {n x : ℕ} {l : List ℕ} → x < 2 ^ 64 → ((j : ℕ) → j < 64 → has x j ≡ p (n + j)) → Says p (n + 64) l → Says p n (x ∷ l)

pick : (r x n : ℕ) (p : ℕ → Bool) → ((i : ℕ) → has r i ≡ p (n + 64 + i)) → ((j : ℕ) → j < 64 → has x j ≡ p (n + j)) → (j : ℕ)
    → cond (ltb j 64) (has x j) (has r (j - 64)) ≡ p (n + j)
pick r x n p g h j = go (dec_lt j 64)
  where
    go : Dec (j < 64) → cond (ltb j 64) (has x j) (has r (j - 64)) ≡ p (n + j)
    go (yes q) = ap (λ t. cond t (has x j) (has r (j - 64))) (lt-ltb j 64 q) ∙ h j q
    go (no q) =
        ap (λ t. cond t (has x j) (has r (j - 64))) (le-ltb j 64 (omega arith)) ∙ g (j - 64)
        ∙ ap p (let z : n + 64 + (j - 64) ≡ n + j = omega arith in z)

pub wide_says : (p : ℕ → Bool) {n : ℕ} {l : List ℕ} → Says p n l → (j : ℕ) → has (wide l) j ≡ p (n + j)
unfolding wide
wide_says p (none {n} h) j = has_none j ∙ sym (h (n + j) (omega arith))
wide_says p (more {n} {x} {l} b h s) j = has_cat 64 (wide l) x j b ∙ pick (wide l) x n p (λ i. wide_says p s i) h j

pub whole_says : (p : ℕ → Bool) {l : List ℕ} → Says p 0 l → (j : ℕ) → has (wide l) j ≡ p j
whole_says p s j = wide_says p s j ∙ ap p (let z : 0 + j ≡ j = omega arith in z)

pub wide_size : {n : ℕ} {x : ℕ} {l : List ℕ} → x < 2 ^ 64 → Fit n l → size (64 + n) (wide (x ∷ l)) ≡ size 64 x + size n (wide l)
unfolding wide
wide_size {n} {x} {l} b f =
    omega (arith, ones_size (64 + n) (wide l * 2 ^ 64 + x) (wide_lt (more b f)), ones_cat 64 (wide l) x b, ones_size 64 x b, ones_size n (wide l) (wide_lt f))

-- ---- the lowest member

pub low_here : (n x w : ℕ) (l : List ℕ) → x < 2 ^ 64 → IsLowest 64 x w → IsLowest (64 + n) (wide (x ∷ l)) w
unfolding wide
low_here n x w l b h = record {
  below = omega (arith, h.below);
  member = subst T (sym (at w h.below)) h.member;
  least = λ j k t. h.least j k (subst T (at j (omega (arith, h.below))) t);
}
  where
    at : (j : ℕ) → j < 64 → has (wide l * 2 ^ 64 + x) j ≡ has x j
    at j k = has_cat 64 (wide l) x j b ∙ ap (λ t. cond t (has x j) (has (wide l) (j - 64))) (lt-ltb j 64 k)

after : (n w x : ℕ) (l : List ℕ) → x ≡ 0 → IsLowest n (wide l) w → IsLowest (64 + n) (wide (x ∷ l)) (64 + w)
unfolding wide
after n w x l e h = record {
  below = omega (arith, h.below);
  member = subst T (sym (at (64 + w) ∙ later w)) h.member;
  least = λ j k t. early j k (dec_lt j 64) (subst T (at j) t);
}
  where
    at : (j : ℕ) → has (wide l * 2 ^ 64 + x) j ≡ cond (ltb j 64) (has x j) (has (wide l) (j - 64))
    at j = has_cat 64 (wide l) x j (omega arith)

    later : (i : ℕ) → cond (ltb (64 + i) 64) (has x (64 + i)) (has (wide l) (64 + i - 64)) ≡ has (wide l) i
    later i =
        ap (λ t. cond t (has x (64 + i)) (has (wide l) (64 + i - 64))) (le-ltb (64 + i) 64 (omega arith))
        ∙ ap (has (wide l)) (let z : 64 + i - 64 ≡ i = omega arith in z)

    early : (j : ℕ) → j < 64 + w → Dec (j < 64) → ¬ T (cond (ltb j 64) (has x j) (has (wide l) (j - 64)))
    early j k (yes q) t =
        subst T (ap (λ b. cond b (has x j) (has (wide l) (j - 64))) (lt-ltb j 64 q) ∙ ap (λ (m : ℕ). has m j) e ∙ has_none j) t
    early j k (no q) t =
        h.least (j - 64) (omega arith) (subst T (ap (λ b. cond b (has x j) (has (wide l) (j - 64))) (le-ltb j 64 (omega arith))) t)

pub low_later : (n w v x : ℕ) (l : List ℕ) → v ≡ 64 + w → x ≡ 0 → IsLowest n (wide l) w → IsLowest (64 + n) (wide (x ∷ l)) v
low_later n w v x l q e h = subst (λ (i : ℕ). IsLowest (64 + n) (wide (x ∷ l)) i) (sym q) (after n w x l e h)

-- ---- rows

-- the four words of a row
pub four : (rows : List ℕ) (k : ℕ) → k + 4 ≤ length rows
    → take 4 (drop k rows) ≡ get_or rows k 0 ∷ get_or rows (k + 1) 0 ∷ get_or rows (k + 2) 0 ∷ get_or rows (k + 3) 0 ∷ []
four rows k h =
    ap (take 4) (
    drop-cons rows k 0 (omega arith)
    ∙ ap (λ l. get_or rows k 0 ∷ l) (ap (λ (i : ℕ). drop i rows) (sym (add-one k)) ∙ drop-cons rows (k + 1) 0 (omega arith)
    ∙ ap (λ l. get_or rows (k + 1) 0 ∷ l) (ap (λ (i : ℕ). drop i rows) (let z : suc (k + 1) ≡ k + 2 = omega arith in z) ∙ drop-cons rows (k + 2) 0 (omega arith)
    ∙ ap (λ l. get_or rows (k + 2) 0 ∷ l) (ap (λ (i : ℕ). drop i rows) (let z : suc (k + 2) ≡ k + 3 = omega arith in z) ∙ drop-cons rows (k + 3) 0 (omega arith))))
    )

pub row_four : (rows : List ℕ) (n i : ℕ) → i < n → i * 4 + 4 ≤ length rows
    → get_or (rows_of 4 n rows) i 0 ≡ wide (get_or rows (i * 4) 0 ∷ get_or rows (i * 4 + 1) 0 ∷ get_or rows (i * 4 + 2) 0 ∷ get_or rows (i * 4 + 3) 0 ∷ [])
unfolding row
row_four rows n i b h = get_d_table (row 4 rows) n 0 i b ∙ ap wide (four rows (i * 4) h)

pub last : (x : ℕ) → wide (x ∷ []) ≡ x
unfolding wide
last x = omega arith

-- rows of one word are the lent numbers
pub rows_one : (rows : List ℕ) (n : ℕ) → length rows ≡ n → rows_of 1 n rows ≡ rows
unfolding row
rows_one rows n e =
    ext_get_or 0 (rows_of 1 n rows) rows (length_table (row 1 rows) n ∙ sym e)
    (λ i b. let l : i < n = subst (λ (m : ℕ). i < m) (length_table (row 1 rows) n) b in
    get_d_table (row 1 rows) n 0 i l ∙ ap (λ (k : ℕ). wide (take 1 (drop k rows))) (let z : i * 1 ≡ i = omega arith in z)
    ∙ ap (λ m. wide (take 1 m)) (drop-cons rows i 0 (omega arith)) ∙ last (get_or rows i 0))

-- ---- nothing

zeros : (x : ℕ) (l : List ℕ) → wide (x ∷ l) ≡ 0 → (x ≡ 0) × (wide l ≡ 0)
unfolding wide
zeros x l e = (omega arith, omega arith)

pub wide_none : wide [] ≡ 0
unfolding wide
wide_none = refl

pub zero_both : (x : ℕ) (l : List ℕ) → x ≡ 0 → wide l ≡ 0 → wide (x ∷ l) ≡ 0
unfolding wide
zero_both x l e f = omega arith

pub eqb_shift : (i k j : ℕ) → k ≤ i → eqb (i - k) j ≡ eqb i (k + j)
eqb_shift i k j h =
    T-ext (eqb (i - k) j) (eqb i (k + j)) (λ t. eqb_of i (k + j) (let e = eqb→eq (i - k) j t in omega arith))
    (λ t. eqb_of (i - k) j (let e = eqb→eq i (k + j) t in omega arith))

pub ltb_shift : (n k j : ℕ) → ltb j (n - k) ≡ ltb (k + j) n
ltb_shift n k j =
    T-ext (ltb j (n - k)) (ltb (k + j) n) (λ t. lt→ltb (k + j) n (let e = ltb→lt j (n - k) t in omega arith))
    (λ t. lt→ltb j (n - k) (let e = ltb→lt (k + j) n t in omega arith))

pub size_four : {a b c d : ℕ} → a < 2 ^ 64 → b < 2 ^ 64 → c < 2 ^ 64 → d < 2 ^ 64
    → size 256 (wide (a ∷ b ∷ c ∷ d ∷ [])) ≡ size 64 a + size 64 b + size 64 c + size 64 d
size_four {a} {b} {c} {d} p q r s =
    let f3 : Fit 128 (c ∷ d ∷ []) = more r (more s none) in
    let e1 : size 256 (wide (a ∷ b ∷ c ∷ d ∷ [])) ≡ size 64 a + size 192 (wide (b ∷ c ∷ d ∷ [])) = wide_size p (more q f3) in
    let e2 : size 192 (wide (b ∷ c ∷ d ∷ [])) ≡ size 64 b + size 128 (wide (c ∷ d ∷ [])) = wide_size q f3 in
    let e3 : size 128 (wide (c ∷ d ∷ [])) ≡ size 64 c + size 64 (wide (d ∷ [])) = wide_size r (more s none) in
    let e4 : size 64 (wide (d ∷ [])) ≡ size 64 d = ap (size 64) (last d) in
    omega arith

pub none_four : {a b c d : ℕ} → wide (a ∷ b ∷ c ∷ d ∷ []) ≡ 0 → (a ≡ 0) × (b ≡ 0) × (c ≡ 0) × (d ≡ 0)
none_four {a} {b} {c} {d} e =
    let p = zeros a (b ∷ c ∷ d ∷ []) e in
    let q = zeros b (c ∷ d ∷ []) p.1 in
    let r = zeros c (d ∷ []) q.1 in
    (p.0, q.0, r.0, (zeros d [] r.1).0)

pub zero_four : {a b c d : ℕ} → a ≡ 0 → b ≡ 0 → c ≡ 0 → d ≡ 0 → wide (a ∷ b ∷ c ∷ d ∷ []) ≡ 0
zero_four {a} {b} {c} {d} p q r s = zero_both a _ p (zero_both b _ q (zero_both c _ r (zero_both d [] s (wide_none))))

pub low_last : (x w : ℕ) → IsLowest 64 x w → IsLowest 64 (wide (x ∷ [])) w
low_last x w h = subst (λ (m : ℕ). IsLowest 64 m w) (sym (last x)) h
