-- Bytes put over others, piece after piece.
--
--   Left o₀ a₀ w o a r   : w was to be put into o₀ at a₀; the bytes are now o, the place is a, and r is left to put
use Prim.Native.Nat.{ℕ, zero, suc, ◌+◌, ◌*◌, ◌/◌, ◌%◌, ◌^◌, ◌≤◌, ◌<◌}
use mathlib.Core.Path.{◌≡◌, refl, sym, ap, subst, ◌∙◌}
use mathlib.Core.List.{List, [], ◌∷◌, ◌++◌, append_assoc, append-nil}
use mathlib.Core.Bool.{cond}
use native.Mathlib.Nat.{pow-suc, add-zero}
use native.Mathlib.Numerals.{add-one}
use native.Mathlib.Decide.{dec_lt}
use native.Mathlib.Omega.{arith}
use borrow.Author.Tests.{le-leb, lt-leb}
use lib.ListN.{length, take, drop, set, length-append, length-drop, length-set, take-append-drop}
use lib.Dec.{leb}
use lib.Seq.{set_split, append_snoc, length-take-le, drop-drop, take_at, drop_at}
use Rattle.lines.specs.Numeral.{decimal, numeral, one_line, two_line, over, Put}

-- ---- `over`

module _ (o : List ℕ) (a : ℕ) (x : List ℕ) (h : a + length x ≤ length o) where
  front : length (take a o ++ x) ≡ a + length x
  front = omega (arith, length-append (take a o) x, length-take-le a o (omega arith))

  pub over_length : length (over o a x) ≡ length o
  over_length = omega (arith, length-append (take a o ++ x) (drop (a + length x) o), front, length-drop (a + length x) o)

  -- then y after it
  pub over_over : (y : List ℕ) → over (over o a x) (a + length x) y ≡ over o a (x ++ y)
  over_over y =
      let p : take (a + length x) (over o a x) ≡ take a o ++ x = take_at (take a o ++ x) (drop (a + length x) o) (a + length x) front in
      let q : drop (a + length x) (over o a x) ≡ drop (a + length x) o = drop_at (take a o ++ x) (drop (a + length x) o) (a + length x) front in
      let r : drop (a + length x + length y) (over o a x) ≡ drop (a + length x + length y) o =
      sym (drop-drop (length y) (a + length x) (over o a x)) ∙ ap (drop (length y)) q ∙ drop-drop (length y) (a + length x) o in
      let t : a + length x + length y ≡ a + length (x ++ y) = omega (arith, length-append x y) in
      rw (p, r, append_assoc (take a o) x y, t)

pub over_one : (o : List ℕ) (a b : ℕ) → a < length o → set o a b ≡ over o a (b ∷ [])
over_one o a b h = set_split o a b h ∙ rw (add-one, append_snoc)

pub over_none : (o : List ℕ) (a : ℕ) → a ≤ length o → over o a [] ≡ o
over_none o a h = rw (add-zero, append-nil) (take-append-drop a o)

-- ---- one piece

pub put_length : (o : List ℕ) (a : ℕ) (x o' : List ℕ) (a' : ℕ) → a + length x ≤ length o → Put o a x o' a' → length o' ≡ length o
put_length o a x o' a' h p = ap length p.1 ∙ over_length o a x h

pub put_byte : (o : List ℕ) (a b : ℕ) → a < length o → Put o a (b ∷ []) (set o a b) (a + 1)
put_byte o a b h = (refl, over_one o a b h)

-- x, and then y
pub put_then : (o : List ℕ) (a : ℕ) (x o' : List ℕ) (a' : ℕ) (y o'' : List ℕ) (a'' : ℕ) → a + length x + length y ≤ length o
    → Put o a x o' a' → Put o' a' y o'' a'' → Put o a (x ++ y) o'' a''
put_then o a x o' a' y o'' a'' h p q =
    (omega (arith, p.0, q.0, length-append x y), q.1 ∙ rw (p.1, p.0) (over_over o a x (omega arith) y))

-- three pieces, the last of which may be a line's rest
module _ (o : List ℕ) (a : ℕ) (x y z : List ℕ) (h : a + length (x ++ (y ++ z)) ≤ length o) where
  three : length (x ++ (y ++ z)) ≡ length x + (length y + length z)
  three = omega (arith, length-append x (y ++ z), length-append y z)

  pub first_room : a + length x ≤ length o
  first_room = omega (arith, three)

  module _ (o₁ : List ℕ) (a₁ : ℕ) (p : Put o a x o₁ a₁) where
    same₁ : length o₁ ≡ length o
    same₁ = put_length o a x o₁ a₁ first_room p

    pub second_room : a₁ + length y ≤ length o₁
    second_room = omega (arith, three, same₁, p.0)

    module _ (o₂ : List ℕ) (a₂ : ℕ) (q : Put o₁ a₁ y o₂ a₂) where
      pub third_room : a₂ + length z ≤ length o₂
      third_room = omega (arith, three, same₁, p.0, q.0, put_length o₁ a₁ y o₂ a₂ second_room q)

      pub put_three : (o₃ : List ℕ) (a₃ : ℕ) → Put o₂ a₂ z o₃ a₃ → Put o a (x ++ (y ++ z)) o₃ a₃
      put_three o₃ a₃ r =
          put_then o a x o₁ a₁ (y ++ z) o₃ a₃ (omega (arith, three, length-append y z)) p
          (put_then o₁ a₁ y o₂ a₂ z o₃ a₃ (omega (arith, three, same₁, p.0)) q r)

-- ---- pieces until nothing is left

pub record Left (o₀ : List ℕ) (a₀ : ℕ) (w o : List ℕ) (a : ℕ) (r : List ℕ) : Type 0 where
  pub fit : a₀ + length w ≤ length o₀
  pub same : length o ≡ length o₀
  pub sum : a + length r ≡ a₀ + length w
  pub all : over o a r ≡ over o₀ a₀ w

pub left_begin : (o₀ : List ℕ) (a₀ : ℕ) (w : List ℕ) → a₀ + length w ≤ length o₀ → Left o₀ a₀ w o₀ a₀ w
left_begin o₀ a₀ w h = record { fit = h; same = refl; sum = refl; all = refl }

module _ (o₀ : List ℕ) (a₀ : ℕ) (w o : List ℕ) (a : ℕ) (r : List ℕ) (l : Left o₀ a₀ w o a r) where
  -- there is room for what comes next
  pub left_room : (x r' : List ℕ) → r ≡ x ++ r' → a + length x ≤ length o
  left_room x r' e = omega (arith, ap length e, length-append x r')

  -- x is put, and r' is left
  pub left_put : (x r' : List ℕ) → r ≡ x ++ r' → (o' : List ℕ) (a' : ℕ) → Put o a x o' a' → Left o₀ a₀ w o' a' r'
  left_put x r' e o' a' p =
      let k = length-append x r' in
      let z = ap length e in
      record {
        fit = l.fit;
        same = put_length o a x o' a' (omega arith) p ∙ l.same;
        sum = omega arith;
        all = rw (p.1, p.0) (over_over o a x (omega arith) r') ∙ sym (ap (over o a) e) ∙ l.all;
      }

  -- nothing is put
  pub left_skip : (r' : List ℕ) → r ≡ r' → Left o₀ a₀ w o a r'
  left_skip r' e = subst (Left o₀ a₀ w o a) e l

  -- nothing is left
  pub left_none : r ≡ [] → Put o₀ a₀ w o a
  left_none e =
      (omega (arith, ap length e), sym (over_none o a (omega (arith, ap length e))) ∙ sym (ap (over o a) e) ∙ l.all)

-- ---- numerals

pub numeral_one : (n : ℕ) → n < 10 → numeral n ≡ (48 + n) ∷ []
unfolding numeral
numeral_one n h = rw (lt-leb 10 n h)

-- one digit more than enough changes nothing
enough : (f n : ℕ) → n < 10 ^ suc f → decimal (suc (suc f)) n ≡ decimal (suc f) n
enough zero n h = rw (lt-leb 10 n h)
enough (suc f) n h = ap (λ (l : List ℕ). cond (leb 10 n) (l ++ (48 + n % 10) ∷ []) ((48 + n) ∷ [])) (enough f (n / 10) (omega (arith, rw pow-suc at h)))

pub numeral_more : (n : ℕ) → 10 ≤ n → n < 10000000 → numeral n ≡ numeral (n / 10) ++ (48 + n % 10) ∷ []
unfolding numeral
numeral_more n l h = rw (le-leb 10 n l, enough 5 (n / 10) (omega arith))

pub length_one : (n : ℕ) → n < 10 → length (numeral n) ≡ 1
length_one n h = ap length (numeral_one n h)

pub length_more : (n : ℕ) → 10 ≤ n → n < 10000000 → length (numeral n) ≡ length (numeral (n / 10)) + 1
length_more n l h = ap length (numeral_more n l h) ∙ length-append (numeral (n / 10)) ((48 + n % 10) ∷ [])

-- a number with one digit more has a numeral that is one longer
length_ten : (k a : ℕ) → ((n : ℕ) → a ≤ n → n < a * 10 → length (numeral n) ≡ k) → 1 ≤ a → (n : ℕ) → a * 10 ≤ n → n < a * 100 → n < 10000000 → length (numeral n) ≡ k + 1
length_ten k a f p n l h m = length_more n (omega arith) m ∙ ap (λ (x : ℕ). x + 1) (f (n / 10) (omega arith) (omega arith))

pub length_2 : (n : ℕ) → 10 ≤ n → n < 100 → length (numeral n) ≡ 2
length_2 n l h = length_ten 1 1 (λ n _ h. length_one n h) (omega arith) n l h (omega arith)

pub two_digits : (n : ℕ) → n < 100 → length (numeral n) ≤ 2
two_digits n h = go (dec_lt n 10)
  where
    go : Dec (n < 10) → length (numeral n) ≤ 2
    go (yes l) = omega (arith, length_one n l)
    go (no l) = omega (arith, length_2 n (omega arith) h)

pub length_3 : (n : ℕ) → 100 ≤ n → n < 1000 → length (numeral n) ≡ 3
length_3 n l h = length_ten 2 10 length_2 (omega arith) n l h (omega arith)

pub length_4 : (n : ℕ) → 1000 ≤ n → n < 10000 → length (numeral n) ≡ 4
length_4 n l h = length_ten 3 100 length_3 (omega arith) n l h (omega arith)

pub length_5 : (n : ℕ) → 10000 ≤ n → n < 100000 → length (numeral n) ≡ 5
length_5 n l h = length_ten 4 1000 length_4 (omega arith) n l h (omega arith)

pub length_6 : (n : ℕ) → 100000 ≤ n → n < 1000000 → length (numeral n) ≡ 6
length_6 n l h = length_ten 5 10000 length_5 (omega arith) n l h (omega arith)

pub length_7 : (n : ℕ) → 1000000 ≤ n → n < 10000000 → length (numeral n) ≡ 7
length_7 n l h = length_ten 6 100000 length_6 (omega arith) n l h (omega arith)

-- the last digit, after the others
pub put_last : (o x : List ℕ) (a e b n : ℕ) → 10 ≤ n → n < 10000000 → a + length (numeral n) ≤ length o → Put o a (numeral (n / 10)) x e → b ≡ 48 + n % 10
    → (e < length x) × (length (set x e b) ≡ length o) × Put o a (numeral n) (set x e b) (e + 1)
put_last o x a e b n l h r p d =
    let k = length_more n l h in
    let z = put_length o a (numeral (n / 10)) x e (omega arith) p in
    let q = put_then o a (numeral (n / 10)) x e (b ∷ []) (set x e b) (e + 1) (omega arith) p (put_byte x e b (omega arith)) in
    let m : numeral (n / 10) ++ b ∷ [] ≡ numeral n = rw d (sym (numeral_more n l h)) in
    (omega arith, length-set x e b ∙ z, subst (λ (l : List ℕ). Put o a l (set x e b) (e + 1)) m q)

pub put_only : (o : List ℕ) (a b n : ℕ) → n < 10 → a + length (numeral n) ≤ length o → b ≡ 48 + n
    → (a < length o) × (length (set o a b) ≡ length o) × Put o a (numeral n) (set o a b) (a + 1)
put_only o a b n h r d =
    let k = length_one n h in
    let m : b ∷ [] ≡ numeral n = rw d (sym (numeral_one n h)) in
    (omega arith, length-set o a b, subst (λ (l : List ℕ). Put o a l (set o a b) (a + 1)) m (put_byte o a b (omega arith)))

-- ---- the lengths of lines

pub one_length : (w : List ℕ) (u : ℕ) → length (one_line w u) ≡ length w + (length (numeral u) + 1)
one_length w u = omega (arith, length-append w (numeral u ++ 10 ∷ []), length-append (numeral u) (10 ∷ []))

pub two_length : (w : List ℕ) (u v : ℕ) → length (two_line w u v) ≡ length w + (length (numeral u) + (length (numeral v) + 2))
two_length w u v = omega (arith, length-append w (numeral u ++ one_line (32 ∷ []) v), length-append (numeral u) (one_line (32 ∷ []) v), one_length (32 ∷ []) v)
