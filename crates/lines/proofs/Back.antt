-- What is written reads back: a number, two of them, a line.
--
--   Digits s : each byte of s is a digit
--   NoFeed s : no byte of s is a line feed
use Prim.Native.Nat.{ℕ, zero, suc, ◌+◌, ◌-◌, ◌*◌, ◌/◌, ◌%◌, ◌^◌, ◌≤◌, ◌<◌}
use mathlib.Core.Path.{◌≡◌, refl, sym, ap, subst, ◌∙◌}
use mathlib.Core.List.{List, [], ◌∷◌, ◌++◌, append-nil, append_assoc}
use mathlib.Core.Bool.{true}
use native.Mathlib.Nat.{pow-suc}
use native.Mathlib.Omega.{arith}
use borrow.Author.Tests.{le-leb, leb-true, leb-false, ne_eqb}
use lib.Dec.{leb}
use lib.ListN.{length, get_or, drop, length-append, get_or-append}
use lib.Seq.{drop-drop, drop-append_seam, get_or-append_seam}
use Rattle.lines.specs.Text.{ended, lines_of}
use Rattle.std.specs.Prelude.{Some}
use Rattle.lines.specs.Number.{digits, value, proper, number_of}
use Rattle.lines.specs.Words.{alone_of, pair_of}
use Rattle.lines.specs.Numeral.{decimal, numeral, one_line, two_line}
use Rattle.lines.proofs.Basics.{cond_cases}
use Rattle.lines.proofs.Numbers.{number_is, proper_other}
use Rattle.lines.proofs.Words.{alone_is, pair_is}

-- ---- digits

abbrev Digits : List ℕ → Type 0
Digits [] = Unit {0}
Digits (b ∷ s) = (48 ≤ b) × (b ≤ 57) × Digits s

digits_snoc : (xs : List ℕ) (d : ℕ) → Digits xs → 48 ≤ d → d ≤ 57 → Digits (xs ++ d ∷ [])
digits_snoc [] d a l h = (l, h, tt)
digits_snoc (x ∷ xs) d a l h = (a.0, a.1, digits_snoc xs d a.2 l h)

digits_all : (xs t : List ℕ) → Digits xs → digits t ≡ [] → digits (xs ++ t) ≡ xs
digits_all [] t a e = e
digits_all (x ∷ xs) t a e = rw (le-leb 48 x a.0, le-leb x 57 a.1, digits_all xs t a.2 e)

value_snoc : (v : ℕ) (xs : List ℕ) (d : ℕ) → value v (xs ++ d ∷ []) ≡ value v xs * 10 + (d - 48)
value_snoc v [] d = refl
value_snoc v (x ∷ xs) d = value_snoc (v * 10 + (x - 48)) xs d

-- ---- a decimal

decimal_digits : (f n : ℕ) → Digits (decimal f n)
decimal_digits zero n = tt
decimal_digits (suc f) n =
    cond_cases Digits (leb 10 n) _ _ (λ _. digits_snoc (decimal f (n / 10)) _ (decimal_digits f (n / 10)) (omega arith) (omega arith))
    (λ e. let h = leb-false 10 n e in (omega arith, omega arith, tt))

decimal_value : (f n : ℕ) → n < 10 ^ f → value 0 (decimal f n) ≡ n
decimal_value zero n h = omega arith
decimal_value (suc f) n h =
    let r = decimal_value f (n / 10) (omega (arith, rw pow-suc at h)) in
    cond_cases (λ (l : List ℕ). value 0 l ≡ n) (leb 10 n) _ _
    (λ _. value_snoc 0 (decimal f (n / 10)) (48 + n % 10) ∙ omega arith)
    (λ e. omega arith)

decimal_length : (f n : ℕ) → (1 ≤ length (decimal (suc f) n)) × (length (decimal (suc f) n) ≤ suc f)
decimal_length zero n = cond_cases (λ (l : List ℕ). (1 ≤ length l) × (length l ≤ 1)) (leb 10 n) _ _ (λ _. (omega arith, omega arith)) (λ _. (omega arith, omega arith))
decimal_length (suc f) n =
    let r = decimal_length f (n / 10) in
    cond_cases (λ (l : List ℕ). (1 ≤ length l) × (length l ≤ suc (suc f))) (leb 10 n) _ _
    (λ _. let a = length-append (decimal (suc f) (n / 10)) ((48 + n % 10) ∷ []) in (omega arith, omega arith)) (λ _. (omega arith, omega arith))

-- the first digit of a number that is not 0 is not 0
decimal_head : (f n : ℕ) → 1 ≤ n → n < 10 ^ suc f → 49 ≤ get_or (decimal (suc f) n) 0 0
decimal_head zero n l h = cond_cases (λ (l : List ℕ). 49 ≤ get_or l 0 0) (leb 10 n) _ _ (λ e. omega (arith, leb-true 10 n e)) (λ _. omega arith)
decimal_head (suc f) n l h =
    cond_cases (λ (l : List ℕ). 49 ≤ get_or l 0 0) (leb 10 n) _ _
    (λ e. let b = leb-true 10 n e in
    let r = decimal_head f (n / 10) (omega arith) (omega (arith, rw pow-suc at h)) in
    rw (get_or-append (decimal (suc f) (n / 10)) ((48 + n % 10) ∷ []) 0 0 (decimal_length f (n / 10)).0) r)
    (λ _. omega arith)

decimal_proper : (n : ℕ) → n < 10000000 → proper (length (decimal 7 n)) (get_or (decimal 7 n) 0 0) ≡ true
decimal_proper zero h = refl
decimal_proper (suc n) h =
    let l = decimal_length 6 (suc n) in
    proper_other (length (decimal 7 (suc n))) (get_or (decimal 7 (suc n)) 0 0) l.0 l.1 (λ e. let g = decimal_head 6 (suc n) (omega arith) h in omega arith)

-- ---- a numeral

-- from 1 to 7 bytes
pub numeral_length : (n : ℕ) → (1 ≤ length (numeral n)) × (length (numeral n) ≤ 7)
unfolding numeral
numeral_length n = decimal_length 6 n

-- a numeral with no digit after it is the number
pub numeral_back : (n : ℕ) (t : List ℕ) → n < 10000000 → digits t ≡ [] → number_of (numeral n ++ t) ≡ Some (n, length (numeral n))
unfolding numeral
numeral_back n t h e =
    let x = decimal 7 n in
    let r = digits_all x t (decimal_digits 7 n) e in
    number_is (x ++ t) (length x) n (ap length r) (ap (value 0) r ∙ decimal_value 7 n h)
    (rw (get_or-append x t 0 0 (decimal_length 6 n).0) (decimal_proper n h))

pub alone_back : (n : ℕ) → n < 10000000 → alone_of (numeral n) ≡ Some n
alone_back n h =
    let y = numeral n in
    alone_is y n (length y) (subst (λ (l : List ℕ). number_of l ≡ Some (n, length y)) (append-nil y) (numeral_back n [] h refl)) refl

pub pair_back : (u v : ℕ) → u < 10000000 → v < 10000000 → pair_of (numeral u ++ 32 ∷ numeral v) ≡ Some (u, v)
pair_back u v hu hv =
    let x = numeral u in
    let y = numeral v in
    let t : List ℕ = x ++ 32 ∷ y in
    let k = length x in
    let d : drop (k + 1) t ≡ y = sym (drop-drop 1 k t) ∙ ap (drop 1) (drop-append_seam x (32 ∷ y)) in
    pair_is t u k (Some v) (numeral_back u (32 ∷ y) hu refl) (get_or-append_seam x 32 y 0) (ap alone_of d ∙ alone_back v hv)

-- ---- a line

abbrev pub NoFeed : List ℕ → Type 0
NoFeed [] = Unit {0}
NoFeed (b ∷ s) = (b ≡ 10 → ⊥) × NoFeed s

digits_no_feed : (xs : List ℕ) → Digits xs → NoFeed xs
digits_no_feed [] a = tt
digits_no_feed (x ∷ xs) a = ((λ e. omega (arith, a.0)), digits_no_feed xs a.2)

pub numeral_no_feed : (n : ℕ) → NoFeed (numeral n)
unfolding numeral
numeral_no_feed n = digits_no_feed (decimal 7 n) (decimal_digits 7 n)

pub no_feed_both : (xs ys : List ℕ) → NoFeed xs → NoFeed ys → NoFeed (xs ++ ys)
no_feed_both [] ys a b = b
no_feed_both (x ∷ xs) ys a b = (a.0, no_feed_both xs ys a.1 b)

-- a line and its line feed, and the text after them
pub line_back : (l t : List ℕ) → NoFeed l → lines_of (l ++ 10 ∷ t) ≡ ended l (lines_of t)
line_back [] t a = refl
line_back (b ∷ l) t a = rw (ne_eqb b 10 a.0, line_back l t a.1)

-- a line of a word and one number, and the text after it
pub one_back : (w : List ℕ) (u : ℕ) (t : List ℕ) → NoFeed w → lines_of (one_line w u ++ t) ≡ ended (w ++ numeral u) (lines_of t)
one_back w u t n =
    let x = numeral u in
    let e : one_line w u ++ t ≡ (w ++ x) ++ 10 ∷ t = append_assoc w (x ++ 10 ∷ []) t ∙ ap (λ (l : List ℕ). w ++ l) (append_assoc x (10 ∷ []) t) ∙ sym (append_assoc w x (10 ∷ t)) in
    ap lines_of e ∙ line_back (w ++ x) t (no_feed_both w x n (numeral_no_feed u))

-- a line of a word and two numbers
pub two_back : (w : List ℕ) (u v : ℕ) (t : List ℕ) → NoFeed w → lines_of (two_line w u v ++ t) ≡ ended (w ++ (numeral u ++ 32 ∷ numeral v)) (lines_of t)
two_back w u v t n =
    let x = numeral u in
    let y = numeral v in
    let l : List ℕ = x ++ 32 ∷ y in
    let i : one_line (32 ∷ []) v ++ t ≡ 32 ∷ (y ++ 10 ∷ t) = ap (λ (k : List ℕ). 32 ∷ k) (append_assoc y (10 ∷ []) t) in
    let m : (x ++ one_line (32 ∷ []) v) ++ t ≡ l ++ 10 ∷ t = append_assoc x (one_line (32 ∷ []) v) t ∙ ap (λ (k : List ℕ). x ++ k) i ∙ sym (append_assoc x (32 ∷ y) (10 ∷ t)) in
    let e : two_line w u v ++ t ≡ (w ++ l) ++ 10 ∷ t = append_assoc w (x ++ one_line (32 ∷ []) v) t ∙ ap (λ (k : List ℕ). w ++ k) m ∙ sym (append_assoc w l (10 ∷ t)) in
    ap lines_of e ∙ line_back (w ++ l) t (no_feed_both w l n (no_feed_both x (32 ∷ y) (numeral_no_feed u) ((λ e. omega arith), numeral_no_feed v)))
