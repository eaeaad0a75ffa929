-- Rows of one word are the lent numbers themselves, and their sets the lowest words; rows of four words are what the four-word functions speak of.
-- Assumes nothing.
use mathlib.Core.Path.{◌≡◌, sym, ap, ap₂, ◌∙◌, subst}
use mathlib.Core.Logic.{◌⊎◌, inl, inr, ⊎_elim}
use mathlib.Core.Bool.{not, ◌&&◌, ◌||◌}
use mathlib.Core.List.{List, [], ◌∷◌}
use Prim.Native.Nat.{ℕ, zero, ◌+◌, ◌*◌, ◌/◌, ◌%◌, ◌^◌, ◌≤◌, ◌<◌}
use native.Mathlib.Decide.{dec_lt}
use native.Mathlib.Omega.{arith}
use lib.Dec.{T}
use lib.ListN.{length, get_or, set, length-set}
use Rattle.sets.specs.Set.{has, IsWith, IsWithout, IsJoin, IsMeet, IsLess}
use Rattle.sets.proofs.SetLaws.{has_beyond, has_shifted, no_members}
use Rattle.sets.proofs.TestLaws.{and_l, or_cases, or_false, and_true}
use Rattle.wide.specs.Words.{wide, num, rows_of}
use Rattle.wide.specs.Form.{held, One, Four, Form, Fits, Marked, Unmarked}
use Rattle.wide.specs.declared.Set.{Set}
use Rattle.wide.proofs.WideLaws.{none, more, wide_lt, rows_one}
use Rattle.wide.proofs.RowLaws.{row_end}
use Rattle.wide.proofs.PlaceLaws.{Small, changed_is, changed_long}

-- ---- members below cap

pub lt_fits : (cap s : ℕ) → s < 2 ^ cap → Fits cap s
lt_fits cap s h i t = go (dec_lt i cap)
  where
    go : Dec (i < cap) → i < cap
    go (yes l) = l
    go (no q) = absurd (subst T (has_beyond cap s i h (omega arith)) t)

pub fits_lt : (s : ℕ) → Fits 64 s → s < 2 ^ 64
fits_lt s f =
    let z : s / 2 ^ 64 ≡ 0 = no_members (s / 2 ^ 64) (λ i t. absurd (let l = f (64 + i) (subst T (has_shifted 64 s i) t) in let e : ⊥ = omega arith in e)) in
    omega arith

pub meet_fits : (cap s t r : ℕ) → Fits cap s → IsMeet s t r → Fits cap r
meet_fits cap s t r f m i h = f i (and_l (has s i) (has t i) (subst T (m i) h))

pub less_fits : (cap s t r : ℕ) → Fits cap s → IsLess s t r → Fits cap r
less_fits cap s t r f m i h = f i (and_l (has s i) (not (has t i)) (subst T (m i) h))

pub join_fits : (cap s t r : ℕ) → Fits cap s → Fits cap t → IsJoin s t r → Fits cap r
join_fits cap s t r f g m i h = ⊎_elim (f i) (g i) (or_cases (has s i) (has t i) (subst T (m i) h))

-- words after the first that are nothing
low : (h a : ℕ) → h * 2 ^ 64 + a < 2 ^ 64 → h * 2 ^ 64 + a ≡ a
low h a b = omega arith

pub low_word : (s : Set) → Fits 64 (num s) → num s ≡ s.a
unfolding num wide
low_word s f = low (wide (s.b ∷ s.c ∷ s.d ∷ [])) s.a (fits_lt (num s) f)

pub four_fits : (s : Set) → s.a < 2 ^ 64 → s.b < 2 ^ 64 → s.c < 2 ^ 64 → s.d < 2 ^ 64 → Fits 256 (num s)
unfolding num
four_fits s a b c d = lt_fits 256 (num s) (wide_lt (more a (more b (more c (more d none)))))

-- ---- which form it is

pub is_one : {words : ℕ} {rows : List ℕ} → words ≡ 1 → Form words rows → One words rows
is_one e (inl o) = o
is_one e (inr f) = absurd (let g = f.words_four in omega arith)

pub is_four : {words : ℕ} {rows : List ℕ} → (words ≡ 1 → ⊥) → Form words rows → Four words rows
is_four e (inl o) = absurd (e o.words_one)
is_four e (inr f) = f

pub not_four : {words : ℕ} {rows : List ℕ} → (words ≡ 4 → ⊥) → Form words rows → One words rows
not_four e (inl o) = o
not_four e (inr f) = absurd (e f.words_four)

pub one_or_four : {words : ℕ} {rows : List ℕ} → Form words rows → (words ≡ 1) ⊎ (words ≡ 4)
one_or_four (inl o) = inl o.words_one
one_or_four (inr f) = inr f.words_four

pub words_few : {words : ℕ} {rows : List ℕ} → Form words rows → words ≤ 4
words_few (inl o) = omega (arith, o.words_one)
words_few (inr f) = omega (arith, f.words_four)

pub words_some : {words : ℕ} {rows : List ℕ} → Form words rows → 0 < words
words_some (inl o) = omega (arith, o.words_one)
words_some (inr f) = omega (arith, f.words_four)

-- as many numbers
pub form_same : {words : ℕ} {rows r : List ℕ} → Form words rows → length r ≡ length rows → Form words r
form_same (inl o) e = inl (record { words_one = o.words_one; long = e ∙ o.long })
form_same (inr f) e = inr (record { words_four = f.words_four; long = e ∙ f.long })

pub form_long : {words : ℕ} {rows : List ℕ} → Form words rows → (64 * words * words ≡ length rows) × (length rows ≤ 1024)
form_long {words} {rows} (inl o) = (subst (λ (w : ℕ). 64 * w * w ≡ length rows) (sym o.words_one) (sym o.long), omega (arith, o.long))
form_long {words} {rows} (inr f) = (subst (λ (w : ℕ). 64 * w * w ≡ length rows) (sym f.words_four) (sym f.long), omega (arith, f.long))

-- the word of a place of a row is one of the lent numbers
pub place_in : {words : ℕ} {rows : List ℕ} (x u : ℕ) → Form words rows → x < 64 * words → u < 64 * words → x * words + u / 64 < length rows
place_in {words} x u f a b = let l = form_long f in let e = row_end words x (64 * words) a in omega (arith, l.0)

pub place_few : {words : ℕ} {rows : List ℕ} (x u : ℕ) → Form words rows → x < 64 * words → u < 64 * words → x * words + u / 64 < 1024
place_few x u f a b = omega (arith, place_in x u f a b, (form_long f).1)

-- ---- what the rows are

pub held_one : (words : ℕ) (rows : List ℕ) → One words rows → held words rows ≡ rows
held_one words rows o = ap (λ (w : ℕ). held w rows) o.words_one ∙ rows_one rows 64 o.long

pub held_four : (words : ℕ) (rows : List ℕ) → Four words rows → held words rows ≡ rows_of 4 256 rows
held_four words rows f = ap (λ (w : ℕ). held w rows) f.words_four

-- a number is written
pub put_one : (words : ℕ) (rows : List ℕ) (i : ℕ) (s : Set) → One words rows → Fits (64 * words) (num s)
    → held words (set rows i s.a) ≡ set (held words rows) i (num s)
put_one words rows i s o f =
    held_one words (set rows i s.a) (record { words_one = o.words_one; long = length-set rows i s.a ∙ o.long })
    ∙ sym (ap₂ (λ l (x : ℕ). set l i x) (held_one words rows o) (low_word s (subst (λ (w : ℕ). Fits (64 * w) (num s)) o.words_one f)))

pub put_four : {words : ℕ} {old new : List ℕ} (i x : ℕ) → Four words old → length new ≡ 1024 → rows_of 4 256 new ≡ set (rows_of 4 256 old) i x
    → Form words new × (held words new ≡ set (held words old) i x)
put_four {words} {old} {new} i x f l e =
    let g : Four words new = record { words_four = f.words_four; long = l } in
    (inr g, held_four words new g ∙ e ∙ ap (λ m. set m i x) (sym (held_four words old f)))

-- one place is written
module _ {words : ℕ} {rows : List ℕ} (x u y : ℕ) (f : Form words rows) (small : Small rows) (fits : y < 2 ^ 64) (a : x < 64 * words) (b : u < 64 * words) where
  abbrev new : List ℕ
  new = set rows (x * words + u / 64) y

  room : 64 * words * words ≤ length rows
  room = omega (arith, (form_long f).0)

  pub form_written : Form words new
  form_written = form_same f (length-set rows (x * words + u / 64) y)

  pub marked_is : IsWith (get_or rows (x * words + u / 64) zero) (u % 64) y → Marked (held words rows) x u (held words new)
  marked_is is = record {
    long = changed_long ◌||◌ or_false words (64 * words) x u y rows small fits a b room is;
    is = changed_is ◌||◌ or_false words (64 * words) x u y rows small fits a b room is;
  }

  pub unmarked_is : IsWithout (get_or rows (x * words + u / 64) zero) (u % 64) y → Unmarked (held words rows) x u (held words new)
  unmarked_is is = record {
    long = changed_long (λ s t. s && not t) and_true words (64 * words) x u y rows small fits a b room is;
    is = changed_is (λ s t. s && not t) and_true words (64 * words) x u y rows small fits a b room is;
  }

-- ---- what is said of rows of one word is said of the lent numbers, and of sets in one word of the lowest

module _ (P : ℕ → ℕ → List ℕ → Type 0) (words : ℕ) (rows : List ℕ) (live : Set) where
  pub narrow : One words rows → Fits (64 * words) (num live) → P (64 * words) (num live) (held words rows) → P 64 live.a rows
  narrow o f p =
      let q : P 64 (num live) (held 1 rows) = subst (λ (w : ℕ). P (64 * w) (num live) (held w rows)) o.words_one p in
      subst (λ (l : ℕ). P 64 l rows) (low_word live (subst (λ (w : ℕ). Fits (64 * w) (num live)) o.words_one f))
      (subst (λ rs. P 64 (num live) rs) (rows_one rows 64 o.long) q)

  pub widen : One words rows → Fits (64 * words) (num live) → P 64 live.a rows → P (64 * words) (num live) (held words rows)
  widen o f p =
      let q : P 64 (num live) (held 1 rows) =
      subst (λ rs. P 64 (num live) rs) (sym (rows_one rows 64 o.long))
      (subst (λ (l : ℕ). P 64 l rows) (sym (low_word live (subst (λ (w : ℕ). Fits (64 * w) (num live)) o.words_one f))) p) in
      subst (λ (w : ℕ). P (64 * w) (num live) (held w rows)) (sym o.words_one) q

  pub four : Four words rows → P (64 * words) (num live) (held words rows) → P 256 (num live) (rows_of 4 256 rows)
  four f p = subst (λ (w : ℕ). P (64 * w) (num live) (held w rows)) f.words_four p

  pub from_four : Four words rows → P 256 (num live) (rows_of 4 256 rows) → P (64 * words) (num live) (held words rows)
  from_four f p = subst (λ (w : ℕ). P (64 * w) (num live) (held w rows)) (sym f.words_four) p
