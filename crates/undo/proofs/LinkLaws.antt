-- u gets into rows, or out of them, of a set that is gone through word by word. Assumes nothing.
use mathlib.Core.Path.{◌≡◌, refl, sym, ap, ◌∙◌, subst}
use mathlib.Core.Bool.{Bool, true, false, not, ◌&&◌, ◌||◌, cond}
use mathlib.Core.List.{List, [], ◌∷◌}
use Prim.Native.Nat.{ℕ, zero, ◌+◌, ◌-◌, ◌*◌, ◌^◌, ◌≤◌, ◌<◌}
use native.Mathlib.Decide.{dec_lt}
use native.Mathlib.Omega.{arith}
use lib.Dec.{T, eqb, leb, ltb, eqb→eq}
use lib.ListN.{get_or}
use borrow.Author.Tests.{lt-ltb, le-ltb, le-leb, lt-leb, ne_eqb}
use Rattle.sets.specs.Set.{has, IsWithout}
use Rattle.sets.proofs.TestLaws.{or_false, and_true, eqb_turn}
use Rattle.sets.proofs.SetLaws.{has_cat, has_none, has_beyond}
use Rattle.wide.specs.Words.{wide, num}
use Rattle.wide.specs.Form.{One, Marked, Unmarked, Fits}
use Rattle.wide.specs.declared.Set.{Set}
use Rattle.wide.proofs.WideLaws.{Fit, none, more, eqb_shift}
use Rattle.wide.proofs.FormLaws.{low_word}
use Rattle.graphs.specs.Acts.{Linked}
use Rattle.undo.specs.Back.{word_has, LinkedBy, UnlinkedBy, Unlinked}

both : (s e q n : Bool) → ((s || (e && q)) || (n && q)) ≡ (s || ((e || n) && q))
both true e q n = refl
both false true true n = refl
both false true false true = refl
both false true false false = refl
both false false q n = refl

neither : (s e q n : Bool) → ((s && not (e && q)) && not (n && q)) ≡ (s && not ((e || n) && q))
neither false e q n = refl
neither true true true n = refl
neither true true false true = refl
neither true true false false = refl
neither true false q n = refl

and_no : (b : Bool) → (b && false) ≡ false
and_no true = refl
and_no false = refl

-- ---- one member of a word

-- the word has the member w, and then the others
word_next : (left w next from x : ℕ) → T (has left w) → IsWithout left w next → word_has left from x ≡ (eqb (from + w) x || word_has next from x)
word_next left w next from x t h = go (dec_lt x from)
  where
    here : (e p : Bool) → (T e → T p) → p ≡ (e || (p && not e))
    here true true f = refl
    here true false f = absurd (f tt)
    here false true f = refl
    here false false f = refl

    shift : from ≤ x → eqb (from + w) x ≡ eqb w (x - from)
    shift b = eqb_turn (from + w) x ∙ sym (eqb_shift x from w b) ∙ eqb_turn (x - from) w

    go : Dec (x < from) → word_has left from x ≡ (eqb (from + w) x || word_has next from x)
    go (yes b) = rw (lt-leb from x b, ne_eqb (from + w) x (λ e. absurd (let z : ⊥ = omega arith in z)))
    go (no b) =
        rw (le-leb from x (omega arith), h (x - from), shift (omega arith))
        (here (eqb w (x - from)) (has left (x - from)) (λ e. subst (λ (i : ℕ). T (has left i)) (eqb→eq w (x - from) e) t))

module _ (new r : List ℕ) (u left w next from : ℕ) (low : T (has left w)) (without : IsWithout left w next) where
  pub linked_next : Marked new (from + w) u r → (x y : ℕ)
      → (has (get_or r x zero) y || (word_has next from x && eqb u y)) ≡ (has (get_or new x zero) y || (word_has left from x && eqb u y))
  linked_next m x y =
      ap (λ (t : Bool). t || (word_has next from x && eqb u y)) (m.is x y)
      ∙ both (has (get_or new x zero) y) (eqb (from + w) x) (eqb u y) (word_has next from x)
      ∙ ap (λ (t : Bool). has (get_or new x zero) y || (t && eqb u y)) (sym (word_next left w next from x low without))

  pub unlinked_next : Unmarked new (from + w) u r → (x y : ℕ)
      → (has (get_or r x zero) y && not (word_has next from x && eqb u y)) ≡ (has (get_or new x zero) y && not (word_has left from x && eqb u y))
  unlinked_next m x y =
      ap (λ (t : Bool). t && not (word_has next from x && eqb u y)) (m.is x y)
      ∙ neither (has (get_or new x zero) y) (eqb (from + w) x) (eqb u y) (word_has next from x)
      ∙ ap (λ (t : Bool). has (get_or new x zero) y && not (t && eqb u y)) (sym (word_next left w next from x low without))

-- no member is left
word_none : (left from x : ℕ) → left ≡ 0 → word_has left from x ≡ false
word_none left from x e = rw (e, has_none (x - from)) (and_no (leb from x))

pub linked_done : (a : Bool) (left from x u y : ℕ) → left ≡ 0 → a ≡ (a || (word_has left from x && eqb u y))
linked_done a left from x u y e = rw (word_none left from x e) (sym (or_false a))

pub unlinked_done : (a : Bool) (left from x u y : ℕ) → left ≡ 0 → a ≡ (a && not (word_has left from x && eqb u y))
unlinked_done a left from x u y e = rw (word_none left from x e) (sym (and_true a))

-- ---- word after word

-- x is a member of one of the words, the first of which starts at from
abbrev pub words_have : List ℕ → ℕ → ℕ → Bool
words_have [] from x = false
words_have (s ∷ l) from x = word_has s from x || words_have l (from + 64) x

pub words-have : {n : ℕ} {l : List ℕ} → Fit n l → (from i : ℕ) → words_have l from i ≡ (leb from i && has (wide l) (i - from))
unfolding wide
words-have none from i = rw (has_none (i - from)) (sym (and_no (leb from i)))
words-have (more {n} {x} {l} b f) from i =
    rw (words-have f (from + 64) i, has_cat 64 (wide l) x (i - from) b) (go (dec_lt i from) (dec_lt i (from + 64)))
  where
    go : Dec (i < from) → Dec (i < from + 64)
        → (word_has x from i || (leb (from + 64) i && has (wide l) (i - (from + 64))))
        ≡ (leb from i && cond (ltb (i - from) 64) (has x (i - from)) (has (wide l) (i - from - 64)))
    go (yes p) q = rw (lt-leb from i p, lt-leb (from + 64) i (omega arith))
    go (no p) (yes q) =
        rw (le-leb from i (omega arith), lt-leb (from + 64) i q, lt-ltb (i - from) 64 (omega arith)) (or_false (has x (i - from)))
    go (no p) (no q) =
        rw (le-leb from i (omega arith), le-leb (from + 64) i (omega arith), le-ltb (i - from) 64 (omega arith), has_beyond 64 x (i - from) b (omega arith))
        (ap (has (wide l)) (let z : i - (from + 64) ≡ i - from - 64 = omega arith in z))

-- what is done for one word and then for the others is done for all
pub linked_both : {rows m r : List ℕ} {u : ℕ} {p q : ℕ → Bool} → LinkedBy rows u p m → LinkedBy m u q r → LinkedBy rows u (λ x. p x || q x) r
linked_both {rows} {m} {r} {u} {p} {q} a b = record {
  long = b.long ∙ a.long;
  is = λ x y. b.is x y ∙ ap (λ (t : Bool). t || (q x && eqb u y)) (a.is x y) ∙ both (has (get_or rows x zero) y) (p x) (eqb u y) (q x);
}

pub unlinked_both : {rows m r : List ℕ} {u : ℕ} {p q : ℕ → Bool} → UnlinkedBy rows u p m → UnlinkedBy m u q r → UnlinkedBy rows u (λ x. p x || q x) r
unlinked_both {rows} {m} {r} {u} {p} {q} a b = record {
  long = b.long ∙ a.long;
  is = λ x y. b.is x y ∙ ap (λ (t : Bool). t && not (q x && eqb u y)) (a.is x y) ∙ neither (has (get_or rows x zero) y) (p x) (eqb u y) (q x);
}

pub linked_as : {rows r : List ℕ} {u : ℕ} {p : ℕ → Bool} (s : ℕ) → ((x : ℕ) → p x ≡ has s x) → LinkedBy rows u p r → Linked rows u s r
linked_as {rows} {r} {u} {p} s e a =
    record { long = a.long; is = λ x y. a.is x y ∙ ap (λ (t : Bool). has (get_or rows x zero) y || (t && eqb u y)) (e x) }

pub unlinked_as : {rows r : List ℕ} {u : ℕ} {p : ℕ → Bool} (s : ℕ) → ((x : ℕ) → p x ≡ has s x) → UnlinkedBy rows u p r → Unlinked rows u s r
unlinked_as {rows} {r} {u} {p} s e a =
    record { long = a.long; is = λ x y. a.is x y ∙ ap (λ (t : Bool). has (get_or rows x zero) y && not (t && eqb u y)) (e x) }

-- a set of one word, and one of four
from_zero : (m x : ℕ) → (leb 0 x && has m (x - 0)) ≡ has m x
from_zero m x = rw (le-leb 0 x (omega arith)) (ap (has m) (let z : x - 0 ≡ x = omega arith in z))

pub has_one_word : (s : Set) → Fits 64 (num s) → (x : ℕ) → word_has s.a 0 x ≡ has (num s) x
has_one_word s f x = from_zero s.a x ∙ ap (λ (m : ℕ). has m x) (sym (low_word s f))

pub has_four_words : (s : Set) → s.a < 2 ^ 64 → s.b < 2 ^ 64 → s.c < 2 ^ 64 → s.d < 2 ^ 64
    → (x : ℕ) → (word_has s.a 0 x || (word_has s.b 64 x || (word_has s.c 128 x || word_has s.d 192 x))) ≡ has (num s) x
unfolding num
has_four_words s a b c d x =
    ap (λ (t : Bool). word_has s.a 0 x || (word_has s.b 64 x || (word_has s.c 128 x || t))) (sym (or_false (word_has s.d 192 x)))
    ∙ words-have (more a (more b (more c (more d none)))) 0 x ∙ from_zero (wide (s.a ∷ s.b ∷ s.c ∷ s.d ∷ [])) x

-- the first word's rows, where there is one; where there are four, each word's after the other's
module _ {words : ℕ} {lent : List ℕ} (s : Set) (o : One words lent) (f : Fits (64 * words) (num s)) where
  only : (x : ℕ) → word_has s.a 0 x ≡ has (num s) x
  only = has_one_word s (subst (λ (w : ℕ). Fits (64 * w) (num s)) o.words_one f)

  pub linked_one : {rows r : List ℕ} {u : ℕ} → LinkedBy rows u (word_has s.a 0) r → Linked rows u (num s) r
  linked_one a = linked_as (num s) only a

  pub unlinked_one : {rows r : List ℕ} {u : ℕ} → UnlinkedBy rows u (word_has s.a 0) r → Unlinked rows u (num s) r
  unlinked_one a = unlinked_as (num s) only a

module _ (s : Set) (a : s.a < 2 ^ 64) (b : s.b < 2 ^ 64) (c : s.c < 2 ^ 64) (d : s.d < 2 ^ 64) {rows m1 m2 m3 r : List ℕ} {u : ℕ} where
  pub linked_four : LinkedBy rows u (word_has s.a 0) m1 → LinkedBy m1 u (word_has s.b 64) m2 → LinkedBy m2 u (word_has s.c 128) m3
      → LinkedBy m3 u (word_has s.d 192) r → Linked rows u (num s) r
  linked_four e f g h = linked_as (num s) (has_four_words s a b c d) (linked_both e (linked_both f (linked_both g h)))

  pub unlinked_four : UnlinkedBy rows u (word_has s.a 0) m1 → UnlinkedBy m1 u (word_has s.b 64) m2 → UnlinkedBy m2 u (word_has s.c 128) m3
      → UnlinkedBy m3 u (word_has s.d 192) r → Unlinked rows u (num s) r
  unlinked_four e f g h = unlinked_as (num s) (has_four_words s a b c d) (unlinked_both e (unlinked_both f (unlinked_both g h)))
