-- What a reader means: after k times `next` it stands on line k + 1 of its text's lines, at its place; past the last it stays at the end.
use Prim.Native.Nat.{ℕ, zero, suc, ◌+◌, ◌-◌, ◌≤◌, ◌<◌, ◌^◌, zero-le}
use mathlib.Core.Path.{◌≡◌, refl, sym, ap, subst, ◌∙◌}
use mathlib.Core.List.{List}
use mathlib.Core.Bool.{Bool, true, false, cond, not}
use native.Mathlib.Nat.{not-suc-le-zero, add-zero, add-suc}
use native.Mathlib.Omega.{arith}
use borrow.Author.Tests.{lt-ltb, le-ltb, ltb-true, ltb-false}
use lib.ListN.{length, drop, drop_of_length-le}
use lib.Dec.{T, ltb}
use denote.Ref.{Bor}
use Rattle.lines.specs.Text.{lines_of, line_no_lem, line_count, line_end_lem, next_start_lem, place_of}
use Rattle.lines.specs.Part.{LineOf}
use Rattle.lines.specs.Reader.{in_text_lem, largest, next_number_lem, next_of, at_end_lem, after}
use Rattle.lines.specs.declared.Reader.{Reader}
use Rattle.lines.proofs.Lines.{line_ended, line_unended, place_le, place_past, next_stays}
use Rattle.lines.proofs.Parts.{line_bytes}

-- ---- how many lines are left from a place on

-- how many lines stand from place a on
abbrev left : List ℕ → ℕ → ℕ
left s a = line_count (lines_of (drop a s))

none : (s : List ℕ) (a : ℕ) → length s ≤ a → left s a ≡ 0
none s a h = rw (drop_of_length-le s h)

-- a line that is left is one less to come
one_less : (s : List ℕ) (a : ℕ) → a < length s → left s a ≡ suc (left s (next_start_lem s a))
one_less s a h = go (ltb (line_end_lem s a) (length s)) refl
  where
    go : (x : Bool) → ltb (line_end_lem s a) (length s) ≡ x → left s a ≡ suc (left s (cond x (line_end_lem s a + 1) (length s)))
    go true e = ap line_count (line_ended s a (line_end_lem s a) refl (ltb-true (line_end_lem s a) (length s) e))
    go false e = ap line_count (line_unended s a (line_end_lem s a) refl h (ltb-false (line_end_lem s a) (length s) e)) ∙ ap suc (sym (none s (length s) (omega arith)))

some : (s : List ℕ) (a : ℕ) → 0 < left s a → a < length s
some s a h = go (ltb a (length s)) refl
  where
    go : (x : Bool) → ltb a (length s) ≡ x → a < length s
    go true e = ltb-true a (length s) e
    go false e = absurd (not-suc-le-zero (subst (λ (n : ℕ). 0 < n) (none s a (ltb-false a (length s) e)) h))

-- at line k's place k lines are behind, and the others to come
behind : (s : List ℕ) (k : ℕ) → k ≤ line_count (lines_of s) → left s (place_of s k) + k ≡ line_count (lines_of s)
behind s zero h = omega arith
behind s (suc k) h =
    let p = place_of s k in
    let r = behind s k (omega arith) in
    let l : p < length s = some s p (omega arith) in
    let o = one_less s p l in
    omega arith

-- where line k is one of the lines, its place lies within the text
pub place_lt : (s : List ℕ) (k : ℕ) → k < line_count (lines_of s) → place_of s k < length s
place_lt s k h = let b = behind s k (omega arith) in some s (place_of s k) (omega arith)

-- past the last line there is no place but the text's end
pub place_over : (s : List ℕ) (k : ℕ) → line_count (lines_of s) ≤ k → place_of s k ≡ length s
place_over s k h = sym (place_past s n k h over) ∙ omega (arith, over, place_le s n)
  where
    n : ℕ
    n = line_count (lines_of s)

    nothing_left : left s (place_of s n) ≡ 0
    nothing_left = omega (arith, behind s n (omega arith))

    over : length s ≤ place_of s n
    over = go (ltb (place_of s n) (length s)) refl
      where
        go : (x : Bool) → ltb (place_of s n) (length s) ≡ x → length s ≤ place_of s n
        go true e = let o = one_less s (place_of s n) (ltb-true (place_of s n) (length s) e) in omega (arith, nothing_left)
        go false e = ltb-false (place_of s n) (length s) e

-- a line takes a byte at least
pub next_after : (s : List ℕ) (a : ℕ) → a < length s → a < next_start_lem s a
next_after s a h = go (ltb (line_end_lem s a) (length s))
  where
    go : (x : Bool) → a < cond x (line_end_lem s a + 1) (length s)
    go true = omega arith
    go false = h

line_by_byte : (s : List ℕ) (k : ℕ) → k ≤ line_count (lines_of s) → k ≤ place_of s k
line_by_byte s zero h = zero-le
line_by_byte s (suc k) h = let r = line_by_byte s k (omega arith) in let l = next_after s (place_of s k) (place_lt s k (omega arith)) in omega arith

pub count_le : (s : List ℕ) → line_count (lines_of s) ≤ length s
count_le s = let n = line_count (lines_of s) in omega (arith, line_by_byte s n (omega arith), place_le s n)

-- ---- readers

-- a place of the text is itself
in-text : (s : List ℕ) (a : ℕ) → a ≤ length s → in_text_lem s a ≡ a
in-text s a h = go (ltb a (length s)) refl
  where
    go : (x : Bool) → ltb a (length s) ≡ x → cond x a (length s) ≡ a
    go true e = refl
    go false e = let l = ltb-false a (length s) e in omega arith

-- at its text's end a reader stays
pub stays : (r : Reader) → r.at ≡ length r.text.now → next_of r ≡ r
stays r e = ap (λ (a : ℕ). record { text = r.text; at = a; line = next_number_lem s r.at r.line }) (next_stays s r.at (omega (arith, e)) ∙ sym e)
    ∙ ap (λ (n : ℕ). record { text = r.text; at = r.at; line = n }) number
  where
    s : List ℕ
    s = r.text.now

    number : next_number_lem s r.at r.line ≡ r.line
    number = rw (le-ltb r.at (length s) (omega (arith, e)))

module _ (t : Bor (List ℕ)) where
  -- how many lines the text has
  abbrev lines : ℕ
  lines = line_count (lines_of t.now)

  -- after k times `next` it still has its text, and stands at line k's place, counted from 0
  pub reader_at : (k : ℕ) → ((after t k).text ≡ t) × ((after t k).at ≡ place_of t.now k)
  reader_at zero = (refl, refl)
  reader_at (suc k) =
      let (e, p) = reader_at k in
      (e, ap (λ (x : Bor (List ℕ)). next_start_lem x.now (after t k).at) e ∙ ap (next_start_lem t.now) p)

  -- what is handed out there is line k, counted from 0, where it lies
  pub reader_line : (k : ℕ) (r : Bor (List ℕ)) → LineOf (after t k).text (in_text_lem (after t k).text.now (after t k).at) r → LineOf t (place_of t.now k) r
  reader_line k r x =
      let (e, p) = reader_at k in
      subst (λ (a : ℕ). LineOf t a r) (in-text t.now (place_of t.now k) (place_le t.now k))
      (subst (λ (a : ℕ). LineOf t (in_text_lem t.now a) r) p (subst (λ (y : Bor (List ℕ)). LineOf y (in_text_lem y.now (after t k).at) r) e x))

  pub reader_here : (k : ℕ) (r : Bor (List ℕ)) → LineOf (after t k).text (in_text_lem (after t k).text.now (after t k).at) r → r.now ≡ line_no_lem (lines_of t.now) k
  reader_here k r x = line_bytes t k r (reader_line k r x)

  -- it is at the end once it has left every line, and not before
  pub reader_ends : (k : ℕ) → at_end_lem (after t k) ≡ not (ltb k lines)
  reader_ends k =
      let (e, p) = reader_at k in
      ap (λ (y : Bor (List ℕ)). not (ltb (after t k).at (length y.now))) e ∙ ap (λ (a : ℕ). not (ltb a (length t.now))) p ∙ go (ltb k lines) refl
    where
      go : (x : Bool) → ltb k lines ≡ x → not (ltb (place_of t.now k) (length t.now)) ≡ not x
      go true e = rw (lt-ltb (place_of t.now k) (length t.now) (place_lt t.now k (ltb-true k lines e)))
      go false e = rw (place_over t.now k (ltb-false k lines e), le-ltb (length t.now) (length t.now) (omega arith))

  -- where it is at the end, no later line has another place
  pub reader_over : (i k : ℕ) → i ≤ k → at_end_lem (after t i) ≡ true → place_of t.now i ≡ place_of t.now k
  reader_over i k h e = go (ltb i lines) refl
    where
      go : (x : Bool) → ltb i lines ≡ x → place_of t.now i ≡ place_of t.now k
      go true f = absurd (subst T (sym e ∙ reader_ends i ∙ ap not f) tt)
      go false f = let l = ltb-false i lines f in place_over t.now i l ∙ sym (place_over t.now k (omega arith))

  -- where it is not, the next reader is nearer to the end
  pub reader_nearer : (k : ℕ) → at_end_lem (after t k) ≡ false → length t.now - place_of t.now (suc k) < length t.now - place_of t.now k
  reader_nearer k e = go (ltb k lines) refl
    where
      go : (x : Bool) → ltb k lines ≡ x → length t.now - place_of t.now (suc k) < length t.now - place_of t.now k
      go true f = let l = place_lt t.now k (ltb-true k lines f) in omega (arith, next_after t.now (place_of t.now k) l)
      go false f = absurd (subst T (sym (ap not f) ∙ sym (reader_ends k) ∙ e) tt)

  -- of a text that can be lent, the number is the line's, from 1, and does not reach the largest
  module _ (lent : length t.now < 2 ^ 63) where
    pub reader_stands : (k : ℕ) → k ≤ lines → after t k ≡ record { text = t; at = place_of t.now k; line = k + 1 }
    reader_stands zero h = refl
    reader_stands (suc k) h = ap next_of (reader_stands k (omega arith)) ∙ ap (λ (n : ℕ). record { text = t; at = place_of t.now (suc k); line = n }) number
      where
        number : next_number_lem t.now (place_of t.now k) (k + 1) ≡ suc k + 1
        number = rw (lt-ltb (place_of t.now k) (length t.now) (place_lt t.now k (omega arith)), lt-ltb (k + 1) largest (omega (arith, count_le t.now))) (omega arith)

    -- past the last line it stays
    pub reader_stays : (k : ℕ) → lines ≤ k → after t k ≡ record { text = t; at = length t.now; line = lines + 1 }
    reader_stays k h = let e : lines + (k - lines) ≡ k = omega arith in ap (after t) (sym e) ∙ over (k - lines)
      where
        at_last : place_of t.now lines ≡ length t.now
        at_last = place_over t.now lines (omega arith)

        over : (j : ℕ) → after t (lines + j) ≡ record { text = t; at = length t.now; line = lines + 1 }
        over zero = ap (after t) (add-zero lines) ∙ reader_stands lines (omega arith) ∙ ap (λ (a : ℕ). record { text = t; at = a; line = lines + 1 }) at_last
        over (suc j) = ap (after t) (add-suc lines j) ∙ ap next_of (over j) ∙ stays (record { text = t; at = length t.now; line = lines + 1 }) refl
