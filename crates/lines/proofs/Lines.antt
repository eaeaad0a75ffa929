-- A text's lines by their places: as `line_end` and `next_start` find them, they are the lines of `lines_of`.
use Prim.Native.Nat.{ℕ, zero, suc, ◌+◌, ◌-◌, ◌≤◌, ◌<◌, zero-le, suc-le-suc}
use mathlib.Core.Path.{◌≡◌, refl, sym, ap, ◌∙◌}
use mathlib.Core.List.{List, [], ◌∷◌}
use mathlib.Core.Bool.{Bool, true, false, cond}
use native.Mathlib.Nat.{le_of_suc-le-suc, not-suc-le-zero, add-zero, add-suc}
use native.Mathlib.Numerals.{add-one}
use native.Mathlib.Omega.{arith}
use borrow.Author.Tests.{lt-ltb, le-ltb, ltb-true, ltb-false}
use lib.ListN.{length, take, drop, drop_of_length-le, length-drop}
use lib.Seq.{drop-drop}
use lib.Dec.{eqb, ltb}
use Rattle.std.specs.Prelude.{Some, None, not, position}
use Rattle.std.specs.List.{position_or_len}
use Rattle.lines.specs.Text.{Text, done, unended, ended, put, feed, lines_of, line_no_lem, first_line, line_end_lem, next_start_lem, place_of}
use Rattle.lines.proofs.Basics.{cond_cases}

-- ---- the first line

-- it is as long as what stands before the first line feed
first_is : (t : List ℕ) → length (first_line t) ≡ position_or_len (λ b. eqb b 10) t
first_is [] = refl
first_is (b ∷ t) = go (eqb b 10) (first_is t)
  where
    go : (x : Bool) → length (first_line t) ≡ position_or_len (λ b. eqb b 10) t → length (cond x [] (b ∷ first_line t)) ≡ cond (not x) (1 + position_or_len (λ b. eqb b 10) t) 0
    go true r = refl
    go false r = omega arith

first_le : (t : List ℕ) → length (first_line t) ≤ length t
first_le [] = zero-le
first_le (b ∷ t) = cond_cases (λ (l : List ℕ). length l ≤ suc (length t)) (eqb b 10) [] (b ∷ first_line t) (λ _. zero-le) (λ _. suc-le-suc (first_le t))

first_take : (t : List ℕ) → take (length (first_line t)) t ≡ first_line t
first_take [] = refl
first_take (b ∷ t) = cond_cases (λ (l : List ℕ). take (length l) (b ∷ t) ≡ l) (eqb b 10) [] (b ∷ first_line t) (λ _. refl) (λ _. ap (λ (l : List ℕ). b ∷ l) (first_take t))

-- ---- the lines from a place on

ended_at : (t : List ℕ) → length (first_line t) < length t → lines_of t ≡ ended (take (length (first_line t)) t) (lines_of (drop (suc (length (first_line t))) t))
ended_at [] h = absurd (not-suc-le-zero h)
ended_at (b ∷ t) h = go (eqb b 10) h (ended_at t)
  where
    go : (x : Bool) → length (cond x [] (b ∷ first_line t)) < suc (length t)
        → (length (first_line t) < length t → lines_of t ≡ ended (take (length (first_line t)) t) (lines_of (drop (suc (length (first_line t))) t)))
        → feed x b (lines_of t) ≡ ended (take (length (cond x [] (b ∷ first_line t))) (b ∷ t)) (lines_of (drop (suc (length (cond x [] (b ∷ first_line t)))) (b ∷ t)))
    go true h r = refl
    go false h r = ap (put b) (r (le_of_suc-le-suc h))

-- what is left of a text with no line feed
abbrev pub unfed : List ℕ → Text
unfed [] = done
unfed (b ∷ t) = unended (b ∷ t)

put_unfed : (b : ℕ) (t : List ℕ) → put b (unfed t) ≡ unended (b ∷ t)
put_unfed b [] = refl
put_unfed b (x ∷ t) = refl

unended_at : (t : List ℕ) → length t ≤ length (first_line t) → lines_of t ≡ unfed t
unended_at [] h = refl
unended_at (b ∷ t) h = go (eqb b 10) h (unended_at t)
  where
    go : (x : Bool) → suc (length t) ≤ length (cond x [] (b ∷ first_line t)) → (length t ≤ length (first_line t) → lines_of t ≡ unfed t) → feed x b (lines_of t) ≡ unended (b ∷ t)
    go true h r = absurd (not-suc-le-zero h)
    go false h r = ap (put b) (r (le_of_suc-le-suc h)) ∙ put_unfed b t

unfed_some : (t : List ℕ) → 0 < length t → unfed t ≡ unended t
unfed_some [] h = absurd (not-suc-le-zero h)
unfed_some (b ∷ t) h = refl

-- a line ends at the first line feed from its start on, or with the text
pub feed_found : (s : List ℕ) (a i : ℕ) → position (λ b. eqb b 10) (drop a s) ≡ Some i → a + i ≡ line_end_lem s a
feed_found s a i = go (ltb (position_or_len (λ b. eqb b 10) (drop a s)) (length (drop a s)))
  where
    go : (x : Bool) → cond x (Some (position_or_len (λ b. eqb b 10) (drop a s))) None ≡ Some i → a + i ≡ line_end_lem s a
    go true e = let z : position_or_len (λ b. eqb b 10) (drop a s) ≡ i = cc in omega (arith, first_is (drop a s))
    go false e = let z : ◌≡◌ {A = ℕ} 0 1 = cc in absurd (omega arith)

pub feed_none : (s : List ℕ) (a : ℕ) → a ≤ length s → position (λ b. eqb b 10) (drop a s) ≡ None → length s ≡ line_end_lem s a
feed_none s a h = go (ltb (position_or_len (λ b. eqb b 10) (drop a s)) (length (drop a s))) refl
  where
    go : (x : Bool) → ltb (position_or_len (λ b. eqb b 10) (drop a s)) (length (drop a s)) ≡ x
        → cond x (Some (position_or_len (λ b. eqb b 10) (drop a s))) None ≡ None → length s ≡ line_end_lem s a
    go true f e = let z : ◌≡◌ {A = ℕ} 0 1 = cc in absurd (omega arith)
    go false f e = omega (arith, ltb-false _ _ f, first_is (drop a s), first_le (drop a s), length-drop a s)

module _ (s : List ℕ) (a e : ℕ) (q : e ≡ line_end_lem s a) where
  -- a line ends within its text
  pub end_le : a ≤ length s → e ≤ length s
  end_le h = omega (arith, first_le (drop a s), length-drop a s)

  pub start_le : a ≤ e
  start_le = omega arith

  -- the bytes from its start up to its end
  pub line_is : take (e - a) (drop a s) ≡ first_line (drop a s)
  line_is = let p : e - a ≡ length (first_line (drop a s)) = omega arith in rw p (first_take (drop a s))

  -- a line that has its line feed, and the lines after it
  pub line_ended : e < length s → lines_of (drop a s) ≡ ended (take (e - a) (drop a s)) (lines_of (drop (e + 1) s))
  line_ended h =
      let n = length (first_line (drop a s)) in
      let p : e - a ≡ n = omega arith in
      let d : drop (suc n) (drop a s) ≡ drop (e + 1) s = let f : a + suc n ≡ e + 1 = omega arith in drop-drop (suc n) a s ∙ ap (λ (k : ℕ). drop k s) f in
      ended_at (drop a s) (omega (arith, length-drop a s)) ∙ rw (p, d)

  -- a last line that lacks it
  pub line_unended : a < length s → length s ≤ e → lines_of (drop a s) ≡ unended (drop a s)
  line_unended l h = unended_at (drop a s) (omega (arith, length-drop a s)) ∙ unfed_some (drop a s) (omega (arith, length-drop a s))

  -- where the next line starts
  pub next_mid : e < length s → e + 1 ≡ next_start_lem s a
  next_mid h = rw (← q, lt-ltb e (length s) h)

  pub next_end : length s ≤ e → length s ≡ next_start_lem s a
  next_end h = rw (← q, le-ltb e (length s) h)

-- ---- line k

pub next_le : (s : List ℕ) (a : ℕ) → next_start_lem s a ≤ length s
next_le s a = go (ltb (line_end_lem s a) (length s)) refl
  where
    go : (x : Bool) → ltb (line_end_lem s a) (length s) ≡ x → cond x (line_end_lem s a + 1) (length s) ≤ length s
    go true e = let h = ltb-true (line_end_lem s a) (length s) e in omega arith
    go false e = omega arith

pub place_le : (s : List ℕ) (k : ℕ) → place_of s k ≤ length s
place_le s zero = zero-le
place_le s (suc k) = next_le s (place_of s k)

pub place_next : (s : List ℕ) (k : ℕ) → place_of s (k + 1) ≡ next_start_lem s (place_of s k)
place_next s k = ap (place_of s) (add-one k)

-- past the text's end there is no other place
pub next_stays : (s : List ℕ) (a : ℕ) → length s ≤ a → next_start_lem s a ≡ length s
next_stays s a h = sym (next_end s a (line_end_lem s a) refl (omega arith))

place_end : (s : List ℕ) (i j : ℕ) → length s ≤ place_of s i → place_of s (i + j) ≡ place_of s i
place_end s i zero h = rw (add-zero i)
place_end s i (suc j) h = rw (add-suc i j, place_end s i j h) (next_stays s (place_of s i) h ∙ omega (arith, place_le s i))

pub place_past : (s : List ℕ) (i k : ℕ) → i ≤ k → length s ≤ place_of s i → place_of s i ≡ place_of s k
place_past s i k l h = let e : i + (k - i) ≡ k = omega arith in sym (ap (place_of s) (sym e) ∙ place_end s i (k - i) h)

line_first : (t : List ℕ) → line_no_lem (lines_of t) 0 ≡ first_line t
line_first [] = refl
line_first (b ∷ t) = go (eqb b 10) (line_first t)
  where
    put_first : (x : Text) → line_no_lem (put b x) 0 ≡ b ∷ line_no_lem x 0
    put_first done = refl
    put_first (unended l) = refl
    put_first (ended l t) = refl

    go : (x : Bool) → line_no_lem (lines_of t) 0 ≡ first_line t → line_no_lem (feed x b (lines_of t)) 0 ≡ cond x [] (b ∷ first_line t)
    go true r = refl
    go false r = put_first (lines_of t) ∙ ap (λ (l : List ℕ). b ∷ l) r

none_after : (t : List ℕ) (k : ℕ) → line_no_lem (unfed t) (suc k) ≡ []
none_after [] k = refl
none_after (b ∷ t) k = refl

none_left : (s : List ℕ) (a k : ℕ) → length s ≤ a → line_no_lem (lines_of (drop a s)) k ≡ []
none_left s a k h = rw (drop_of_length-le s h)

-- the line after the one at a is the first from where the next starts
line_step : (s : List ℕ) (a k : ℕ) → line_no_lem (lines_of (drop a s)) (suc k) ≡ line_no_lem (lines_of (drop (next_start_lem s a) s)) k
line_step s a k = go (ltb (line_end_lem s a) (length s)) refl
  where
    go : (x : Bool) → ltb (line_end_lem s a) (length s) ≡ x → line_no_lem (lines_of (drop a s)) (suc k) ≡ line_no_lem (lines_of (drop (cond x (line_end_lem s a + 1) (length s)) s)) k
    go true e = ap (λ (t : Text). line_no_lem t (suc k)) (line_ended s a (line_end_lem s a) refl (ltb-true (line_end_lem s a) (length s) e))
    go false e =
        let h = ltb-false (line_end_lem s a) (length s) e in
        ap (λ (t : Text). line_no_lem t (suc k)) (unended_at (drop a s) (omega (arith, length-drop a s))) ∙ none_after (drop a s) k ∙ sym (none_left s (length s) k (omega arith))

places : (s : List ℕ) (i k : ℕ) → line_no_lem (lines_of (drop (place_of s i) s)) k ≡ line_no_lem (lines_of s) (k + i)
places s zero k = rw (add-zero k)
places s (suc i) k = sym (line_step s (place_of s i) k) ∙ places s i (suc k) ∙ (let e : suc k + i ≡ k + suc i = omega arith in rw e)

-- the line at line k's place is line k
pub line_no_is : (s : List ℕ) (k : ℕ) → first_line (drop (place_of s k) s) ≡ line_no_lem (lines_of s) k
line_no_is s k = sym (line_first (drop (place_of s k) s)) ∙ places s k 0 ∙ (let e : 0 + k ≡ k = omega arith in rw e)
