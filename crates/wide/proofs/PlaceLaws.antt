-- One place of one row changes, whatever the number of words: one word is written. Assumes nothing.
use mathlib.Core.Path.{◌≡◌, sym, ap, ap₂, ◌∙◌, subst}
use mathlib.Core.Bool.{Bool, false, ◌&&◌, cond}
use mathlib.Core.List.{List, [], ◌∷◌}
use Prim.Native.Nat.{ℕ, zero, suc, ◌+◌, ◌*◌, ◌-◌, ◌/◌, ◌%◌, ◌^◌, ◌≤◌, ◌<◌}
use native.Mathlib.Decide.{dec_lt, ℕ_discrete}
use native.Mathlib.Omega.{arith}
use lib.Dec.{eqb, ltb, eqb→eq, lit<}
use lib.ListN.{length, take, drop, get_or, set, length-take, get_or-eq_default}
use lib.Seq.{get_or-take, get_or-drop, get_or-set_same, get_or-set_other}
use borrow.Author.Tests.{lt-ltb, le-ltb}
use Rattle.sets.specs.Set.{has}
use Rattle.sets.proofs.SetLaws.{has_cat, has_none}
use Rattle.sets.proofs.TestLaws.{T-ext, T→false, eqb_of, and_l, and_r, and_t}
use Rattle.sets.proofs.ListLaws.{length_table, get_d_table}
use Rattle.wide.specs.Words.{wide, row, rows_of}
use Rattle.wide.proofs.RowLaws.{row_end}

-- each number of l is a word
abbrev pub Small : List ℕ → Type 0
Small l = (i : ℕ) → get_or l i zero < 2 ^ 64

-- digit j of several words is digit j % 64 of word j / 64
pub has_wide : (l : List ℕ) → Small l → (j : ℕ) → has (wide l) j ≡ has (get_or l (j / 64) zero) (j % 64)
unfolding wide
has_wide [] b j = has_none j ∙ sym (has_none (j % 64))
has_wide (x ∷ l) b j = has_cat 64 (wide l) x j (b zero) ∙ go (has_wide l (λ i. b (suc i)) (j - 64)) (dec_lt j 64)
  where
    go : has (wide l) (j - 64) ≡ has (get_or l ((j - 64) / 64) zero) ((j - 64) % 64) → Dec (j < 64)
        → cond (ltb j 64) (has x j) (has (wide l) (j - 64)) ≡ has (get_or (x ∷ l) (j / 64) zero) (j % 64)
    go e (yes q) =
        ap (λ t. cond t (has x j) (has (wide l) (j - 64))) (lt-ltb j 64 q)
        ∙ sym (ap₂ (λ (i k : ℕ). has (get_or (x ∷ l) i zero) k) (let z : j / 64 ≡ 0 = omega arith in z) (let z : j % 64 ≡ j = omega arith in z))
    go e (no q) =
        ap (λ t. cond t (has x j) (has (wide l) (j - 64))) (le-ltb j 64 (omega arith)) ∙ e
        ∙ sym (ap₂ (λ (i k : ℕ). has (get_or (x ∷ l) i zero) k) (let z : j / 64 ≡ suc ((j - 64) / 64) = omega arith in z)
        (let z : j % 64 ≡ (j - 64) % 64 = omega arith in z))

module _ (words n : ℕ) (rows : List ℕ) (small : Small rows) (a : ℕ) (few : a < n) where
  -- the words of row a
  abbrev part : List ℕ
  part = take words (drop (a * words) rows)

  part_at : (i : ℕ) → i < words → get_or part i zero ≡ get_or rows (a * words + i) zero
  part_at i h = get_or-take words (drop (a * words) rows) i zero h ∙ get_or-drop (a * words) rows i zero

  part_none : (i : ℕ) → words ≤ i → get_or part i zero ≡ zero
  part_none i h = get_or-eq_default part zero (omega (arith, length-take words (drop (a * words) rows)))

  part_small : Small part
  part_small i = go (dec_lt i words)
    where
      go : Dec (i < words) → get_or part i zero < 2 ^ 64
      go (yes h) = subst (λ (x : ℕ). x < 2 ^ 64) (sym (part_at i h)) (small (a * words + i))
      go (no h) = subst (λ (x : ℕ). x < 2 ^ 64) (sym (part_none i (omega arith))) (lit< tt)

  at_row : (b : ℕ) → has (get_or (rows_of words n rows) a zero) b ≡ has (get_or part (b / 64) zero) (b % 64)
  unfolding row
  at_row b = ap (λ (x : ℕ). has x b) (get_d_table (row words rows) n zero a few) ∙ has_wide part part_small b

  -- place b of row a is place b % 64 of one of its words; no word has a place beyond
  pub has_place : (b : ℕ) → b / 64 < words → has (get_or (rows_of words n rows) a zero) b ≡ has (get_or rows (a * words + b / 64) zero) (b % 64)
  has_place b h = at_row b ∙ ap (λ (x : ℕ). has x (b % 64)) (part_at (b / 64) h)

  pub has_beyond_words : (b : ℕ) → words ≤ b / 64 → has (get_or (rows_of words n rows) a zero) b ≡ false
  has_beyond_words b h = at_row b ∙ ap (λ (x : ℕ). has x (b % 64)) (part_none (b / 64) h) ∙ has_none (b % 64)

-- a place of a row is a place of no other: its word is not
one_place : (words a q x r : ℕ) → q < words → r < words → a * words + q ≡ x * words + r → (a ≡ x) × (q ≡ r)
one_place words a q x r h k e = go (dec_lt a x) (dec_lt x a)
  where
    go : Dec (a < x) → Dec (x < a) → (a ≡ x) × (q ≡ r)
    go (yes l) d = absurd (let z = row_end words a x l in let y : ⊥ = omega arith in y)
    go (no l) (yes d) = absurd (let z = row_end words x a d in let y : ⊥ = omega arith in y)
    go (no l) (no d) =
        let s : a ≡ x = omega arith in
        (s, let z : a * words ≡ x * words = ap (λ (i : ℕ). i * words) s in omega arith)

-- the word of place u of row x becomes y, in which place u alone is changed, by g
module _ (g : Bool → Bool → Bool) (kept : (s : Bool) → g s false ≡ s) (words n x u y : ℕ) (rows : List ℕ) (small : Small rows) (fits : y < 2 ^ 64)
    (few : x < n) (inside : u < 64 * words) (room : n * words ≤ length rows)
    (is : (j : ℕ) → has y j ≡ g (has (get_or rows (x * words + u / 64) zero) j) (eqb (u % 64) j)) where
  abbrev place : ℕ
  place = x * words + u / 64

  abbrev new : List ℕ
  new = set rows place y

  within : place < length rows
  within = let z = row_end words x n few in omega arith

  new_small : Small new
  new_small i = go (ℕ_discrete i place)
    where
      go : Dec (i ≡ place) → get_or new i zero < 2 ^ 64
      go (yes e) = subst (λ (m : ℕ). m < 2 ^ 64) (sym (ap (λ (k : ℕ). get_or new k zero) e ∙ get_or-set_same rows place y zero within)) fits
      go (no q) = subst (λ (m : ℕ). m < 2 ^ 64) (sym (get_or-set_other rows place i y zero q)) (small i)

  abbrev hits : ℕ → ℕ → Bool
  hits a b = eqb x a && eqb u b

  hits_none : (a b : ℕ) → (x ≡ a → u ≡ b → ⊥) → hits a b ≡ false
  hits_none a b h = T→false (hits a b) (λ t. h (eqb→eq x a (and_l (eqb x a) (eqb u b) t)) (eqb→eq u b (and_r (eqb x a) (eqb u b) t)))

  -- the word that changes, and the others
  in_word : (a b : ℕ) → b / 64 < words → Dec (a * words + b / 64 ≡ place)
      → has (get_or new (a * words + b / 64) zero) (b % 64) ≡ g (has (get_or rows (a * words + b / 64) zero) (b % 64)) (hits a b)
  in_word a b h (yes e) =
      let o = one_place words a (b / 64) x (u / 64) h (omega arith) e in
      let p = o.0 in
      let q = o.1 in
      ap (λ (k : ℕ). has (get_or new k zero) (b % 64)) e ∙ ap (λ (m : ℕ). has m (b % 64)) (get_or-set_same rows place y zero within) ∙ is (b % 64)
      ∙ ap₂ g (ap (λ (k : ℕ). has (get_or rows k zero) (b % 64)) (sym e))
      (T-ext (eqb (u % 64) (b % 64)) (hits a b)
      (λ t. and_t (eqb x a) (eqb u b) (eqb_of x a (sym p)) (eqb_of u b (let w = eqb→eq (u % 64) (b % 64) t in omega arith)))
      (λ t. eqb_of (u % 64) (b % 64) (ap (λ (m : ℕ). m % 64) (eqb→eq u b (and_r (eqb x a) (eqb u b) t)))))
  in_word a b h (no q) =
      ap (λ (m : ℕ). has m (b % 64)) (get_or-set_other rows place (a * words + b / 64) y zero q)
      ∙ sym (kept (has (get_or rows (a * words + b / 64) zero) (b % 64)))
      ∙ ap (g (has (get_or rows (a * words + b / 64) zero) (b % 64)))
      (sym (hits_none a b (λ e f. q (ap₂ (λ (i j : ℕ). i * words + j / 64) (sym e) (sym f)))))

  -- where there is nothing nothing becomes of it
  nothing : (a b : ℕ) → (x ≡ a → u ≡ b → ⊥) → {s t : Bool} → s ≡ false → t ≡ false → t ≡ g s (hits a b)
  nothing a b h e f = f ∙ sym (kept false) ∙ ap₂ g (sym e) (sym (hits_none a b h))

  pub changed_is : (a b : ℕ) → has (get_or (rows_of words n new) a zero) b ≡ g (has (get_or (rows_of words n rows) a zero) b) (hits a b)
  changed_is a b = go (dec_lt a n) (dec_lt (b / 64) words)
    where
      out : (l : List ℕ) → n ≤ a → has (get_or (rows_of words n l) a zero) b ≡ false
      out l h = ap (λ (m : ℕ). has m b) (get_or-eq_default (rows_of words n l) zero (subst (λ (k : ℕ). k ≤ a) (sym (length_table (row words l) n)) h)) ∙ has_none b

      go : Dec (a < n) → Dec (b / 64 < words) → has (get_or (rows_of words n new) a zero) b ≡ g (has (get_or (rows_of words n rows) a zero) b) (hits a b)
      go (yes h) (yes k) =
          has_place words n new new_small a h b k ∙ in_word a b k (ℕ_discrete (a * words + b / 64) place)
          ∙ ap (λ (s : Bool). g s (hits a b)) (sym (has_place words n rows small a h b k))
      go (yes h) (no k) =
          nothing a b (λ e f. absurd (let z : ⊥ = omega arith in z)) (has_beyond_words words n rows small a h b (omega arith))
          (has_beyond_words words n new new_small a h b (omega arith))
      go (no h) d = nothing a b (λ e f. absurd (let z : ⊥ = omega arith in z)) (out rows (omega arith)) (out new (omega arith))

  pub changed_long : length (rows_of words n new) ≡ length (rows_of words n rows)
  changed_long = length_table (row words new) n ∙ sym (length_table (row words rows) n)
