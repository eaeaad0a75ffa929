-- The edges of a list are those that its rows have, gone through row by row; and their lines, one edge at a time.
use Prim.Native.Nat.{ℕ, zero, suc, ◌+◌, ◌-◌, ◌≤◌, ◌<◌}
use mathlib.Core.Path.{◌≡◌, refl, sym, ap, subst, ◌∙◌}
use mathlib.Core.List.{List, [], ◌∷◌, ◌++◌, append_assoc, append-nil}
use mathlib.Core.Bool.{Bool, true, false}
use native.Mathlib.Nat.{add-zero}
use native.Mathlib.Omega.{arith}
use borrow.Author.Tests.{lt-ltb, le-ltb}
use lib.ListN.{length, take, drop, get_or, length-append, drop_of_length-le}
use lib.Seq.{take-suc, take-length, length-take-le}
use Rattle.sets.specs.Set.{has}
use Rattle.sets.specs.Lists.{table, put, select, cross}
use Rattle.lines.specs.Numeral.{numeral, two_line}
use Rattle.lines.proofs.Basics.{from}
use Rattle.lines.proofs.Writing.{two_length}
use Rattle.lists.specs.Shape.{e_word}
use Rattle.lists.specs.Edges.{edge_at, edges, row_edges, edges_from}
use Rattle.lists.specs.Write.{edges_text}

-- ---- selections

select_append : {A : Type 0} (p : A → Bool) (k l : List A) → select p (k ++ l) ≡ select p k ++ select p l
select_append p [] l = refl
select_append {A} p (x ∷ k) l = go (p x) (select_append p k l)
  where
    go : (b : Bool) → select p (k ++ l) ≡ select p k ++ select p l → put b x (select p (k ++ l)) ≡ put b x (select p k) ++ select p l
    go true e = ap (λ (t : List A). x ∷ t) e
    go false e = e

-- ---- one row

-- what is put in front, where the test is known
put_is : {A : Type 0} (b c : Bool) (x y : A) (l m : List A) → b ≡ c → x ≡ y → l ≡ m → put b x l ≡ put c y m
put_is b c x y l m e f g = rw (e, f, g)

module _ (rows : List ℕ) (i : ℕ) where
  abbrev row : ℕ
  row = get_or rows i 0

  -- f gives the pairs of i with the entries from j on
  abbrev From : (ℕ → ℕ × ℕ) → ℕ → Type 0
  From f j = (y : ℕ) → f y ≡ (i, j + y)

  from_next : (f : ℕ → ℕ × ℕ) (j : ℕ) → From f j → From (λ y. f (suc y)) (j + 1)
  from_next f j h y = let e : j + suc y ≡ j + 1 + y = omega arith in h (suc y) ∙ rw e

  from_first : (f : ℕ → ℕ × ℕ) (j : ℕ) → From f j → f 0 ≡ (i, j)
  from_first f j h = h 0 ∙ rw (add-zero j)

  edge_later : (j : ℕ) → i < j → edge_at rows (i, j) ≡ has row j
  edge_later j h = rw (lt-ltb i j h)

  edge_earlier : (j : ℕ) → j ≤ i → edge_at rows (i, j) ≡ false
  edge_earlier j h = rw (le-ltb i j h)

  select_later : (k : ℕ) (f : ℕ → ℕ × ℕ) (j : ℕ) → From f j → i < j → select (edge_at rows) (table f k) ≡ row_edges row i j k
  select_later zero f j h l = refl
  select_later (suc k) f j h l =
      let e = from_first f j h in
      put_is (edge_at rows (f 0)) (has row j) (f 0) (i, j) _ _ (ap (edge_at rows) e ∙ edge_later j l) e
      (select_later k (λ y. f (suc y)) (j + 1) (from_next f j h) (omega arith))

  -- l entries that are no later than i, and k that are
  select_row : (l k : ℕ) (f : ℕ → ℕ × ℕ) (j : ℕ) → From f j → j + l ≡ i + 1 → select (edge_at rows) (table f (l + k)) ≡ row_edges row i (i + 1) k
  select_row zero k f j h e =
      let z : 0 + k ≡ k = omega arith in
      let w : j ≡ i + 1 = omega arith in
      ap (λ (x : ℕ). select (edge_at rows) (table f x)) z ∙ select_later k f j h (omega arith) ∙ ap (λ (x : ℕ). row_edges row i x k) w
  select_row (suc l) k f j h e =
      let z : suc l + k ≡ suc (l + k) = omega arith in
      let d = from_first f j h in
      ap (λ (x : ℕ). select (edge_at rows) (table f x)) z
      ∙ put_is (edge_at rows (f 0)) false (f 0) (i, j) _ _ (ap (edge_at rows) d ∙ edge_earlier j (omega arith)) d refl
      ∙ select_row l k (λ y. f (suc y)) (j + 1) (from_next f j h) (omega arith)

  row_is : (n : ℕ) → i < n → select (edge_at rows) (table (λ y. (i, y)) n) ≡ row_edges row i (i + 1) (n - (i + 1))
  row_is n h =
      let e : i + 1 + (n - (i + 1)) ≡ n = omega arith in
      let f : ℕ → ℕ × ℕ = λ y. (i, y) in
      ap (λ (x : ℕ). select (edge_at rows) (table f x)) (sym e)
      ∙ select_row (i + 1) (n - (i + 1)) f 0 (λ y. let z : y ≡ 0 + y = omega arith in ap (λ (x : ℕ). (i, x)) z) (omega arith)

-- ---- all rows

edges_snoc : (n : ℕ) (rs : List ℕ) (r i : ℕ) → edges_from n (rs ++ r ∷ []) i ≡ edges_from n rs i ++ row_edges r (i + length rs) (i + length rs + 1) (n - (i + length rs + 1))
edges_snoc n [] r i = rw (add-zero i) (append-nil (row_edges r i (i + 1) (n - (i + 1))))
edges_snoc n (x ∷ rs) r i =
    let e : i + 1 + length rs ≡ i + suc (length rs) = omega arith in
    let y = row_edges x i (i + 1) (n - (i + 1)) in
    ap (λ (l : List (ℕ × ℕ)). y ++ l) (edges_snoc n rs r (i + 1) ∙ rw e)
    ∙ sym (append_assoc y (edges_from n rs (i + 1)) _)

cross_is : (rows : List ℕ) (k : ℕ) → k ≤ length rows → select (edge_at rows) (cross k (length rows)) ≡ edges_from (length rows) (take k rows) 0
cross_is rows zero h = refl
cross_is rows (suc k) h =
    let n = length rows in
    let t = length-take-le k rows (omega arith) in
    let z : 0 + length (take k rows) ≡ k = omega arith in
    select_append (edge_at rows) (cross k n) (table (λ y. (k, y)) n)
    ∙ ap (λ (l : List (ℕ × ℕ)). l ++ select (edge_at rows) (table (λ y. (k, y)) n)) (cross_is rows k (omega arith))
    ∙ ap (λ (l : List (ℕ × ℕ)). edges_from n (take k rows) 0 ++ l) (row_is rows k n (omega arith) ∙ rw z)
    ∙ sym (edges_snoc n (take k rows) (get_or rows k 0) 0)
    ∙ ap (λ (l : List ℕ). edges_from n l 0) (sym (take-suc rows k 0 (omega arith)))

-- the law
pub edges_are : (rows : List ℕ) → edges rows ≡ edges_from (length rows) rows 0
unfolding edges
edges_are rows = cross_is rows (length rows) (omega arith) ∙ ap (λ (l : List ℕ). edges_from (length rows) l 0) (take-length rows)

-- ---- one edge, one row more

pub row_more : (row i j n : ℕ) → j < n → row_edges row i j (n - j) ≡ put (has row j) (i, j) (row_edges row i (j + 1) (n - (j + 1)))
row_more row i j n h = let e : n - j ≡ suc (n - (j + 1)) = omega arith in rw e

pub row_yes : (row i j n : ℕ) → j < n → has row j ≡ true → row_edges row i j (n - j) ≡ (i, j) ∷ row_edges row i (j + 1) (n - (j + 1))
row_yes row i j n h e = row_more row i j n h ∙ rw e

pub row_no : (row i j n : ℕ) → j < n → has row j ≡ false → row_edges row i j (n - j) ≡ row_edges row i (j + 1) (n - (j + 1))
row_no row i j n h e = row_more row i j n h ∙ rw e

pub row_end : (row i j n : ℕ) → n ≤ j → row_edges row i j (n - j) ≡ []
row_end row i j n h = let e : n - j ≡ 0 = omega arith in rw e

pub rows_more : (n : ℕ) (rows : List ℕ) (i : ℕ) → i < length rows → edges_from n (drop i rows) i ≡ row_edges (get_or rows i 0) i (i + 1) (n - (i + 1)) ++ edges_from n (drop (i + 1) rows) (i + 1)
rows_more n rows i h = rw (from rows i h)

pub rows_end : (n : ℕ) (rows : List ℕ) (i : ℕ) → length rows ≤ i → edges_from n (drop i rows) i ≡ []
rows_end n rows i h = rw (drop_of_length-le rows h)

-- ---- their lines

pub text_append : (xs ys : List (ℕ × ℕ)) → edges_text (xs ++ ys) ≡ edges_text xs ++ edges_text ys
text_append [] ys = refl
text_append (x ∷ xs) ys =
    let l = two_line e_word (x.0 + 1) (x.1 + 1) in
    ap (λ (t : List ℕ). l ++ t) (text_append xs ys) ∙ sym (append_assoc l (edges_text xs) (edges_text ys))

pub edge_line : (row i j n : ℕ) → j < n → has row j ≡ true → edges_text (row_edges row i j (n - j)) ≡ two_line e_word (i + 1) (j + 1) ++ edges_text (row_edges row i (j + 1) (n - (j + 1)))
edge_line row i j n h e = ap edges_text (row_yes row i j n h e)

pub no_line : (row i j n : ℕ) → j < n → has row j ≡ false → edges_text (row_edges row i j (n - j)) ≡ edges_text (row_edges row i (j + 1) (n - (j + 1)))
no_line row i j n h e = ap edges_text (row_no row i j n h e)

pub row_lines : (n : ℕ) (rows : List ℕ) (i : ℕ) → i < length rows
    → edges_text (edges_from n (drop i rows) i) ≡ edges_text (row_edges (get_or rows i 0) i (i + 1) (n - (i + 1))) ++ edges_text (edges_from n (drop (i + 1) rows) (i + 1))
row_lines n rows i h = ap edges_text (rows_more n rows i h) ∙ text_append (row_edges (get_or rows i 0) i (i + 1) (n - (i + 1))) (edges_from n (drop (i + 1) rows) (i + 1))

-- ---- what is left to count, of m edges whose lines take b bytes

pub record Counted (es : List (ℕ × ℕ)) (m b : ℕ) (left : List (ℕ × ℕ)) : Type 0 where
  pub number : m + length left ≡ length es
  pub bytes : b + length (edges_text left) ≡ length (edges_text es)

pub count_yes : (es : List (ℕ × ℕ)) (m b row i j n : ℕ) → j < n → Counted es m b (row_edges row i j (n - j)) → has row j ≡ true
    → (m' b' : ℕ) → m' ≡ m + 1 → b' ≡ b + (length (numeral (i + 1)) + length (numeral (j + 1)) + 4) → Counted es m' b' (row_edges row i (j + 1) (n - (j + 1)))
count_yes es m b row i j n h c e m' b' x y =
    let r = row_edges row i (j + 1) (n - (j + 1)) in
    record {
      number = omega (arith, c.number, ap length (row_yes row i j n h e));
      bytes = omega (arith, c.bytes, ap length (edge_line row i j n h e), length-append (two_line e_word (i + 1) (j + 1)) (edges_text r), two_length e_word (i + 1) (j + 1));
    }

pub count_no : (es : List (ℕ × ℕ)) (m b row i j n : ℕ) → j < n → Counted es m b (row_edges row i j (n - j)) → has row j ≡ false
    → (m' b' : ℕ) → m' ≡ m → b' ≡ b → Counted es m' b' (row_edges row i (j + 1) (n - (j + 1)))
count_no es m b row i j n h c e m' b' x y = rw (x, y) (subst (Counted es m b) (row_no row i j n h e) c)

pub count_row : (es : List (ℕ × ℕ)) (m b n : ℕ) (rows : List ℕ) (i : ℕ) → i < length rows → Counted es m b (edges_from n (drop i rows) i)
    → (m' b' : ℕ) → m' ≡ length (row_edges (get_or rows i 0) i (i + 1) (n - (i + 1))) → b' ≡ length (edges_text (row_edges (get_or rows i 0) i (i + 1) (n - (i + 1))))
    → Counted es (m + m') (b + b') (edges_from n (drop (i + 1) rows) (i + 1))
count_row es m b n rows i h c m' b' x y =
    let r = row_edges (get_or rows i 0) i (i + 1) (n - (i + 1)) in
    let t = edges_from n (drop (i + 1) rows) (i + 1) in
    record {
      number = omega (arith, c.number, ap length (rows_more n rows i h), length-append r t);
      bytes = omega (arith, c.bytes, ap length (row_lines n rows i h), length-append (edges_text r) (edges_text t));
    }

pub count_none : (es : List (ℕ × ℕ)) (m b : ℕ) (left : List (ℕ × ℕ)) → left ≡ [] → Counted es m b left → (m ≡ length es) × (b ≡ length (edges_text es))
count_none es m b left e c = (omega (arith, c.number, ap length e), omega (arith, c.bytes, ap (λ (l : List (ℕ × ℕ)). length (edges_text l)) e))

pub count_all : (es : List (ℕ × ℕ)) → Counted es 0 0 es
count_all es = record { number = omega arith; bytes = omega arith }
