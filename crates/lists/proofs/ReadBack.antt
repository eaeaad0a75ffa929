-- What is written reads back: a sound list's text is accepted with its n, and its rows are the list's. By both readings, since no edge is written
-- twice; and with too few rows lent both refuse it alike.
--
--   New g es : the rows g have none of the edges es
use Prim.Native.Nat.{ℕ, suc, ◌+◌, ◌-◌, ◌≤◌, ◌<◌}
use mathlib.Core.Path.{◌≡◌, refl, sym, ap, subst, ◌∙◌}
use mathlib.Core.List.{List, [], ◌∷◌, ◌++◌}
use mathlib.Core.Bool.{Bool, true, false, cond, ◌&&◌}
use mathlib.Core.Logic.{inl, inr, ⊎_elim}
use native.Mathlib.Nat.{add-zero}
use native.Mathlib.Decide.{dec_lt}
use native.Mathlib.Omega.{arith}
use borrow.Author.Tests.{le-leb, lt-leb, eq-eqb, ne_eqb}
use lib.Dec.{T, leb}
use lib.ListN.{length, take, drop, get_or, length-replicate}
use lib.Seq.{ext_get_or, get_or-take, length-take-le}
use Rattle.std.specs.Prelude.{Option, Some, Result, Ok, Err}
use Rattle.sets.specs.Lists.{In, NoDup}
use Rattle.sets.proofs.TestLaws.{T?, T-ext, T→false}
use Rattle.sets.proofs.SetLaws.{same_members}
use Rattle.clashes.specs.Matrix.{matrix, SoundUpTo, Sound}
use Rattle.lines.specs.Text.{Text, lines_of}
use Rattle.lines.specs.Numeral.{numeral, two_line}
use Rattle.lines.proofs.Back.{pair_back, two_back}
use Rattle.lists.specs.Expect.{spot_of}
use Rattle.lists.specs.declared.Spot.{Spot}
use Rattle.lists.specs.Shape.{p_word, e_word, as_p, as_e, shape_of}
use Rattle.lists.specs.Read.{no_rows_up_to, accepted, lone, refused, step_up_to, join, finish, after, read_from_up_to, start, read_up_to, most_entries, longest_text, no_rows, read_of, answer_in, written_of}
use Rattle.lists.specs.Edges.{edges}
use Rattle.lists.specs.Write.{edges_text, text_of}
use Rattle.lists.specs.declared.Shape.TheVariants.{E}
use Rattle.lists.specs.declared.Fault.TheVariants.{Room, Long, Repeat}
use Rattle.lists.specs.declared.Head.{Head}
use Rattle.lists.specs.declared.Unread.{Unread}
use Rattle.lists.specs.declared.Gathered.{Gathered}
use Rattle.lists.specs.declared.Step.{Step}
use Rattle.lists.specs.declared.Step.TheVariants.{Go, Edge}
use Rattle.lists.proofs.Fold.{join_length, read_short}
use Rattle.lists.proofs.Marks.{joins, Below, Among, join_was, joins_length, joins_was, joins_new, none_bare}
use Rattle.lists.proofs.EdgeMembers.{edges-In, In-edges, edges_no_dup, edges_le}
use Rattle.lists.proofs.Lengths.{list_most}

-- ---- the e lines

-- after the p line, with c edges read
abbrev head : ℕ → ℕ → ℕ → Head
head n m c = record { n = n; m = m; count = c }

abbrev known : ℕ → ℕ → ℕ → Option Head
known n m c = Some (head n m c)

-- each edge has its smaller end first, and both ends below n
abbrev Rising : ℕ → List (ℕ × ℕ) → Type 0
Rising n es = (e : ℕ × ℕ) → In e es → (e.0 < e.1) × (e.1 < n)

abbrev New : List ℕ → List (ℕ × ℕ) → Type 0
New g es = (e : ℕ × ℕ) → In e es → ¬ T (matrix g e.0 e.1)

-- an edge that the rows have not is no repeat
unrepeated : (plain : Bool) (g : List ℕ) (i j : ℕ) → ¬ T (matrix g i j) → (plain && matrix g i j) ≡ false
unrepeated true g i j h = T→false (matrix g i j) h
unrepeated false g i j h = refl

edge_shape : (i j : ℕ) → i + 1 < 10000000 → j + 1 < 10000000 → shape_of (e_word ++ (numeral (i + 1) ++ 32 ∷ numeral (j + 1))) ≡ Some (E (i + 1) (j + 1))
edge_shape i j hi hj = ap as_e (pair_back (i + 1) (j + 1) hi hj)

-- where one edge more is joined, the others are new still
new_later : (e : ℕ × ℕ) (es : List (ℕ × ℕ)) (n : ℕ) (g : List ℕ) → Rising n (e ∷ es) → NoDup (e ∷ es) → n ≤ length g → New g (e ∷ es)
    → New (join g e.0 e.1) es
new_later e es n g h d f w x m t =
    let l = h e (inl refl) in
    ⊎_elim (w x (inr m))
    (λ a. ⊎_elim (λ y. d.0 (subst (λ (v : ℕ × ℕ). In v es) (pair_same x e y.0 y.1) m)) (λ y. omega (arith, y.0, y.1, l.0, (h x (inr m)).0)) a)
    (join_was g e.0 e.1 (omega (arith, l.0, l.1)) (omega (arith, l.1)) x.0 x.1 t)
  where
    pair_same : (x y : ℕ × ℕ) → x.0 ≡ y.0 → x.1 ≡ y.1 → x ≡ y
    pair_same x y p q = rw (p, q)

module _ (plain : Bool) (most : ℕ) where
  edge_step : (n m c room : ℕ) (p : Spot) (i j : ℕ) → i < j → j < n → step_up_to most (known n m c) room p (Some (E (i + 1) (j + 1)))
      ≡ Ok (Edge (head n m (c + 1)) i j)
  edge_step n m c room p i j a b =
      let u : i + 1 - 1 ≡ i = omega arith in
      let v : j + 1 - 1 ≡ j = omega arith in
      rw (le-leb 1 (i + 1) (omega arith), le-leb (i + 1) n (omega arith), le-leb 1 (j + 1) (omega arith), le-leb (j + 1) n (omega arith), ne_eqb (i + 1) (j + 1) (λ e. omega arith), u, v)

  edge_read : (n m c room k i j : ℕ) (g t : List ℕ) → i < j → j < n → n < 10000000 → ¬ T (matrix g i j)
      → read_from_up_to plain most (lines_of (two_line e_word (i + 1) (j + 1) ++ t)) room k (known n m c) g ≡ read_from_up_to plain most (lines_of t) room (k + 1) (known n m (c + 1)) (join g i j)
  edge_read n m c room k i j g t a b d new =
      let p = spot_of (e_word ++ (numeral (i + 1) ++ 32 ∷ numeral (j + 1))) in
      let s = ap (step_up_to most (known n m c) room p) (edge_shape i j (omega arith) (omega arith)) ∙ edge_step n m c room p i j a b in
      ap (λ (x : Text). read_from_up_to plain most x room k (known n m c) g) (two_back e_word (i + 1) (j + 1) t ((λ e. omega arith), ((λ e. omega arith), tt)))
      ∙ ap (λ (x : Result Step Spot). after plain x g k (read_from_up_to plain most (lines_of t) room (k + 1))) s
      ∙ ap (λ (x : Bool). cond x (refused Repeat k) (read_from_up_to plain most (lines_of t) room (k + 1) (known n m (c + 1)) (join g i j))) (unrepeated plain g i j new)

  edges_read : (es : List (ℕ × ℕ)) (n m c room k : ℕ) (g : List ℕ) → Rising n es → n < 10000000 → NoDup es → n ≤ length g → New g es
      → read_from_up_to plain most (lines_of (edges_text es)) room k (known n m c) g ≡ finish (known n m (c + length es)) (joins es g) (k + length es)
  edges_read [] n m c room k g h d u f w = rw (add-zero c, add-zero k)
  edges_read (e ∷ es) n m c room k g h d u f w =
      let z = length es in
      let p : k + 1 + z ≡ k + suc z = omega arith in
      let q : c + 1 + z ≡ c + suc z = omega arith in
      let l = h e (inl refl) in
      edge_read n m c room k e.0 e.1 g (edges_text es) l.0 l.1 d (w e (inl refl))
      ∙ edges_read es n m (c + 1) room (k + 1) (join g e.0 e.1) (λ x i. h x (inr i)) d u.1 (omega (arith, join_length g e.0 e.1)) (new_later e es n g h u f w)
      ∙ rw (p, q)

rising : (rows : List ℕ) → Rising (length rows) (edges rows)
rising rows e m = let x = edges-In rows e.0 e.1 m in (x.rising, x.within)

-- ---- the whole text

-- numbers of at most seven digits say how many entries and edges there are
abbrev pub Sevens : List ℕ → Type 0
Sevens rows = (length rows < 10000000) × (length (edges rows) < 10000000)

module _ (plain : Bool) (most : ℕ) (rows : List ℕ) (room : ℕ) (h : length rows ≤ most) (w : Sevens rows) where
  abbrev lines-of : Result Gathered Unread
  lines-of = read_from_up_to plain most (lines_of (text_of rows)) room 1 start (no_rows_up_to most)

  -- the p line, whatever it does
  head_read : (st : Result Step Spot) → cond (leb (length rows) room) (Ok (Go (known (length rows) (length (edges rows)) 0))) (Err (lone Room)) ≡ st
      → lines-of ≡ after plain st (no_rows_up_to most) 1 (read_from_up_to plain most (lines_of (edges_text (edges rows))) room 2)
  head_read st e =
      let n = length rows in
      let es = edges rows in
      let m = length es in
      let p = spot_of (p_word ++ (numeral n ++ 32 ∷ numeral m)) in
      let s : step_up_to most start room p (shape_of (p_word ++ (numeral n ++ 32 ∷ numeral m))) ≡ st =
      ap (step_up_to most start room p) (ap as_p (pair_back n m w.0 w.1)) ∙ rw (le-leb n most h) e in
      ap (λ (x : Text). read_from_up_to plain most x room 1 start (no_rows_up_to most))
      (two_back p_word n m (edges_text es) (
        (λ e. omega arith),
        ((λ e. omega arith), ((λ e. omega arith), ((λ e. omega arith), ((λ e. omega arith), ((λ e. omega arith), ((λ e. omega arith), tt)))))),
      ))
      ∙ ap (λ (x : Result Step Spot). after plain x (no_rows_up_to most) 1 (read_from_up_to plain most (lines_of (edges_text es)) room 2)) s

  lines_read : length rows ≤ room → lines-of ≡ accepted (length rows) (joins (edges rows) (no_rows_up_to most))
  lines_read k =
      let m = length (edges rows) in
      let v : 0 + m ≡ m = omega arith in
      head_read (Ok (Go (known (length rows) m 0))) (rw (le-leb (length rows) room k))
      ∙ edges_read plain most (edges rows) (length rows) m 0 room 2 (no_rows_up_to most) (rising rows) w.0 (edges_no_dup rows) (omega (arith, length-replicate {A = ℕ} most 0))
      (λ e q t. none_bare most e.0 e.1 t)
      ∙ rw (v, eq-eqb m m refl)

  lines_roomless : room < length rows → lines-of ≡ refused Room 1
  lines_roomless k = head_read (Err (lone Room)) (rw (lt-leb (length rows) room k))

  pub text_up_to_read : (longest : ℕ) → length rows ≤ room → length (text_of rows) ≤ longest
      → read_up_to plain most longest (text_of rows) room ≡ accepted (length rows) (joins (edges rows) (no_rows_up_to most))
  text_up_to_read longest k z = sym (read_short plain most longest (text_of rows) room z) ∙ lines_read k

-- whatever room there is, both readings find the same
pub text_up_to_alike : (plain other : Bool) (most longest : ℕ) (rows : List ℕ) (room : ℕ) → length rows ≤ most → Sevens rows
    → read_up_to plain most longest (text_of rows) room ≡ read_up_to other most longest (text_of rows) room
text_up_to_alike plain other most longest rows room h w =
    ap (λ (x : Result Gathered Unread). cond (leb (length (text_of rows)) longest) x (refused Long 0)) (go (dec_lt room (length rows)))
  where
    go : Dec (room < length rows) → lines-of plain most rows room h w ≡ lines-of other most rows room h w
    go (yes k) = lines_roomless plain most rows room h w k ∙ sym (lines_roomless other most rows room h w k)
    go (no k) = lines_read plain most rows room h w (omega arith) ∙ sym (lines_read other most rows room h w (omega arith))

-- ---- its rows

module _ (most : ℕ) (rows : List ℕ) (sound : SoundUpTo most rows) where
  abbrev n : ℕ
  n = length rows

  abbrev made : List ℕ
  made = joins (edges rows) (no_rows_up_to most)

  few : n ≤ most
  few = sound.apart.inside.few

  below : Below most (edges rows)
  below e m = let x = rising rows e m in let f = few in (omega (arith, x.0, x.1), omega (arith, x.1))

  both_ways : (a b : ℕ) → a < n → b < n → T (matrix rows a b) → T (matrix rows b a)
  both_ways a b ha hb t = go (T? (matrix rows b a))
    where
      go : Dec (T (matrix rows b a)) → T (matrix rows b a)
      go (yes u) = u
      go (no u) = absurd (sound.no_one_sided a ha (b, hb, t, u))

  made_clash : (a b : ℕ) → a < n → T (matrix made a b) → T (matrix rows a b)
  made_clash a b ha t =
      ⊎_elim (λ p. absurd (none_bare most a b p))
      (λ p. ⊎_elim (λ m. (edges-In rows a b m).clash) (λ m. let x = edges-In rows b a m in both_ways b a (omega (arith, x.rising, x.within)) x.within x.clash) p)
      (joins_was (edges rows) (no_rows_up_to most) most (length-replicate most 0) below a b t)

  clash_made : (a b : ℕ) → a < n → T (matrix rows a b) → T (matrix made a b)
  clash_made a b ha t = joins_new (edges rows) (no_rows_up_to most) most (length-replicate most 0) below a b (go (dec_lt a b) (dec_lt b a) (dec_lt b n))
    where
      go : Dec (a < b) → Dec (b < a) → Dec (b < n) → Among (edges rows) a b
      go p q (no h) = absurd (sound.apart.inside.no_stray a ha (b, omega arith, t))
      go (yes l) q (yes h) = inl (In-edges rows a b (record { rising = l; within = h; clash = t }))
      go (no l) (yes k) (yes h) = inr (In-edges rows b a (record { rising = k; within = ha; clash = both_ways a b ha h t }))
      go (no l) (no k) (yes h) = let e : b ≡ a = omega arith in absurd (sound.apart.no_itself a ha (subst (λ (x : ℕ). T (matrix rows a x)) e t))

  rows_made : take n made ≡ rows
  rows_made =
      let z : length made ≡ most = joins_length (edges rows) (no_rows_up_to most) ∙ length-replicate most 0 in
      let f = few in
      let s : length (take n made) ≡ n = length-take-le n made (omega arith) in
      ext_get_or 0 (take n made) rows s
      (λ i h. let l : i < n = omega arith in
      get_or-take n made i 0 l
      ∙ same_members (get_or made i 0) (get_or rows i 0) (λ b. T-ext (matrix made i b) (matrix rows i b) (made_clash i b l) (clash_made i b l)))

  -- the law
  pub read_up_to_back : (plain : Bool) (longest : ℕ) (old : List ℕ) → n ≤ length old → Sevens rows → length (text_of rows) ≤ longest
      → (answer_in (read_up_to plain most longest (text_of rows) (length old)) ≡ Ok n) × (written_of (read_up_to plain most longest (text_of rows) (length old)) old ≡ rows ++ drop n old)
  read_up_to_back plain longest old k w z =
      let e = text_up_to_read plain most rows (length old) few w longest k z in
      (ap answer_in e, ap (λ (f : Result Gathered Unread). written_of f old) e ∙ ap (λ (l : List ℕ). l ++ drop n old) rows_made)

-- ---- with today's limits

pub sevens : (rows : List ℕ) → length rows ≤ most_entries → Sevens rows
sevens rows h = (omega arith, omega (arith, edges_le rows h))

pub text_read : (plain : Bool) (rows : List ℕ) (room : ℕ) → length rows ≤ most_entries → length rows ≤ room
    → read_of plain (text_of rows) room ≡ accepted (length rows) (joins (edges rows) no_rows)
text_read plain rows room h k = text_up_to_read plain most_entries rows room h (sevens rows h) longest_text k (omega (arith, list_most rows h))

pub read_back : (plain : Bool) (rows : List ℕ) → Sound rows → (old : List ℕ) → length rows ≤ length old
    → (answer_in (read_of plain (text_of rows) (length old)) ≡ Ok (length rows))
    × (written_of (read_of plain (text_of rows) (length old)) old ≡ rows ++ drop (length rows) old)
read_back plain rows sound old k =
    let h = sound.apart.inside.few in
    read_up_to_back most_entries rows sound plain longest_text old k (sevens rows h) (omega (arith, list_most rows h))
