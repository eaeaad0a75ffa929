-- What is printed for a text, by the steps of the code: a composed text is written where it fits, every number, line and column of a refusal has at most
-- seven digits, and a walk over the rows of a list is accepted or refused for effort. Assumes nothing.
use Prim.Native.Nat.{ℕ, suc, ◌+◌, ◌≤◌, ◌<◌}
use mathlib.Core.Path.{◌≡◌, refl, sym, ap, subst, ◌∙◌}
use mathlib.Core.Logic.{◌⊎◌, inl, inr}
use mathlib.Core.List.{List, [], ◌∷◌, ◌++◌}
use mathlib.Core.Bool.{Bool, true, false, cond}
use native.Mathlib.Decide.{dec_lt}
use native.Mathlib.Omega.{arith}
use borrow.Author.Tests.{le-leb, lt-leb, leb-true, ne_eqb}
use lib.Dec.{T, eqb, ltb}
use lib.ListN.{length, take, length-append}
use Rattle.std.specs.Prelude.{Result, Ok, Err}
use Rattle.refusals.specs.Table.{Beside, nothing, a_row, the_nodes, a_line, a_spot, an_index, entry, number_of, with, told, told_at}
use Rattle.refusals.specs.declared.Refusal.{Refusal}
use Rattle.refusals.specs.declared.Refusal.TheVariants as refusal
use Rattle.refusals.specs.declared.Unsolved.{Unsolved}
use Rattle.refusals.proofs.TableLaws.{table_rule}
use Rattle.lines.specs.Text.{Text, done, unended, ended, lines_of, feed, line_count, Within}
use Rattle.lines.specs.Numeral.{numeral, one_line, over, Put}
use Rattle.lines.proofs.Basics.{cond_cases}
use Rattle.lines.proofs.Back.{numeral_length}
use Rattle.lines.proofs.Writing.{one_length}
use Rattle.clashes.specs.Matrix.{matrix, Sound}
use Rattle.bounds.specs.Names.{mycielskian}
use Rattle.zykov.specs.Walk.{State, bounded_walk_lem}
use Rattle.walk.specs.Promise.{Open, Promised, whole}
use Rattle.walk.specs.declared.found.Fewest.{Fewest}
use Rattle.walk.proofs.Demands.{accepted_within}
use Rattle.lists.specs.Read.{most_entries, longest_text, no_rows_up_to, read_from_up_to, refused as unreadable, start, read_of, answer_in}
use Rattle.lists.specs.Promise.{refusal_of_lem}
use Rattle.lists.specs.declared.Gathered.{Gathered}
use Rattle.lists.specs.declared.Unread.{Unread}
use Rattle.lists.specs.declared.Fault.{Fault}
use Rattle.lists.specs.declared.Fault.TheVariants.{Line, Headless, Second, Size, Vertex, Loop, Count, Room, Long, Repeat, Digit, Space, Unended}
use Rattle.lists.specs.Expect.{of_shape}
use Rattle.lists.proofs.Widths.{read_column}
use Rattle.lists.proofs.Lines.{Named, Names, read_names}
use Rattle.lists.proofs.ReadSound.{read_sound}
use Rattle.lists.proofs.Fold.{Bounded, read_up_to_few}
use Rattle.sheet_texts.specs.Sheet.{sheet_text}
use Rattle.answers.specs.Printed.{budget, refused_word, line_word, column_word, line_text, spot_text, told_text, place_text, refused_text, rows_text, read_text, printed, Writes}
use Rattle.answers.specs.declared.Full.{Full}

-- ---- a composed text

-- what is answered where it does not fit
abbrev pub no_room : Result ℕ Full
no_room = Err (record {})

pub wrote : (x old new : List ℕ) (m : ℕ) → length x ≤ length old → Put old 0 x new m → Writes x old (Ok m) new
wrote x old new m h p =
    let e : m ≡ length x = omega (arith, p.0) in
    record {
      answer = ap Ok e ∙ sym (ap (λ (b : Bool). cond b (Ok (length x)) no_room) (le-leb (length x) (length old) h));
      lent = p.1 ∙ sym (ap (λ (b : Bool). cond b (over old 0 x) old) (le-leb (length x) (length old) h));
    }

pub full : (x old : List ℕ) → length old < length x → Writes x old no_room old
full x old h = record {
  answer = sym (ap (λ (b : Bool). cond b (Ok (length x)) no_room) (lt-leb (length x) (length old) h));
  lent = sym (ap (λ (b : Bool). cond b (over old 0 x) old) (lt-leb (length x) (length old) h));
}

-- ---- at most seven digits

pub number_small : (r : Refusal) → number_of r < 10000000
number_small r = leb-true (suc (number_of r)) 10000000 (table_rule (λ n. ltb n 10000000) refl r)

-- a text has no more lines than bytes
feed_most : (b : Bool) (x : ℕ) (t : Text) (n : ℕ) → line_count t ≤ n → line_count (feed b x t) ≤ suc n
feed_most true x t n h = omega arith
feed_most false x done n h = omega arith
feed_most false x (unended l) n h = omega arith
feed_most false x (ended l t) n h = omega arith

pub lines_most : (s : List ℕ) → line_count (lines_of s) ≤ length s
lines_most [] = omega arith
lines_most (b ∷ s) = feed_most (eqb b 10) b (lines_of s) (length s) (lines_most s)

named_most : (t : Text) (f : Fault) (k : ℕ) → Named false t f k → k ≤ line_count t + 1
named_most t Long k h = omega arith
named_most t Line k h = omega (arith, h.1)
named_most t Digit k h = omega (arith, h.1)
named_most t Space k h = omega (arith, h.1)
named_most t Unended k h = omega (arith, h.1)
named_most t Headless k h = go h.1
  where
    go : {A : Type 0} → (Within t k × A) ⊎ (k ≡ line_count t + 1) → k ≤ line_count t + 1
    go (inl x) = omega (arith, x.0.1)
    go (inr e) = omega arith
named_most t Second k h = omega (arith, h.1)
named_most t Size k h = omega (arith, h.1)
named_most t Vertex k h = omega (arith, h.1)
named_most t Loop k h = omega (arith, h.1)
named_most t Repeat k h = omega (arith, h.1)
named_most t Room k h = omega (arith, h.1.0.1)
named_most t Count k h = omega arith

pub line_told : (r : Refusal) (k : ℕ) → (told r k).line ≤ k
line_told r k = go (entry r).beside
  where
    go : (b : Beside) → (with (entry r).number b k 0).line ≤ k
    go nothing = omega arith
    go a_row = omega arith
    go the_nodes = omega arith
    go a_line = omega arith
    go a_spot = omega arith
    go an_index = omega arith

column_told : (r : Refusal) (c : ℕ) → (told_at r 0 c).column ≤ c
column_told r c = go (entry r).beside
  where
    go : (b : Beside) → (with (entry r).number b 0 c).column ≤ c
    go nothing = omega arith
    go a_row = omega arith
    go the_nodes = omega arith
    go a_line = omega arith
    go a_spot = omega arith
    go an_index = omega arith

-- a text that is too long: 18, which names no line
too_long : (plain : Bool) (s : List ℕ) (room : ℕ) → longest_text < length s → read_of plain s room ≡ unreadable Long 0
too_long plain s room h =
    ap (λ (b : Bool). cond b (read_from_up_to plain most_entries (lines_of s) room 1 start (no_rows_up_to most_entries)) (unreadable Long 0)) (lt-leb (length s) longest_text h)

-- what was gathered is refused as the text is
pub unread_in : (x : Result Gathered Unread) (u : Unread) → answer_in x ≡ Err u → x ≡ Err u
unread_in (Ok list) u e = let z : ◌≡◌ {A = ℕ} 0 1 = cc in absurd (omega arith)
unread_in (Err v) u e = let z : v ≡ u = cc in ap Err z

abbrev line_in : Result Gathered Unread → ℕ
line_in (Ok list) = 0
line_in (Err u) = u.line

abbrev column_in : Result Gathered Unread → ℕ
column_in (Ok list) = 0
column_in (Err u) = u.column

module _ (plain : Bool) (s : List ℕ) (room : ℕ) (u : Unread) (r : Refusal) (e : read_of plain s room ≡ Err u) where
  pub line_small : (told r u.line).line < 10000000
  line_small = go (dec_lt longest_text (length s))
    where
      names : Named false (lines_of s) u.why u.line
      names = subst (Names (lines_of s)) (ap answer_in e) (read_names plain most_entries longest_text s room)

      go : Dec (longest_text < length s) → (told r u.line).line < 10000000
      go (yes h) =
          let z : 0 ≡ u.line = ap line_in (sym (too_long plain s room h) ∙ e) in
          omega (arith, line_told r u.line)
      go (no h) = omega (arith, line_told r u.line, named_most (lines_of s) u.why u.line names, lines_most s)

  -- no line has more than 65,536 bytes
  pub column_small : (told_at r 0 u.column).column < 10000000
  column_small = go (dec_lt longest_text (length s))
    where
      go : Dec (longest_text < length s) → (told_at r 0 u.column).column < 10000000
      go (yes h) =
          let z : 0 ≡ u.column = ap column_in (sym (too_long plain s room h) ∙ e) in
          omega (arith, column_told r u.column)
      go (no h) = omega (arith, column_told r u.column, (read_column plain most_entries longest_text s room u (ap answer_in e)).0)

-- ---- the line of a refusal

pub place_none : (l c : ℕ) → c ≡ 0 → place_text l c ≡ line_text l
place_none l c e = rw e

pub place_some : (l c : ℕ) → (c ≡ 0 → ⊥) → place_text l c ≡ spot_text l c
place_some l c h = rw (ne_eqb c 0 h)

pub place_length : (l c : ℕ) → length (place_text l c) ≤ 29
place_length l c =
    cond_cases (λ (x : List ℕ). length x ≤ 29) (eqb c 0) (line_text l) (spot_text l c)
    (λ _. omega (arith, one_length line_word l, (numeral_length l).1))
    (λ _. omega (
      arith,
      length-append line_word (numeral l ++ one_line column_word c),
      length-append (numeral l) (one_line column_word c),
      one_length
          column_word c,
      (numeral_length l).1,
      (numeral_length c).1,
    ))

spot_told : (r k c : ℕ) → 1 ≤ c → refused_word ++ (numeral r ++ spot_text k c) ≡ refused_text r k c
spot_told r k c h = ap (λ (x : List ℕ). refused_word ++ (numeral r ++ x)) (sym (place_some k c (λ e. omega arith)))

-- a fault of shape has a column, and no other refusal of a text
text_told : (f : Fault) (k c : ℕ) → (T (of_shape f) → 1 ≤ c)
    → told_text (refusal_of_lem f) k c ≡ refused_text (number_of (refusal_of_lem f)) (told (refusal_of_lem f) k).line (told_at (refusal_of_lem f) 0 c).column
text_told Line k c h = spot_told (number_of (refusal_of_lem Line)) k c (h tt)
text_told Digit k c h = spot_told (number_of (refusal_of_lem Digit)) k c (h tt)
text_told Space k c h = spot_told (number_of (refusal_of_lem Space)) k c (h tt)
text_told Unended k c h = spot_told (number_of (refusal_of_lem Unended)) k c (h tt)
text_told Headless k c h = refl
text_told Second k c h = refl
text_told Size k c h = refl
text_told Vertex k c h = refl
text_told Loop k c h = refl
text_told Repeat k c h = refl
text_told Count k c h = refl
text_told Room k c h = refl
text_told Long k c h = refl

-- ---- what is printed for a text

module _ (plain : Bool) (s : List ℕ) (list : Gathered) (e : read_of plain s 64 ≡ Ok list) where
  pub printed_read : printed plain s ≡ rows_text (take list.n list.rows)
  unfolding printed
  printed_read = ap read_text e

  pub list_sound : Sound (take list.n list.rows)
  list_sound = read_sound plain s 64 list e

  pub list_few : list.n ≤ 64
  list_few = subst (Bounded 64) (ap answer_in e) (read_up_to_few plain most_entries longest_text s 64)

module _ (plain : Bool) (s : List ℕ) (u : Unread) (e : read_of plain s 64 ≡ Err u) where
  pub printed_refused : printed plain s ≡ told_text (refusal_of_lem u.why) u.line u.column
  unfolding printed
  printed_refused = ap read_text e

  -- by its numbers
  pub printed_numbers : printed plain s
      ≡ refused_text (number_of (refusal_of_lem u.why)) (told (refusal_of_lem u.why) u.line).line (told_at (refusal_of_lem u.why) 0 u.column).column
  printed_numbers = printed_refused ∙ text_told u.why u.line u.column (read_column plain most_entries longest_text s 64 u (ap answer_in e)).1

-- 18 is printed alike for each text that is too long
pub printed_long : (plain : Bool) (s : List ℕ) → longest_text < length s → printed plain s ≡ refused_text (number_of refusal.Long) 0 0
unfolding printed
printed_long plain s h = ap read_text (too_long plain s 64 h)

-- ---- what is printed for a list

module _ (rows before : List ℕ) where
  abbrev w : State
  w = bounded_walk_lem mycielskian (length rows) (matrix rows)

  abbrev spent : List ℕ
  spent = refused_text (number_of refusal.Budget) 0 0

  pub rows_accepted : (f : Fewest) (after : List ℕ) → Promised (bounded_walk_lem mycielskian) rows before budget (Ok f) after
      → rows_text rows ≡ sheet_text (take (length rows) after)
  unfolding rows_text
  rows_accepted f after p =
      ap (λ (b : Bool). cond b (sheet_text w.best) spent) (le-leb w.nodes budget (omega (arith, p.count, p.paid))) ∙ ap sheet_text (sym p.best)

  pub rows_spent : budget < w.nodes → rows_text rows ≡ spent
  unfolding rows_text
  rows_spent h = ap (λ (b : Bool). cond b (sheet_text w.best) spent) (lt-leb w.nodes budget h)

  -- a walk over the rows of a list that is not accepted is refused for effort
  pub rows_refused : Open rows (length before) → (e : Unsolved) (after : List ℕ) → Promised (bounded_walk_lem mycielskian) rows before budget (Err e) after
      → rows_text rows ≡ spent
  rows_refused opened e after p = go (dec_lt budget w.nodes)
    where
      go : Dec (budget < w.nodes) → rows_text rows ≡ spent
      go (yes h) = rows_spent h
      go (no h) =
          let q : Err e ≡ whole rows w = accepted_within 64 (bounded_walk_lem mycielskian) rows before budget (Err e) after p opened (omega arith) in
          let z : ◌≡◌ {A = ℕ} 0 1 = cc in
          absurd (omega arith)
