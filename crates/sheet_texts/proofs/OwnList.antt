-- A clash-free division of a list that `read_list` read, written by `write_sheet`, is accepted by `check_sheet` against that same text: what a
-- walk answers, written and checked against its own list. From the three promises alone, for both readings.
use Prim.Native.Nat.{ℕ, ◌+◌, ◌≤◌, ◌<◌}
use mathlib.Core.Path.{◌≡◌, refl, sym, ap, subst, ◌∙◌}
use mathlib.Core.List.{List, ◌++◌}
use mathlib.Core.Bool.{Bool, true, false, cond, ◌&&◌}
use native.Mathlib.Omega.{arith}
use lib.Dec.{T, leb, eqb}
use lib.ListN.{length, take, drop, length-replicate}
use lib.Seq.{take_at, get_or-take, length-take-le}
use Rattle.std.specs.Prelude.{Option, Some, None, Result, Ok, Err, IfOk}
use Rattle.sets.specs.Set.{has}
use Rattle.clashes.specs.Divisions.{groups, Division, clash_free}
use Rattle.clashes.specs.Matrix.{matrix}
use Rattle.clashes.proofs.ColouringLaws.{free_proper, proper_free}
use Rattle.lines.specs.Text.{Text, done, unended, ended, lines_of}
use Rattle.lines.proofs.Basics.{cond_cases}
use Rattle.lists.specs.Read.{no_rows_up_to, lone, refused, p_line_up_to, step_up_to, join, after, read_from_up_to, finish, start, read_up_to, most_entries, longest_text, answer_in, written_of}
use Rattle.lists.specs.Shape.{shape_of}
use Rattle.lists.specs.Promise.{ReadPromiseUpTo, ReadPromise}
use Rattle.lists.specs.declared.Fault.TheVariants as fault
use Rattle.lists.specs.declared.Unread.{Unread}
use Rattle.lists.specs.declared.Gathered.{Gathered}
use Rattle.lists.specs.declared.Head.{Head}
use Rattle.lists.specs.declared.Shape.{Shape}
use Rattle.lists.specs.declared.Shape.TheVariants.{Comment, P, E}
use Rattle.lists.specs.declared.Step.{Step}
use Rattle.lists.specs.declared.Step.TheVariants.{Go, Edge}
use Rattle.lists.specs.declared.Spot.{Spot}
use Rattle.lists.specs.Expect.{spot_of}
use Rattle.lists.proofs.Fold.{Bounded, read_up_to_few, join_length}
use Rattle.sheets.specs.Promise.{CheckPromiseUpTo, CheckPromise}
use Rattle.sheets.specs.declared.Unchecked.{Unchecked}
use Rattle.sheet_texts.specs.Sheet.{sheet_text}
use Rattle.sheet_texts.specs.Promise.{WritePromiseUpTo, WritePromise}
use Rattle.sheet_texts.proofs.Lengths.{sheet_fits}
use Rattle.sheet_texts.proofs.Calls.{calls_up_to_free}

-- ---- with as many rows lent as a list can have, it is read as with fewer that were enough

module _ (most : ℕ) where
  same_p_line : (room n m : ℕ) (st : Step) → p_line_up_to most None room n m ≡ Ok st → p_line_up_to most None most n m ≡ Ok st
  same_p_line room n m st e = go (Ok (Go (Some (record { n = n; m = m; count = 0 })))) (leb n most) refl e
    where
      fits : (x : Result Step Spot) (b : Bool) → cond b x (Err (lone fault.Room)) ≡ Ok st → x ≡ Ok st
      fits x true e = e
      fits x false e = cc

      go : (x : Result Step Spot) (b : Bool) → leb n most ≡ b → cond b (cond (leb n room) x (Err (lone fault.Room))) (Err (lone fault.Size)) ≡ Ok st
          → cond b (cond (leb n most) x (Err (lone fault.Room))) (Err (lone fault.Size)) ≡ Ok st
      go x true q e = rw q (fits x (leb n room) e)
      go x false q e = e

  -- a step that does not stop is the same
  same_step : (h : Option Head) (room : ℕ) (p : Spot) (s : Option Shape) (st : Step) → step_up_to most h room p s ≡ Ok st → step_up_to most h most p s ≡ Ok st
  same_step h room p None st e = e
  same_step h room p (Some Comment) st e = e
  same_step h room p (Some (E u v)) st e = e
  same_step (Some h) room p (Some (P n m)) st e = e
  same_step None room p (Some (P n m)) st e = same_p_line room n m st e

  same_from : (plain : Bool) (t : Text) (room k : ℕ) (h : Option Head) (g : List ℕ) (f : Gathered) → read_from_up_to plain most t room k h g ≡ Ok f
      → read_from_up_to plain most t most k h g ≡ Ok f
  same_from plain done room k h g f e = e
  same_from plain (unended l) room k h g f e = e
  same_from plain (ended l t) room k h g f e = go (step_up_to most h room (spot_of l) (shape_of l)) refl e (same_from plain t room (k + 1))
    where
      step : (st : Step) → step_up_to most h room (spot_of l) (shape_of l) ≡ Ok st → after plain (Ok st) g k (read_from_up_to plain most t most (k + 1)) ≡ Ok f
          → read_from_up_to plain most (ended l t) most k h g ≡ Ok f
      step st q z =
          ap (λ (x : Result Step Spot). after plain x g k (read_from_up_to plain most t most (k + 1))) (same_step h room (spot_of l) (shape_of l) st q) ∙ z

      go : (st : Result Step Spot) → step_up_to most h room (spot_of l) (shape_of l) ≡ st
          → after plain st g k (read_from_up_to plain most t room (k + 1)) ≡ Ok f
          → ((h : Option Head) (g : List ℕ) (f : Gathered) → read_from_up_to plain most t room (k + 1) h g ≡ Ok f → read_from_up_to plain most t most (k + 1) h g ≡ Ok f)
          → read_from_up_to plain most (ended l t) most k h g ≡ Ok f
      go (Err p) q e r = cc
      go (Ok (Go y)) q e r = step (Go y) q (r y g f e)
      go (Ok (Edge y i j)) q e r = step (Edge y i j) q (pick (plain && matrix g i j) e)
        where
          pick : (b : Bool) → cond b (refused fault.Repeat k) (read_from_up_to plain most t room (k + 1) (Some y) (join g i j)) ≡ Ok f
              → cond b (refused fault.Repeat k) (read_from_up_to plain most t most (k + 1) (Some y) (join g i j)) ≡ Ok f
          pick true e = e
          pick false e = r (Some y) (join g i j) f e

module _ (plain : Bool) (most longest : ℕ) where
  pub same_read : (s : List ℕ) (room : ℕ) (f : Gathered) → read_up_to plain most longest s room ≡ Ok f → read_up_to plain most longest s most ≡ Ok f
  same_read s room f e = go (leb (length s) longest) e
    where
      go : (b : Bool) → cond b (read_from_up_to plain most (lines_of s) room 1 start (no_rows_up_to most)) (refused fault.Long 0) ≡ Ok f
          → cond b (read_from_up_to plain most (lines_of s) most 1 start (no_rows_up_to most)) (refused fault.Long 0) ≡ Ok f
      go true e = same_from most plain (lines_of s) room 1 start (no_rows_up_to most) f e
      go false e = e

-- ---- the rows

module _ (most : ℕ) where
  abbrev Sized : Result Gathered Unread → Type 0
  Sized r = IfOk r (λ f. length f.rows ≡ most)

  finish_size : (h : Option Head) (k : ℕ) (g : List ℕ) → length g ≡ most → Sized (finish h g k)
  finish_size None k g z = tt
  finish_size (Some h) k g z = cond_cases Sized (eqb h.count h.m) _ _ (λ _. z) (λ _. tt)

  from_size : (plain : Bool) (t : Text) (room k : ℕ) (h : Option Head) (g : List ℕ) → length g ≡ most → Sized (read_from_up_to plain most t room k h g)
  from_size plain done room k h g z = finish_size h k g z
  from_size plain (unended l) room k h g z = tt
  from_size plain (ended l t) room k h g z = go (step_up_to most h room (spot_of l) (shape_of l)) (from_size plain t room (k + 1))
    where
      go : (st : Result Step Spot) → ((h : Option Head) (g : List ℕ) → length g ≡ most → Sized (read_from_up_to plain most t room (k + 1) h g))
          → Sized (after plain st g k (read_from_up_to plain most t room (k + 1)))
      go (Err p) r = tt
      go (Ok (Go y)) r = r y g z
      go (Ok (Edge y i j)) r = cond_cases Sized (plain && matrix g i j) _ _ (λ _. tt) (λ _. r (Some y) (join g i j) (join_length g i j ∙ z))

module _ (plain : Bool) (most longest : ℕ) where
  read_size : (s : List ℕ) (room : ℕ) → Sized most (read_up_to plain most longest s room)
  read_size s room =
      cond_cases (Sized most) (leb (length s) longest) _ _ (λ _. from_size most plain (lines_of s) room 1 start (no_rows_up_to most) (length-replicate most 0)) (λ _. tt)

-- the rows that were handed over are those of the list
module _ (plain : Bool) (most longest : ℕ) (text lent : List ℕ) (n : ℕ) (rows : List ℕ) where
  -- the list is read again, with as many rows lent as a list can have: the same n, and the same rows
  pub record Again : Type 0 where
    pub list : Gathered
    pub read : read_up_to plain most longest text most ≡ Ok list
    pub many : list.n ≡ n
    pub rows_are : take n rows ≡ take n list.rows
    pub few : n ≤ most
    pub size : length list.rows ≡ most

  pub read_up_to_again : ReadPromiseUpTo plain most longest text lent (Ok n) rows → Again
  read_up_to_again x = go (read_up_to plain most longest text (length lent)) refl
    where
      go : (r : Result Gathered Unread) → read_up_to plain most longest text (length lent) ≡ r → Again
      go (Err u) e = let z = x.answer ∙ ap answer_in e in cc
      go (Ok f) e =
          let z : f.n ≡ n = (let y = x.answer ∙ ap answer_in e in cc) in
          let b : f.n ≤ most = subst (λ (r : Result Gathered Unread). Bounded most (answer_in r)) e (read_up_to_few plain most longest text (length lent)) in
          let s : length f.rows ≡ most = subst (Sized most) e (read_size plain most longest text (length lent)) in
          let w : rows ≡ take n f.rows ++ drop n lent = x.lent ∙ ap (λ (r : Result Gathered Unread). written_of r lent) e ∙ ap (λ (m : ℕ). take m f.rows ++ drop m lent) z in
          record {
            list = f;
            read = same_read plain most longest text (length lent) f e;
            many = z;
            rows_are = ap (take n) w ∙ take_at (take n f.rows) (drop n lent) n (length-take-le n f.rows (omega arith));
            few = omega arith;
            size = s;
          }

  module _ (x : ReadPromiseUpTo plain most longest text lent (Ok n) rows) where
    abbrev a : Again
    a = read_up_to_again x

    pub rows_up_to_count : length (take n rows) ≡ n
    rows_up_to_count = ap length a.rows_are ∙ length-take-le n a.list.rows (omega (arith, a.few, a.size))

    same_clash : (i j : ℕ) → i < n → matrix (take n rows) i j ≡ matrix a.list.rows i j
    same_clash i j h = ap (λ (r : List ℕ). matrix r i j) a.rows_are ∙ ap (λ (r : ℕ). has r j) (get_or-take n a.list.rows i 0 h)

    free_again : (c : List ℕ) → T (clash_free n (matrix (take n rows)) c) → T (clash_free n (matrix a.list.rows) c)
    free_again c t =
        let f = free_proper n (matrix (take n rows)) c t in
        proper_free n (matrix a.list.rows) c (λ i j h k u e. f i j h k (subst T (sym (same_clash i j h)) u) e)

    -- read, divided, written, checked
    pub own_up_to_list : (c old : List ℕ) (k : ℕ) (out bytes : List ℕ) (b : Result ℕ Unchecked) (new : List ℕ) → Division n c → n < 10000000 → length (sheet_text c) ≤ longest
        → T (clash_free n (matrix (take n rows)) c)
        → WritePromiseUpTo most c old (Ok k) out → CheckPromiseUpTo plain most longest text (take k out) bytes b new → n ≤ length bytes
        → (b ≡ Ok (groups 0 c)) × (new ≡ c ++ drop n bytes)
    own_up_to_list c old k out bytes b new d sevens short t w y h =
        let l = d.long in
        let f = subst (λ (m : ℕ). T (clash_free m (matrix a.list.rows) c)) (sym l) (free_again c t) in
        let r = calls_up_to_free plain most longest c old (omega arith) short k out text bytes b new w y a.list a.read (a.many ∙ sym l) (omega arith) f in
        (r.0, r.1 ∙ ap (λ (m : ℕ). c ++ drop m bytes) l)

-- ---- with today's limits

module _ (plain : Bool) (text lent : List ℕ) (n : ℕ) (rows : List ℕ) (x : ReadPromise plain text lent (Ok n) rows) where
  pub rows_count : length (take n rows) ≡ n
  rows_count = rows_up_to_count plain most_entries longest_text text lent n rows x

  pub own_list : (c old : List ℕ) (k : ℕ) (out bytes : List ℕ) (b : Result ℕ Unchecked) (new : List ℕ) → Division n c → T (clash_free n (matrix (take n rows)) c)
      → WritePromise c old (Ok k) out → CheckPromise plain text (take k out) bytes b new → n ≤ length bytes
      → (b ≡ Ok (groups 0 c)) × (new ≡ c ++ drop n bytes)
  own_list c old k out bytes b new d t w y h =
      let f = (read_up_to_again plain most_entries longest_text text lent n rows x).few in
      let l = d.long in
      own_up_to_list plain most_entries longest_text text lent n rows x c old k out bytes b new d (omega arith) (sheet_fits c d.numbered (omega arith)) t w y h
