-- What follows from the promise of a call that reads a clash text, for any limits.
use Prim.Native.Nat.{ℕ, ◌≤◌}
use mathlib.Core.Path.{◌≡◌, refl, sym, ap, subst, ◌∙◌}
use mathlib.Core.List.{List, ◌++◌}
use mathlib.Core.Bool.{Bool}
use native.Mathlib.Omega.{arith}
use lib.ListN.{length, take, drop}
use lib.Seq.{take_at, drop_at}
use Rattle.std.specs.Prelude.{Result, Ok, Err}
use Rattle.lines.specs.Text.{Text, lines_of}
use Rattle.lists.specs.Read.{read_up_to, answer_in, written_of}
use Rattle.lists.specs.Promise.{number_of, Numbers, read_numbers, ReadPromiseUpTo}
use Rattle.lists.specs.declared.Fault.{Fault}
use Rattle.lists.specs.declared.Fault.TheVariants.{Line, Headless, Second, Size, Room, Vertex, Loop, Count, Long, Repeat, Digit, Space, Unended}
use Rattle.lists.specs.declared.Unread.{Unread}
use Rattle.lists.specs.declared.Gathered.{Gathered}
use Rattle.texts.specs.Listed.{ListOf}
use Rattle.texts.specs.ListColumns.{ColumnOf}
use Rattle.texts.specs.ListFaults.{ListRefused}
use Rattle.texts.proofs.ListAccepted.{list_accepted}
use Rattle.texts.proofs.ListRefused.{list_refused}
use Rattle.texts.proofs.ListMeaning.{list_taken, list_returned}

-- a refusal in numbers
abbrev pub refused_with : ℕ → ℕ → ℕ → Numbers
refused_with f k c = record { number = f; place = k; column = c; size = 0 }

-- 18 names no line, and only a fault of shape a column
numbers_are : (t : Text) (f : Fault) (k c : ℕ) → (number_of f ≡ number_of Long → k ≡ 0) → ColumnOf t (number_of f) k c
    → read_numbers (Err (record { why = f; line = k; column = c })) ≡ refused_with (number_of f) k c
numbers_are t Line k c h w = refl
numbers_are t Digit k c h w = refl
numbers_are t Space k c h w = refl
numbers_are t Unended k c h w = refl
numbers_are t Headless k c h w = ap (refused_with 11 k) (sym w)
numbers_are t Second k c h w = ap (refused_with 12 k) (sym w)
numbers_are t Size k c h w = ap (refused_with 13 k) (sym w)
numbers_are t Room k c h w = ap (refused_with 17 k) (sym w)
numbers_are t Vertex k c h w = ap (refused_with 14 k) (sym w)
numbers_are t Loop k c h w = ap (refused_with 15 k) (sym w)
numbers_are t Repeat k c h w = ap (refused_with 20 k) (sym w)
numbers_are t Count k c h w = ap (refused_with 16 k) (sym w)
numbers_are t Long k c h w = ap (λ (j : ℕ). refused_with 18 j 0) (sym (h refl)) ∙ ap (refused_with 18 k) (sym w)

-- an answer with n is that of a list of n entries that was found
answered : (r : Result Gathered Unread) (n : ℕ) → Ok n ≡ answer_in r → (f : Gathered) × (r ≡ Ok f) × (f.n ≡ n)
answered (Ok f) n e = (f, refl, let q : f.n ≡ n = cc in q)
answered (Err u) n e = absurd (let z : ◌≡◌ {A = ℕ} 0 1 = cc in omega arith)

unanswered : (r : Result Gathered Unread) (u : Unread) → Err u ≡ answer_in r → r ≡ Err u
unanswered (Ok f) u e = absurd (let z : ◌≡◌ {A = ℕ} 0 1 = cc in omega arith)
unanswered (Err w) u e = let q : w ≡ u = cc in ap (λ (x : Unread). Err x) q

module _ (plain : Bool) (most longest : ℕ) (s old new : List ℕ) where
  pub read_accepted : (n : ℕ) → ReadPromiseUpTo plain most longest s old (Ok n) new
      → ListOf plain most longest s n (take n new) × (n ≤ length old) × (drop n new ≡ drop n old)
  read_accepted n x =
      let a = answered (read_up_to plain most longest s (length old)) n x.answer in
      let f = a.0 in
      subst (λ (m : ℕ). ListOf plain most longest s m (take m new) × (m ≤ length old) × (drop m new ≡ drop m old)) a.2 (found f a.1)
    where
      found : (f : Gathered) → read_up_to plain most longest s (length old) ≡ Ok f
          → ListOf plain most longest s f.n (take f.n new) × (f.n ≤ length old) × (drop f.n new ≡ drop f.n old)
      found f e =
          let r = list_accepted plain most longest s (length old) f e in
          let w : new ≡ take f.n f.rows ++ drop f.n old = x.lent ∙ ap (λ (y : Result Gathered Unread). written_of y old) e in (
            subst (ListOf plain most longest s f.n) (sym (ap (take f.n) w ∙ take_at (take f.n f.rows) (drop f.n old) f.n r.0.long)) r.0,
            r.1,
            ap (drop f.n) w ∙ drop_at (take f.n f.rows) (drop f.n old) f.n r.0.long,
          )

  pub read_refused : (u : Unread) → ReadPromiseUpTo plain most longest s old (Err u) new
      → ListRefused plain most longest s (length old) (number_of u.why) u.line u.column × (new ≡ old)
  read_refused u x =
      let e = unanswered (read_up_to plain most longest s (length old)) u x.answer in
      (list_refused plain most longest s (length old) u e, x.lent ∙ ap (λ (y : Result Gathered Unread). written_of y old) e)

  module _ (a : Result ℕ Unread) (x : ReadPromiseUpTo plain most longest s old a new) where
    pub read_taken : (n : ℕ) (rows : List ℕ) → ListOf plain most longest s n rows → n ≤ length old → (a ≡ Ok n) × (new ≡ rows ++ drop n old)
    read_taken n rows l h =
        let r = list_taken plain most longest s (length old) n rows l h in
        let f = r.0 in (
          x.answer ∙ ap answer_in r.1 ∙ ap (λ (i : ℕ). Ok i) r.2,
          x.lent ∙ ap (λ (y : Result Gathered Unread). written_of y old) r.1 ∙ ap (λ (i : ℕ). take i f.rows ++ drop i old) r.2
              ∙ ap (λ (g : List ℕ). g ++ drop n old) r.3,
        )

    pub read_returned : (f k c : ℕ) → ListRefused plain most longest s (length old) f k c → read_numbers a ≡ refused_with f k c
    read_returned f k c h =
        let r = list_returned plain most longest s (length old) f k c h in
        let u = r.0 in
        let g = list_refused plain most longest s (length old) u r.1 in
        ap read_numbers (x.answer ∙ ap answer_in r.1)
        ∙ numbers_are (lines_of s) u.why u.line u.column (λ e. (subst (λ (i : ℕ). ListRefused plain most longest s (length old) i u.line u.column) e g).0.0) g.1
        ∙ ap (λ (i : ℕ). refused_with i u.line u.column) r.2 ∙ ap (λ (i : ℕ). refused_with f i u.column) r.3 ∙ ap (refused_with f k) r.4
