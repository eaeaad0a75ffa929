-- What is printed, from what the calls promise: a text that is refused has its refusal printed; of a text that is read, and whose rows a walk with this budget
-- divides, the sheet of that division is printed; and 6 where the walk is refused for effort. So what the demands say of these calls is so of what is
-- printed. And each promise leaves one answer and one state of the lent bytes. Assumes nothing.
use Prim.Native.Nat.{ℕ, ◌<◌}
use mathlib.Core.Path.{◌≡◌, refl, sym, ap, subst, ◌∙◌}
use mathlib.Core.List.{List}
use mathlib.Core.Bool.{Bool, true, false}
use mathlib.Core.Logic.{◌⊎◌, inl, inr, ⊎_elim}
use native.Mathlib.Omega.{arith}
use lib.ListN.{length, take, replicate, length-replicate}
use Rattle.std.specs.Prelude.{Result, Ok, Err}
use Rattle.refusals.specs.Table.{number_of}
use Rattle.refusals.specs.declared.Refusal.TheVariants as refusal
use Rattle.refusals.specs.declared.Unsolved.TheVariants.{Budget}
use Rattle.bounds.specs.Names.{mycielskian}
use Rattle.zykov.specs.Walk.{bounded_walk_lem}
use Rattle.walk.specs.Promise.{Promised}
use Rattle.walk.specs.declared.found.Fewest.{Fewest}
use Rattle.lists.specs.Read.{most_entries, longest_text, refused, read_of, answer_in}
use Rattle.lists.specs.Promise.{refusal_of_lem, ReadPromise}
use Rattle.lists.specs.declared.Fault.TheVariants.{Repeat}
use Rattle.lists.specs.declared.Unread.{Unread}
use Rattle.lists.proofs.Alike.{read_up_to_alike}
use Rattle.sheet_texts.specs.Sheet.{sheet_text}
use Rattle.sheet_texts.proofs.OwnList.{read_up_to_again, rows_count}
use Rattle.answers.specs.Printed.{budget, refused_text, told_text, rows_text, read_text, printed, Writes, AnswerPromise, LongPromise}
use Rattle.answers.specs.declared.Full.{Full}
use Rattle.answers.proofs.Laws.{unread_in, printed_read, printed_refused, rows_accepted, rows_spent}

-- the text is refused
pub refusal_printed : (plain : Bool) (text lent : List ℕ) (u : Unread) (rows : List ℕ) → length lent ≡ 64
    → ReadPromise plain text lent (Err u) rows
    → printed plain text ≡ told_text (refusal_of_lem u.why) u.line u.column
refusal_printed plain text lent u rows z x =
    printed_refused plain text u
    (unread_in (read_of plain text 64) u (sym (subst (λ (room : ℕ). Err u ≡ answer_in (read_of plain text room)) z x.answer)))

-- the text is read
module _ (plain : Bool) (text lent : List ℕ) (n : ℕ) (rows : List ℕ) (x : ReadPromise plain text lent (Ok n) rows) where
  list_printed : printed plain text ≡ rows_text (take n rows)
  list_printed =
      let a = read_up_to_again plain most_entries longest_text text lent n rows x in
      printed_read plain text a.list a.read ∙ ap (λ (m : ℕ). rows_text (take m a.list.rows)) a.many ∙ ap rows_text (sym a.rows_are)

  -- the sheet of the division that the walk left, which the demands speak of (crates/walk/proofs/Demands.antt)
  pub sheet_printed : (before : List ℕ) (f : Fewest) (after : List ℕ) → Promised (bounded_walk_lem mycielskian) (take n rows) before budget (Ok f) after
      → printed plain text ≡ sheet_text (take n after)
  sheet_printed before f after p =
      list_printed ∙ rows_accepted (take n rows) before f after p ∙ ap (λ (i : ℕ). sheet_text (take i after)) (rows_count plain text lent n rows x)

  pub spent_printed : (before : List ℕ) (m : ℕ) (after : List ℕ) → Promised (bounded_walk_lem mycielskian) (take n rows) before budget (Err (Budget m)) after
      → printed plain text ≡ refused_text (number_of refusal.Budget) 0 0
  spent_printed before m after p = list_printed ∙ rows_spent (take n rows) before p.0.more

-- ---- the two readings

-- the same is printed, unless the plain reading refuses a repeat
pub printed_alike : (text : List ℕ)
    → (printed true text ≡ printed false text) ⊎ ((k : ℕ) × (read_of true text 64 ≡ refused Repeat k))
unfolding printed
printed_alike text = ⊎_elim (λ e. inl (ap read_text e)) inr (read_up_to_alike most_entries longest_text text 64)

-- ---- one answer

pub writes_unique : (x old : List ℕ) (a b : Result ℕ Full) (new other : List ℕ) → Writes x old a new → Writes x old b other → (a ≡ b) × (new ≡ other)
writes_unique x old a b new other p q = (p.answer ∙ sym q.answer, p.lent ∙ sym q.lent)

pub answer_unique : (plain : Bool) (text old : List ℕ) (a b : Result ℕ Full) (new other : List ℕ) → AnswerPromise plain text old a new
    → AnswerPromise plain text old b other
    → (a ≡ b) × (new ≡ other)
answer_unique plain text = writes_unique (printed plain text)

-- a text that is too long: any will do
pub long : (n : ℕ) → List ℕ
long n = replicate n 0

pub long_enough : (n : ℕ) → longest_text < n → longest_text < length (long n)
unfolding long
long_enough n h = subst (λ (m : ℕ). longest_text < m) (sym (length-replicate n 0)) h

pub long_unique : (old : List ℕ) (a b : Result ℕ Full) (new other : List ℕ) → LongPromise old a new → LongPromise old b other → (a ≡ b) × (new ≡ other)
long_unique old a b new other p q =
    let s = long 65537 in
    let h = long_enough 65537 (omega arith) in
    answer_unique true s old a b new other (p true s h) (q true s h)
