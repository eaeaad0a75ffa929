-- A promise leaves one answer and one state of the lent memory.
use mathlib.Core.Path.{◌≡◌, ap, sym, ◌∙◌}
use mathlib.Core.List.{List}
use mathlib.Core.Bool.{Bool}
use Prim.Native.Nat.{ℕ}
use lib.ListN.{length}
use Rattle.std.specs.Prelude.{Result}
use Rattle.refusals.specs.declared.Invalid.{Invalid}
use Rattle.clashes.proofs.MatrixLaws.{judged_up_to_unique}
use Rattle.lists.specs.Read.{most_entries, longest_text}
use Rattle.lists.specs.Write.{text_of, answer_of, left_of}
use Rattle.lists.specs.Promise.{ReadPromiseUpTo, WritePromiseUpTo, ReadPromise, WritePromise}
use Rattle.lists.specs.declared.Unread.{Unread}
use Rattle.lists.specs.declared.Unwritten.{Unwritten}

pub read_up_to_unique : (plain : Bool) (most longest : ℕ) (s old : List ℕ) (a b : Result ℕ Unread) (new other : List ℕ)
    → ReadPromiseUpTo plain most longest s old a new → ReadPromiseUpTo plain most longest s old b other → (a ≡ b) × (new ≡ other)
read_up_to_unique plain most longest s old a b new other x y = (x.answer ∙ sym y.answer, x.lent ∙ sym y.lent)

pub write_up_to_unique : (most : ℕ) (rows old : List ℕ) (a b : Result ℕ Unwritten) (new other : List ℕ) → WritePromiseUpTo most rows old a new → WritePromiseUpTo most rows old b other → (a ≡ b) × (new ≡ other)
write_up_to_unique most rows old a b new other x y =
    let v = judged_up_to_unique most rows x.verdict y.verdict x.judged y.judged in (
      x.answer ∙ ap (λ (w : Result Unit Invalid). answer_of w (text_of rows) (length old)) v ∙ sym y.answer,
      x.lent ∙ ap (λ (w : Result Unit Invalid). left_of w (text_of rows) old) v ∙ sym y.lent,
    )

-- ---- with today's limits

pub read_unique : (plain : Bool) (s old : List ℕ) (a b : Result ℕ Unread) (new other : List ℕ) → ReadPromise plain s old a new → ReadPromise plain s old b other
    → (a ≡ b) × (new ≡ other)
read_unique plain = read_up_to_unique plain most_entries longest_text

pub write_unique : (rows old : List ℕ) (a b : Result ℕ Unwritten) (new other : List ℕ) → WritePromise rows old a new → WritePromise rows old b other → (a ≡ b) × (new ≡ other)
write_unique = write_up_to_unique most_entries
