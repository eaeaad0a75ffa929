-- A promise leaves one answer and one state of the lent memory.
use Prim.Native.Nat.{ℕ}
use mathlib.Core.Path.{◌≡◌, sym, ◌∙◌}
use mathlib.Core.List.{List}
use Rattle.std.specs.Prelude.{Result}
use Rattle.lists.specs.Read.{most_entries}
use Rattle.sheet_texts.specs.Promise.{WritePromiseUpTo, WritePromise}
use Rattle.sheet_texts.specs.declared.Unwritten.{Unwritten}

pub write_up_to_unique : (most : ℕ) (c old : List ℕ) (a b : Result ℕ Unwritten) (new other : List ℕ) → WritePromiseUpTo most c old a new → WritePromiseUpTo most c old b other
    → (a ≡ b) × (new ≡ other)
write_up_to_unique most c old a b new other x y = (x.answer ∙ sym y.answer, x.lent ∙ sym y.lent)

pub write_unique : (c old : List ℕ) (a b : Result ℕ Unwritten) (new other : List ℕ) → WritePromise c old a new → WritePromise c old b other → (a ≡ b) × (new ≡ other)
write_unique = write_up_to_unique most_entries
