-- A promise leaves one answer and one state of the lent memory.
use Prim.Native.Nat.{ℕ}
use mathlib.Core.Path.{◌≡◌, sym, ◌∙◌}
use mathlib.Core.List.{List}
use mathlib.Core.Bool.{Bool}
use Rattle.std.specs.Prelude.{Result}
use Rattle.lists.specs.Read.{most_entries, longest_text}
use Rattle.mends.specs.Promise.{MendPromiseUpTo, MendPromise}
use Rattle.mends.specs.declared.Unmended.{Unmended}

pub mend_up_to_unique : (plain : Bool) (most longest : ℕ) (list s old : List ℕ) (a b : Result ℕ Unmended) (new other : List ℕ)
    → MendPromiseUpTo plain most longest list s old a new
    → MendPromiseUpTo plain most longest list s old b other → (a ≡ b) × (new ≡ other)
mend_up_to_unique plain most longest list s old a b new other x y = (x.answer ∙ sym y.answer, x.lent ∙ sym y.lent)

pub mend_unique : (plain : Bool) (list s old : List ℕ) (a b : Result ℕ Unmended) (new other : List ℕ) → MendPromise plain list s old a new → MendPromise plain list s old b other
    → (a ≡ b) × (new ≡ other)
mend_unique plain = mend_up_to_unique plain most_entries longest_text
