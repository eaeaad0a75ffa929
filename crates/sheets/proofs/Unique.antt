-- A promise leaves one answer and one state of the lent memory; of the preview, one part.
use Prim.Native.Nat.{ℕ, zero, suc}
use mathlib.Core.Path.{◌≡◌, sym, ◌∙◌}
use mathlib.Core.List.{List}
use mathlib.Core.Bool.{Bool}
use denote.Ref.{Bor}
use Rattle.std.specs.Prelude.{Result}
use Rattle.lines.proofs.Parts.{part_unique}
use Rattle.lists.specs.Read.{most_entries, longest_text}
use Rattle.sheets.specs.Check.{check_up_to}
use Rattle.sheets.specs.Promise.{answer_in, numbers_of_lem, CheckPromiseUpTo, CheckPromise, held_by, ShownOf, PreviewPromiseUpTo, PreviewPromise}
use Rattle.sheets.specs.declared.Unchecked.{Unchecked}

shown_unique : (s : Bor (List ℕ)) (k : ℕ) (r q : Bor (List ℕ)) → ShownOf s k r → ShownOf s k q → (r.now ≡ q.now) × (r.ref_ptr.0 ≡ q.ref_ptr.0) × (r.ref_ptr.1 ≡ q.ref_ptr.1)
shown_unique s zero r q x y = part_unique s _ _ r q x y
shown_unique s (suc k) r q x y = part_unique s _ _ r q x y

module _ (plain : Bool) (most longest : ℕ) where
  pub check_up_to_unique : (list s old : List ℕ) (a b : Result ℕ Unchecked) (new other : List ℕ) → CheckPromiseUpTo plain most longest list s old a new
      → CheckPromiseUpTo plain most longest list s old b other → (a ≡ b) × (new ≡ other)
  check_up_to_unique list s old a b new other x y = (x.answer ∙ sym y.answer, x.lent ∙ sym y.lent)

  -- the same bytes at the same place
  pub preview_up_to_unique : (list s : Bor (List ℕ)) (room : ℕ) (r q : Bor (List ℕ)) → PreviewPromiseUpTo plain most longest list s room r
      → PreviewPromiseUpTo plain most longest list s room q
      → (r.now ≡ q.now) × (r.ref_ptr.0 ≡ q.ref_ptr.0) × (r.ref_ptr.1 ≡ q.ref_ptr.1)
  preview_up_to_unique list s room r q x y =
      let m = numbers_of_lem (answer_in (check_up_to plain most longest list.now s.now room)) in
      shown_unique (held_by m.text list s) m.line r q x y

-- ---- with today's limits

pub check_unique : (plain : Bool) (list s old : List ℕ) (a b : Result ℕ Unchecked) (new other : List ℕ) → CheckPromise plain list s old a new
    → CheckPromise plain list s old b other
    → (a ≡ b) × (new ≡ other)
check_unique plain = check_up_to_unique plain most_entries longest_text

pub preview_unique : (plain : Bool) (list s : Bor (List ℕ)) (room : ℕ) (r q : Bor (List ℕ)) → PreviewPromise plain list s room r
    → PreviewPromise plain list s room q
    → (r.now ≡ q.now) × (r.ref_ptr.0 ≡ q.ref_ptr.0) × (r.ref_ptr.1 ≡ q.ref_ptr.1)
preview_unique plain = preview_up_to_unique plain most_entries longest_text
