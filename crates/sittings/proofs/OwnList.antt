-- What a walk answers, written and checked against its own list, is accepted: a text is read, either walk divides its rows, the division is
-- written as a sheet, and the sheet is checked against that same text. From the four promises alone, for both
-- readings. Assumes nothing.
use Prim.Native.Nat.{ℕ, ◌≤◌}
use mathlib.Core.Path.{◌≡◌, ap, subst, ◌∙◌}
use mathlib.Core.Bool.{Bool}
use mathlib.Core.List.{List, ◌++◌}
use lib.Dec.{T}
use lib.ListN.{length, take, drop}
use Rattle.std.specs.Prelude.{Result, Ok}
use Rattle.clashes.specs.Divisions.{groups, Division, clash_free}
use Rattle.clashes.specs.Matrix.{matrix}
use Rattle.zykov.specs.Walk.{State as Described}
use Rattle.walk.specs.Promise.{Promised}
use Rattle.walk.specs.declared.found.Fewest.{Fewest}
use Rattle.lists.specs.Promise.{ReadPromise}
use Rattle.sheets.specs.Promise.{CheckPromise}
use Rattle.sheets.specs.declared.Unchecked.{Unchecked}
use Rattle.sheet_texts.specs.Promise.{WritePromise}
use Rattle.sheet_texts.proofs.OwnList.{own_list, rows_count}

module _ (plain : Bool) (walk : ℕ → (ℕ → ℕ → Bool) → Described) (text lent : List ℕ) (n : ℕ) (rows : List ℕ) (x : ReadPromise plain text lent (Ok n) rows) where
  pub walk_accepted : (before : List ℕ) (budget : ℕ) (f : Fewest) (after : List ℕ) → Promised walk (take n rows) before budget (Ok f) after
      → (old : List ℕ) (l : ℕ) (out bytes : List ℕ) (a : Result ℕ Unchecked) (new : List ℕ) → WritePromise (take n after) old (Ok l) out
      → CheckPromise plain text (take l out) bytes a new → n ≤ length bytes
      → (a ≡ Ok f.k) × (new ≡ take n after ++ drop n bytes)
  walk_accepted before budget f after p old l out bytes a new w y h =
      let z : length (take n rows) ≡ n = rows_count plain text lent n rows x in
      let d = subst (λ (m : ℕ). Division m (take m after)) z p.division in
      let e = subst (λ (m : ℕ). T (clash_free m (matrix (take n rows)) (take m after))) z p.free in
      let g = subst (λ (m : ℕ). groups 0 (take m after) ≡ f.k) z p.many in
      let r = own_list plain text lent n rows x (take n after) old l out bytes a new d e w y h in
      (r.0 ∙ ap Ok g, r.1)
