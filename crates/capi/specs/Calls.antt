-- What a call from C promises: the numbers of an answer that meets the face's promise, and the lent memory as that leaves it.
--
--   ValidityCall, BoundCall, WalkCall, PlacingCall, ReadCall, ListCall, SheetCall, CheckCall, MendCall, PartCall, AnswerCall : one for each kind of call; `plain` says by
--   which reading a clash text is read
--
-- Assumes nothing.
use Rattle.std.specs.Prelude.{◌≡◌, Bool, List, ℕ, Result}
use Rattle.refusals.specs.declared.Invalid.{Invalid}
use Rattle.refusals.specs.declared.Unsolved.{Unsolved}
use Rattle.graphs.specs.Graph.{Graph}
use Rattle.clashes.specs.Matrix.{Judged}
use Rattle.bounds.specs.Lent.{Answers}
use Rattle.bounds.specs.declared.Bound.{Bound}
use Rattle.zykov.specs.Walk.{State}
use Rattle.walk.specs.Promise.{Promised}
use Rattle.walk.specs.declared.found.Fewest.{Fewest}
use Rattle.lists.specs.Promise.{ReadPromise, WritePromise}
use Rattle.lists.specs.declared.Unread.{Unread}
use Rattle.lists.specs.declared.Unwritten as list
use Rattle.sheet_texts.specs.Promise.{WritePromise as SheetPromise}
use Rattle.sheet_texts.specs.declared.Unwritten as sheet
use Rattle.sheets.specs.Promise.{CheckPromise}
use Rattle.sheets.specs.Place.{PlacePromise}
use Rattle.sheets.specs.declared.Unchecked.{Unchecked}
use Rattle.sheets.specs.declared.Part.{Part}
use Rattle.mends.specs.Promise.{MendPromise}
use Rattle.mends.specs.declared.Unmended.{Unmended}
use Rattle.answers.specs.Printed.{AnswerPromise}
use Rattle.answers.specs.declared.Full.{Full}
use Rattle.sittings.specs.Placing.{PlacingPromise}
use Rattle.sittings.specs.Numbers.{verdict_numbers, bound_numbers, walk_numbers, read_numbers, list_numbers, sheet_numbers, check_numbers, mend_numbers, part_numbers, printed_numbers}
use Rattle.sittings.specs.declared.numbers.VerdictNumbers.{VerdictNumbers}
use Rattle.sittings.specs.declared.numbers.BoundNumbers.{BoundNumbers}
use Rattle.sittings.specs.declared.numbers.WalkNumbers.{WalkNumbers}
use Rattle.sittings.specs.declared.numbers.ReadNumbers.{ReadNumbers}
use Rattle.sittings.specs.declared.numbers.WriteNumbers.{WriteNumbers}
use Rattle.sittings.specs.declared.numbers.CheckNumbers.{CheckNumbers}
use Rattle.sittings.specs.declared.numbers.MendNumbers.{MendNumbers}
use Rattle.sittings.specs.declared.numbers.PartNumbers.{PartNumbers}

pub record ValidityCall (rows : List ℕ) (r : VerdictNumbers) : Type 0 where
  pub answer : Result Unit Invalid
  pub promised : Judged rows answer
  pub numbers : r ≡ verdict_numbers answer

pub record BoundCall (f s : ℕ → Graph → ℕ) (rows : List ℕ) (r : BoundNumbers) : Type 0 where
  pub answer : Result Bound Invalid
  pub promised : Answers f s rows answer
  pub numbers : r ≡ bound_numbers answer

pub record PlacingCall (rows before : List ℕ) (budget : ℕ) (r : WalkNumbers) (after : List ℕ) : Type 0 where
  pub answer : Result Fewest Unsolved
  pub promised : PlacingPromise rows before budget answer after
  pub numbers : r ≡ walk_numbers answer

pub record WalkCall (walk : ℕ → (ℕ → ℕ → Bool) → State) (rows before : List ℕ) (budget : ℕ) (r : WalkNumbers) (after : List ℕ) : Type 0 where
  pub answer : Result Fewest Unsolved
  pub promised : Promised walk rows before budget answer after
  pub numbers : r ≡ walk_numbers answer

pub record ReadCall (plain : Bool) (text old : List ℕ) (r : ReadNumbers) (new : List ℕ) : Type 0 where
  pub answer : Result ℕ Unread
  pub promised : ReadPromise plain text old answer new
  pub numbers : r ≡ read_numbers answer

pub record ListCall (rows old : List ℕ) (r : WriteNumbers) (new : List ℕ) : Type 0 where
  pub answer : Result ℕ list.Unwritten
  pub promised : WritePromise rows old answer new
  pub numbers : r ≡ list_numbers answer

pub record SheetCall (colours old : List ℕ) (r : WriteNumbers) (new : List ℕ) : Type 0 where
  pub answer : Result ℕ sheet.Unwritten
  pub promised : SheetPromise colours old answer new
  pub numbers : r ≡ sheet_numbers answer

pub record CheckCall (plain : Bool) (list sheet old : List ℕ) (r : CheckNumbers) (new : List ℕ) : Type 0 where
  pub answer : Result ℕ Unchecked
  pub promised : CheckPromise plain list sheet old answer new
  pub numbers : r ≡ check_numbers answer

pub record MendCall (plain : Bool) (list sheet old : List ℕ) (r : MendNumbers) (new : List ℕ) : Type 0 where
  pub answer : Result ℕ Unmended
  pub promised : MendPromise plain list sheet old answer new
  pub numbers : r ≡ mend_numbers answer

pub record PartCall (plain : Bool) (list sheet : List ℕ) (room : ℕ) (r : PartNumbers) : Type 0 where
  pub answer : Part
  pub promised : PlacePromise plain list sheet room answer
  pub numbers : r ≡ part_numbers answer

pub record AnswerCall (plain : Bool) (text old : List ℕ) (r : WriteNumbers) (new : List ℕ) : Type 0 where
  pub answer : Result ℕ Full
  pub promised : AnswerPromise plain text old answer new
  pub numbers : r ≡ printed_numbers answer
