-- Every call from C leaves one answer in numbers and one state of the lent memory, for every input, refused ones too: the face's promise leaves one
-- answer (`crates/sittings/proofs/Unique.antt`), and an answer has one set of numbers. Assumes nothing.
use mathlib.Core.Path.{◌≡◌, sym, ap, ◌∙◌}
use mathlib.Core.List.{List}
use mathlib.Core.Bool.{Bool}
use Prim.Native.Nat.{ℕ}
use Rattle.bounds.specs.Names.{clique_set, clique_bound_lem, mycielskian}
use Rattle.bounds.specs.Lent.{no_members}
use Rattle.zykov.specs.Walk.{bounded_walk_lem, plain_walk_lem}
use Rattle.shrink.specs.Shrunk.{shrunk_walk}
use Rattle.sittings.specs.Numbers.{verdict_numbers, bound_numbers, walk_numbers, read_numbers, list_numbers, sheet_numbers, check_numbers, mend_numbers, part_numbers, printed_numbers}
use Rattle.sittings.specs.declared.numbers.VerdictNumbers.{VerdictNumbers}
use Rattle.sittings.specs.declared.numbers.BoundNumbers.{BoundNumbers}
use Rattle.sittings.specs.declared.numbers.WalkNumbers.{WalkNumbers}
use Rattle.sittings.specs.declared.numbers.ReadNumbers.{ReadNumbers}
use Rattle.sittings.specs.declared.numbers.WriteNumbers.{WriteNumbers}
use Rattle.sittings.specs.declared.numbers.CheckNumbers.{CheckNumbers}
use Rattle.sittings.specs.declared.numbers.MendNumbers.{MendNumbers}
use Rattle.sittings.specs.declared.numbers.PartNumbers.{PartNumbers}
use Rattle.sittings.proofs.Unique as face
use Rattle.capi.specs.Calls.{ValidityCall, BoundCall, WalkCall, PlacingCall, ReadCall, ListCall, SheetCall, CheckCall, MendCall, PartCall, AnswerCall}

-- the two laws, over any numbers f of answers: one answer has one set of numbers, and the lent memory is as the answer leaves it
numbers_unique : {A R : Type 0} (f : A → R) {a b : A} {r q : R} → r ≡ f a → q ≡ f b → a ≡ b → r ≡ q
numbers_unique f x y e = x ∙ ap f e ∙ sym y

call_unique : {A R : Type 0} (f : A → R) {a b : A} {r q : R} {new other : List ℕ} → r ≡ f a → q ≡ f b → (a ≡ b) × (new ≡ other) → (r ≡ q) × (new ≡ other)
call_unique f x y u = (numbers_unique f x y u.0, u.1)

-- ---- calls that write nothing

pub validity_unique : (rows : List ℕ) (r q : VerdictNumbers) → ValidityCall rows r → ValidityCall rows q → r ≡ q
validity_unique rows r q x y = numbers_unique verdict_numbers x.numbers y.numbers (face.validity_unique rows x.answer y.answer x.promised y.promised)

pub clique_unique : (rows : List ℕ) (r q : BoundNumbers) → BoundCall clique_bound_lem clique_set rows r → BoundCall clique_bound_lem clique_set rows q → r ≡ q
clique_unique rows r q x y = numbers_unique bound_numbers x.numbers y.numbers (face.clique_unique rows x.answer y.answer x.promised y.promised)

pub mycielskian_unique : (rows : List ℕ) (r q : BoundNumbers) → BoundCall mycielskian no_members rows r → BoundCall mycielskian no_members rows q → r ≡ q
mycielskian_unique rows r q x y = numbers_unique bound_numbers x.numbers y.numbers (face.mycielskian_unique rows x.answer y.answer x.promised y.promised)

pub fault_line_unique : (plain : Bool) (list sheet : List ℕ) (room : ℕ) (r q : PartNumbers) → PartCall plain list sheet room r
    → PartCall plain list sheet room q → r ≡ q
fault_line_unique plain list sheet room r q x y =
    numbers_unique part_numbers x.numbers y.numbers (face.fault_part_unique plain list sheet room x.answer y.answer x.promised y.promised)

-- ---- calls that are lent memory to write

pub fewest_unique : (rows before : List ℕ) (budget : ℕ) (r q : WalkNumbers) (after other : List ℕ)
    → WalkCall (bounded_walk_lem mycielskian) rows before budget r after → WalkCall (bounded_walk_lem mycielskian) rows before budget q other
    → (r ≡ q) × (after ≡ other)
fewest_unique rows before budget r q after other x y =
    call_unique walk_numbers x.numbers y.numbers (face.fewest_unique rows before budget x.answer y.answer after other x.promised y.promised)

pub fewest_by_placing_unique : (rows before : List ℕ) (budget : ℕ) (r q : WalkNumbers) (after other : List ℕ) → PlacingCall rows before budget r after
    → PlacingCall rows before budget q other → (r ≡ q) × (after ≡ other)
fewest_by_placing_unique rows before budget r q after other x y =
    call_unique walk_numbers x.numbers y.numbers (face.fewest_by_placing_unique rows before budget x.answer y.answer after other x.promised y.promised)

pub fewest_shrunk_unique : (rows before : List ℕ) (budget : ℕ) (r q : WalkNumbers) (after other : List ℕ)
    → WalkCall (shrunk_walk mycielskian) rows before budget r after → WalkCall (shrunk_walk mycielskian) rows before budget q other
    → (r ≡ q) × (after ≡ other)
fewest_shrunk_unique rows before budget r q after other x y =
    call_unique walk_numbers x.numbers y.numbers (face.fewest_shrunk_unique rows before budget x.answer y.answer after other x.promised y.promised)

pub plain_unique : (rows before : List ℕ) (budget : ℕ) (r q : WalkNumbers) (after other : List ℕ) → WalkCall plain_walk_lem rows before budget r after
    → WalkCall plain_walk_lem rows before budget q other → (r ≡ q) × (after ≡ other)
plain_unique rows before budget r q after other x y =
    call_unique walk_numbers x.numbers y.numbers (face.plain_unique rows before budget x.answer y.answer after other x.promised y.promised)

pub read_list_unique : (plain : Bool) (text old : List ℕ) (r q : ReadNumbers) (new other : List ℕ) → ReadCall plain text old r new
    → ReadCall plain text old q other
    → (r ≡ q) × (new ≡ other)
read_list_unique plain text old r q new other x y =
    call_unique read_numbers x.numbers y.numbers (face.read_list_unique plain text old x.answer y.answer new other x.promised y.promised)

pub write_list_unique : (rows old : List ℕ) (r q : WriteNumbers) (new other : List ℕ) → ListCall rows old r new → ListCall rows old q other
    → (r ≡ q) × (new ≡ other)
write_list_unique rows old r q new other x y =
    call_unique list_numbers x.numbers y.numbers (face.write_list_unique rows old x.answer y.answer new other x.promised y.promised)

pub write_sheet_unique : (colours old : List ℕ) (r q : WriteNumbers) (new other : List ℕ) → SheetCall colours old r new → SheetCall colours old q other
    → (r ≡ q) × (new ≡ other)
write_sheet_unique colours old r q new other x y =
    call_unique sheet_numbers x.numbers y.numbers (face.write_sheet_unique colours old x.answer y.answer new other x.promised y.promised)

pub check_sheet_unique : (plain : Bool) (list sheet old : List ℕ) (r q : CheckNumbers) (new other : List ℕ) → CheckCall plain list sheet old r new
    → CheckCall plain list sheet old q other
    → (r ≡ q) × (new ≡ other)
check_sheet_unique plain list sheet old r q new other x y =
    call_unique check_numbers x.numbers y.numbers (face.check_sheet_unique plain list sheet old x.answer y.answer new other x.promised y.promised)

pub mend_sheet_unique : (plain : Bool) (list sheet old : List ℕ) (r q : MendNumbers) (new other : List ℕ) → MendCall plain list sheet old r new
    → MendCall plain list sheet old q other
    → (r ≡ q) × (new ≡ other)
mend_sheet_unique plain list sheet old r q new other x y =
    call_unique mend_numbers x.numbers y.numbers (face.mend_sheet_unique plain list sheet old x.answer y.answer new other x.promised y.promised)

pub answer_unique : (plain : Bool) (text old : List ℕ) (r q : WriteNumbers) (new other : List ℕ) → AnswerCall plain text old r new
    → AnswerCall plain text old q other
    → (r ≡ q) × (new ≡ other)
answer_unique plain text old r q new other x y =
    call_unique printed_numbers x.numbers y.numbers (face.answer_unique plain text old x.answer y.answer new other x.promised y.promised)
