-- Every promise of the face leaves one answer and one state of the lent memory, for every input, refused ones too, and for both readings of a clash
-- text. Assumes nothing.
use mathlib.Core.Path.{◌≡◌}
use mathlib.Core.List.{List}
use mathlib.Core.Bool.{Bool}
use Prim.Native.Nat.{ℕ}
use denote.Ref.{Bor}
use Rattle.std.specs.Prelude.{Result}
use Rattle.refusals.specs.declared.Invalid.{Invalid}
use Rattle.refusals.specs.declared.Unsolved.{Unsolved}
use Rattle.clashes.specs.Matrix.{Judged}
use Rattle.clashes.proofs.MatrixLaws.{judged_unique}
use Rattle.bounds.specs.Names.{clique_set, clique_bound_lem, mycielskian}
use Rattle.bounds.specs.Lent.{no_members, Answers}
use Rattle.bounds.specs.declared.Bound.{Bound}
use Rattle.bounds.proofs.LentLaws.{answers_unique}
use Rattle.zykov.specs.Walk.{bounded_walk_lem, plain_walk_lem}
use Rattle.shrink.specs.Shrunk.{shrunk_walk}
use Rattle.walk.specs.Promise.{Promised}
use Rattle.walk.specs.declared.found.Fewest.{Fewest}
use Rattle.walk.proofs.PromiseLaws.{promised_unique}
use Rattle.lists.specs.Promise.{ReadPromise, WritePromise}
use Rattle.lists.specs.declared.Unread.{Unread}
use Rattle.lists.specs.declared.Unwritten as list
use Rattle.lists.proofs.Unique as lists
use Rattle.sheet_texts.specs.Promise.{WritePromise as SheetPromise}
use Rattle.sheet_texts.specs.declared.Unwritten as sheet
use Rattle.sheet_texts.proofs.Unique as texts
use Rattle.sheets.specs.Promise.{CheckPromise, PreviewPromise}
use Rattle.sheets.specs.Place.{PlacePromise}
use Rattle.sheets.specs.declared.Unchecked.{Unchecked}
use Rattle.sheets.specs.declared.Part.{Part}
use Rattle.sheets.proofs.Unique as sheets
use Rattle.sheets.proofs.Places as places
use Rattle.mends.specs.Promise.{MendPromise}
use Rattle.mends.specs.declared.Unmended.{Unmended}
use Rattle.mends.proofs.Unique as mends
use Rattle.answers.specs.Printed.{AnswerPromise, LongPromise}
use Rattle.answers.specs.Mended.{MendedPromise, LongSheetPromise}
use Rattle.answers.specs.declared.Full.{Full}
use Rattle.answers.proofs.Calls as answers
use Rattle.answers.proofs.MendCalls as mended
use Rattle.sittings.specs.Placing.{PlacingPromise}
use Rattle.sittings.proofs.Engines.{placing_unique}

pub validity_unique : (rows : List ℕ) (a b : Result Unit Invalid) → Judged rows a → Judged rows b → a ≡ b
validity_unique = judged_unique

pub clique_unique : (rows : List ℕ) (a b : Result Bound Invalid) → Answers clique_bound_lem clique_set rows a → Answers clique_bound_lem clique_set rows b → a ≡ b
clique_unique = answers_unique 64 clique_bound_lem clique_set

pub mycielskian_unique : (rows : List ℕ) (a b : Result Bound Invalid) → Answers mycielskian no_members rows a → Answers mycielskian no_members rows b → a ≡ b
mycielskian_unique = answers_unique 64 mycielskian no_members

pub fewest_unique : (rows before : List ℕ) (budget : ℕ) (a b : Result Fewest Unsolved) (after other : List ℕ)
    → Promised (bounded_walk_lem mycielskian) rows before budget a after → Promised (bounded_walk_lem mycielskian) rows before budget b other
    → (a ≡ b) × (after ≡ other)
fewest_unique = promised_unique 64 (bounded_walk_lem mycielskian)

pub fewest_by_placing_unique : (rows before : List ℕ) (budget : ℕ) (a b : Result Fewest Unsolved) (after other : List ℕ) → PlacingPromise rows before budget a after
    → PlacingPromise rows before budget b other → (a ≡ b) × (after ≡ other)
fewest_by_placing_unique = placing_unique 64

pub fewest_shrunk_unique : (rows before : List ℕ) (budget : ℕ) (a b : Result Fewest Unsolved) (after other : List ℕ)
    → Promised (shrunk_walk mycielskian) rows before budget a after → Promised (shrunk_walk mycielskian) rows before budget b other
    → (a ≡ b) × (after ≡ other)
fewest_shrunk_unique = promised_unique 64 (shrunk_walk mycielskian)

pub plain_unique : (rows before : List ℕ) (budget : ℕ) (a b : Result Fewest Unsolved) (after other : List ℕ) → Promised plain_walk_lem rows before budget a after
    → Promised plain_walk_lem rows before budget b other → (a ≡ b) × (after ≡ other)
plain_unique = promised_unique 64 plain_walk_lem

pub read_list_unique : (plain : Bool) (text old : List ℕ) (a b : Result ℕ Unread) (new other : List ℕ) → ReadPromise plain text old a new
    → ReadPromise plain text old b other
    → (a ≡ b) × (new ≡ other)
read_list_unique = lists.read_unique

pub write_list_unique : (rows old : List ℕ) (a b : Result ℕ list.Unwritten) (new other : List ℕ) → WritePromise rows old a new
    → WritePromise rows old b other → (a ≡ b) × (new ≡ other)
write_list_unique = lists.write_unique

pub write_sheet_unique : (colours old : List ℕ) (a b : Result ℕ sheet.Unwritten) (new other : List ℕ) → SheetPromise colours old a new
    → SheetPromise colours old b other → (a ≡ b) × (new ≡ other)
write_sheet_unique = texts.write_unique

pub check_sheet_unique : (plain : Bool) (list sheet old : List ℕ) (a b : Result ℕ Unchecked) (new other : List ℕ) → CheckPromise plain list sheet old a new
    → CheckPromise plain list sheet old b other → (a ≡ b) × (new ≡ other)
check_sheet_unique = sheets.check_unique

-- the part's bytes, and where it lies
pub fault_line_unique : (plain : Bool) (list sheet : Bor (List ℕ)) (room : ℕ) (r q : Bor (List ℕ)) → PreviewPromise plain list sheet room r
    → PreviewPromise plain list sheet room q → (r.now ≡ q.now) × (r.ref_ptr.0 ≡ q.ref_ptr.0) × (r.ref_ptr.1 ≡ q.ref_ptr.1)
fault_line_unique = sheets.preview_unique

-- the place in numbers; and what `fault_line` returns is just what lies there
pub fault_part_unique : (plain : Bool) (list sheet : List ℕ) (room : ℕ) (p q : Part) → PlacePromise plain list sheet room p
    → PlacePromise plain list sheet room q → p ≡ q
fault_part_unique = places.place_unique

pub fault_part_shown : (plain : Bool) (list sheet : Bor (List ℕ)) (room : ℕ) (r : Bor (List ℕ)) (p : Part)
    → PlacePromise plain list.now sheet.now room p
    → PreviewPromise plain list sheet room r → places.At (places.holder list sheet p) p r
fault_part_shown plain list sheet room r p = places.place_shown plain list sheet room r p

pub shown_fault_part : (plain : Bool) (list sheet : Bor (List ℕ)) (room : ℕ) (r : Bor (List ℕ)) (p : Part)
    → PlacePromise plain list.now sheet.now room p
    → places.At (places.holder list sheet p) p r → PreviewPromise plain list sheet room r
shown_fault_part plain list sheet room r p = places.shown_place plain list sheet room r p

pub mend_sheet_unique : (plain : Bool) (list sheet old : List ℕ) (a b : Result ℕ Unmended) (new other : List ℕ) → MendPromise plain list sheet old a new
    → MendPromise plain list sheet old b other → (a ≡ b) × (new ≡ other)
mend_sheet_unique = mends.mend_unique

pub answer_unique : (plain : Bool) (text old : List ℕ) (a b : Result ℕ Full) (new other : List ℕ) → AnswerPromise plain text old a new
    → AnswerPromise plain text old b other
    → (a ≡ b) × (new ≡ other)
answer_unique = answers.answer_unique

pub answer_long_unique : (old : List ℕ) (a b : Result ℕ Full) (new other : List ℕ) → LongPromise old a new → LongPromise old b other → (a ≡ b) × (new ≡ other)
answer_long_unique = answers.long_unique

pub mend_answer_unique : (plain : Bool) (list sheet old : List ℕ) (a b : Result ℕ Full) (new other : List ℕ) → MendedPromise plain list sheet old a new
    → MendedPromise plain list sheet old b other → (a ≡ b) × (new ≡ other)
mend_answer_unique = mended.mended_unique

pub mend_answer_long_unique : (plain : Bool) (list old : List ℕ) (a b : Result ℕ Full) (new other : List ℕ) → LongSheetPromise plain list old a new
    → LongSheetPromise plain list old b other → (a ≡ b) × (new ≡ other)
mend_answer_long_unique = mended.long_sheet_unique
