-- `answers::mended` meets its contract: what mending wrote, or the line of its refusal. Assumes nothing.
use Prim.Native.Nat.{ℕ}
use mathlib.Core.Path.{◌≡◌, sym, subst}
use mathlib.Core.List.{List}
use native.Mathlib.Omega.{arith}
use Rattle.std.specs.Prelude.{Result, Ok, Err}
use Rattle.refusals.specs.Table.{number_of, told}
use Rattle.refusals.specs.declared.Refusal.{Refusal}
use Rattle.sheets.specs.Promise.{refusal_of_lem}
use Rattle.mends.specs.Promise.{MendPromise}
use Rattle.mends.specs.declared.Unmended.{Unmended}
use Rattle.mends.specs.declared.Unmended.TheVariants.{OfList, OfSheet, Full}
use Rattle.answers.specs.Printed.{refused_text, printed, IsText, Writes}
use Rattle.answers.proofs.MendLaws.{mended_written, mended_unread, mended_refused, mended_full}
use Rattle.answers.proofs.mended.Goals as goal
use Rattle.answers.proofs.mended.Goals.{After-mend_sheet}

-- what is promised of the answer that mending gave
promised : (c : After-mend_sheet) (a : Result ℕ Unmended) → c.mend_sheet.result ≡ a
    → let g = c.args in MendPromise g.plain g.list.now g.sheet.now g.out.now a c.mend_sheet.new.out
promised c a e =
    let g = c.args in
    subst (λ (x : Result ℕ Unmended). MendPromise g.plain g.list.now g.sheet.now g.out.now x c.mend_sheet.new.out) e c.mend_sheet.ensures

pub refused-requires : goal.refused-requires
refused-requires c =
    let g = c.args in
    let i = c.in-Err-OfSheet.is in
    let j = c.in-Err-OfSheet.field-0-is in
    let w = mended_refused g.plain g.list.now g.sheet.now g.out.now c.in-Err-OfSheet.why _
    (promised (goal.at.refused-requires c).After-mend_sheet (Err (OfSheet c.in-Err-OfSheet.why)) cc) in
    (omega (arith, c.line.ensures, w.2 c.from-r.result), omega arith)

pub returns-in-Ok : goal.returns-in-Ok
returns-in-Ok c =
    let g = c.args in
    mended_written g.plain g.list.now g.sheet.now g.out.now _ _ (promised (goal.at.returns-in-Ok c).After-mend_sheet _ c.in-Ok.is)

pub returns-in-Err-OfList : goal.returns-in-Err-OfList
returns-in-Err-OfList c =
    let g = c.args in
    let i = c.in-Err-OfList.is in
    let j = c.in-Err-OfList.field-0-is in
    let w = mended_unread g.plain g.list.now g.sheet.now g.out.now c.in-Err-OfList.field-0-0 _
    (promised (goal.at.returns-in-Err-OfList c).After-mend_sheet (Err (OfList c.in-Err-OfList.field-0-0)) cc) in
    subst (λ (x : List ℕ). Writes x g.out.now c.answer.result c.answer.new.out) (sym w.1)
    (subst (λ (o : List ℕ). Writes (printed g.plain g.list.now) o c.answer.result c.answer.new.out) w.0 c.answer.ensures)

pub returns-in-Err-OfSheet : goal.returns-in-Err-OfSheet
returns-in-Err-OfSheet c =
    let g = c.args in
    let i = c.in-Err-OfSheet.is in
    let j = c.in-Err-OfSheet.field-0-is in
    let r = c.in-Err-OfSheet.why in
    let w = mended_refused g.plain g.list.now g.sheet.now g.out.now r _
    (promised (goal.at.returns-in-Err-OfSheet c).After-mend_sheet (Err (OfSheet r)) cc) in
    let t = c.refused.result in
    let y = subst (λ (q : Refusal). IsText (refused_text (number_of q) (told q r.line).line 0) t) c.from-r.ensures
    (subst (λ (i : ℕ). IsText (refused_text (number_of c.from-r.result) i 0) t) c.line.ensures c.refused.ensures) in
    subst (λ (x : List ℕ). Writes x g.out.now c.fit.result c.fit.new.out) (sym w.1)
    (subst (λ (o : List ℕ). Writes (refused_text (number_of (refusal_of_lem r.why)) (told (refusal_of_lem r.why) r.line).line 0) o c.fit.result c.fit.new.out) w.0
    (c.fit.ensures _ y))

pub returns-in-Err-Full : goal.returns-in-Err-Full
returns-in-Err-Full c =
    let g = c.args in
    let i = c.in-Err-Full.is in
    let j = c.in-Err-Full.field-0-is in
    mended_full g.plain g.list.now g.sheet.now g.out.now _ (promised (goal.at.returns-in-Err-Full c).After-mend_sheet (Err Full) cc)
