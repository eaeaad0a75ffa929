-- `sheets::check_lines` meets its contract: what is left of the sheet, checked with what is known, is what the whole sheet is. Assumes nothing.
use Rattle.std.proofs.Common.{◌≡◌, ◌<◌, Ok, Err, ap, sym, ◌∙◌, arith, rules}
use Rattle.clashes.specs.Matrix.{matrix}
use Rattle.lists.specs.Read.{most_entries, longest_text}
use Rattle.sheets.specs.Check.{refused}
use Rattle.sheets.specs.declared.SheetFault.{SheetFault}
use Rattle.sheets.proofs.Fold.{check_halts, check_short, turn, Turned, place_below, turned_count, turned_place}
use Rattle.sheets.proofs.check_lines.Goals as goal
use Rattle.sheets.proofs.check_lines.Goals.{In_ok-step, In-Place, Joined-step, in-Count, in-Place}

passed : (c : In_ok-step) → c.line_step.result ≡ Ok c.in_ok-step.step
passed c = search rules

turned : (c : Joined-step) →
    let a = c.args in
    let b = c.loop-at in
    let e = c.line_end-e in
    Turned most_entries a.sheet.now a.n (matrix a.rows.now) b.at e.result b.line b.p b.mates b.earlier b.colours e.ensures.0 c.if-sheet-e.false
    c.match-step.p c.match-step.mates c.match-step.earlier c.match-step.colours
turned c =
    let a = c.args in
    let b = c.loop-at in
    let e = c.line_end-e in
    let i = b.invariant in
    let st = sym c.line_step.ensures ∙ passed (goal.at.loop-at-preserved c).In_ok-step in
    elim c.match-step.branch [
      | in-Count w ↦ turned_count most_entries a.sheet.now a.n (matrix a.rows.now) b.at e.result b.line b.p b.mates b.earlier b.colours e.ensures.0
          c.if-sheet-e.false c.requires.0 i.3 i.5 i.4
          w.in-Count.q (st ∙ ap Ok w.in-Count.is) _ _ _ _ _ w.join-earlier.ensures w.colours-is w.p-is w.mates-is w.earlier-is
      | in-Place w ↦ turned_place most_entries a.sheet.now a.n (matrix a.rows.now) b.at e.result b.line b.p b.mates b.earlier b.colours e.ensures.0
          c.if-sheet-e.false c.requires.0 i.3 i.5 i.4
          w.in-Place.q w.in-Place.i w.in-Place.g (st ∙ ap Ok w.in-Place.is) _ _ _ _ _ w.with-mates.ensures w.colours-is w.p-is w.mates-is w.earlier-is
    ]

-- a member is an entry
below : (c : In-Place) → c.line_step.result ≡ Ok c.in_ok-step.step → c.in-Place.i < 64
below c s =
    let a = c.args in
    let b = c.loop-at in
    let i = b.invariant in
    place_below most_entries a.sheet.now a.n (matrix a.rows.now) b.at _ b.line b.p b.mates b.earlier b.colours c.line_end-e.ensures.0 c.if-sheet-e.false
    c.requires.0 i.3 i.5 i.4 _ _ _ (sym c.line_step.ensures ∙ s ∙ ap Ok c.in-Place.is)

pub returns-then-sheet-e : goal.returns-then-sheet-e
returns-then-sheet-e c =
    let b = c.loop-at in
    let s = c.args.sheet.now in
    ap Err c.unended.ensures ∙ sym (check_halts most_entries s _ _ b.at _ _ b.p _ _ b.colours c.line_end-e.ensures.0 c.loop-at-test.true c.if-sheet-e.true)
    ∙ b.invariant.6 ∙ check_short most_entries s _ _ longest_text b.invariant.1

pub returns-in_err-step : goal.returns-in_err-step
returns-in_err-step c =
    let b = c.loop-at in
    let s = c.args.sheet.now in
    let q : (f : SheetFault) × (c.line_step.result ≡ Err f) × (c.from_residual.result ≡ refused f b.line) = search rules in
    q.2 ∙ sym (turn most_entries s _ _ b.at _ _ b.p b.mates b.earlier b.colours c.line_end-e.ensures.0 c.if-sheet-e.false (Err q.0)
    (sym c.line_step.ensures ∙ q.1)) ∙ b.invariant.6 ∙ check_short most_entries s _ _ longest_text b.invariant.1

pub with-mates-requires : goal.with-mates-requires
with-mates-requires c = below (goal.at.with-mates-requires c).In-Place (passed (goal.at.with-mates-requires c).In_ok-step)

pub bounds-colours-i : goal.bounds-colours-i
bounds-colours-i c = below (goal.at.bounds-colours-i c).In-Place (passed (goal.at.bounds-colours-i c).In_ok-step)

pub loop-at-preserved : goal.loop-at-preserved
loop-at-preserved c = let t = turned c in (omega arith, omega arith, omega arith, t.size, t.sound, t.within, t.same ∙ c.loop-at.invariant.6)
