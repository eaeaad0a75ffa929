-- `mending::go_through` meets its contract: what is left of the sheet, gone through from what is known, comes to what the whole sheet comes to (`Along`).
-- Assumes nothing.
use mathlib.Core.Path.{◌≡◌, sym, ap, ◌∙◌}
use native.Mathlib.Omega.{arith}
use borrow.Author.Rules.{rules}
use Rattle.std.proofs.lemmas.Result.{err_from_is_err_and}
use Rattle.mending.proofs.Turns.{mapped_ok, mapped_err, step_ok, along_start, out_whole, out_short, out_halts, out_stops, Turned, turned_groups, turned_size, turned_member, turned_along}
use Rattle.mending.proofs.go_through.Goals as goal
use Rattle.mending.proofs.go_through.Goals.{Joined-step, in-Groups, in-Size, in-Member}

turned : (c : Joined-step) →
    let a = c.args in
    let e = c.line_end-e in
    Turned 64 a.list.now.n a.list.now.rows a.sheet.now c.loop-at.at e.result c.loop-at.line c.loop-at.c c.loop-at.g e.ensures.0
    c.if-sheet-e.false c.match-step.c c.match-step.g
turned c =
    let a = c.args in
    let e = c.line_end-e in
    let l = c.if-sheet-e.false in
    let st = sym c.line_step.ensures ∙ mapped_ok _ c.line_step.result c.map_err.result c.in_ok-step.step c.map_err.ensures.cases c.in_ok-step.was in
    elim c.match-step.branch [
      | in-Groups w ↦ turned_groups 64 a.list.now.n a.list.now.rows a.sheet.now c.loop-at.at e.result c.loop-at.line c.loop-at.c c.loop-at.g e.ensures.0 l
          c.loop-at.invariant.3.fits w.in-Groups.d (st ∙ ap step_ok w.in-Groups.is) _ _ w.c-is w.g-is
      | in-Size w ↦ turned_size 64 a.list.now.n a.list.now.rows a.sheet.now c.loop-at.at e.result c.loop-at.line c.loop-at.c c.loop-at.g e.ensures.0 l
          w.in-Size.d (st ∙ ap step_ok w.in-Size.is) _ w.close.ensures _ _ w.c-is w.g-is
      | in-Member w ↦ turned_member 64 a.list.now.n a.list.now.rows a.sheet.now c.loop-at.at e.result c.loop-at.line c.loop-at.c c.loop-at.g e.ensures.0 l
          w.in-Member.d w.in-Member.u (st ∙ ap step_ok w.in-Member.is) _ w.member.ensures _ _ w.c-is w.g-is
    ]

pub loop-at-init : goal.loop-at-init
loop-at-init c =
    let l = c.args.list.now in
    let n = c.new-g.ensures in
    (omega arith, omega arith, omega (arith, n.2), along_start l.n l.rows c.args.sheet.now _ (n.0, n.1 l.n, n.2))

pub returns-then-sheet-e : goal.returns-then-sheet-e
returns-then-sheet-e c =
    let a = c.args in
    let b = c.loop-at in
    out_halts a.list.now.n a.list.now.rows a.sheet.now b.at b.line b.c b.g b.invariant.3 _ c.line_end-e.ensures.0
    c.loop-at-test.true c.if-sheet-e.true _ c.unended-why.ensures

pub returns-in_err-step : goal.returns-in_err-step
returns-in_err-step c =
    let a = c.args in
    let b = c.loop-at in
    let p = err_from_is_err_and c.from_residual.result c.from_residual.ensures.1 in
    let m = mapped_err _ c.line_step.result c.map_err.result c.in_err-step.field-0.0 c.map_err.ensures.cases c.in_err-step.was in
    let z : c.in_err-step.field-0.0 ≡ (record { why = m.0; line = b.line }) = search rules in
    let w = p.2 ∙ z in
    rw (p.1, w) (out_stops a.list.now.n a.list.now.rows a.sheet.now b.at b.line b.c b.g b.invariant.3 _ c.line_end-e.ensures.0 c.if-sheet-e.false m.0 (sym c.line_step.ensures ∙ m.1))

pub close-requires : goal.close-requires
close-requires c = let b = c.loop-at in (c.requires.0.few, b.invariant.3.fits)

pub member-requires : goal.member-requires
member-requires c =
    let b = c.loop-at in
    (c.requires.0, b.invariant.3.fits, omega (arith, c.requires.1, b.invariant.0, b.invariant.1), omega (arith, c.requires.1, b.invariant.0, b.invariant.2))

pub loop-at-preserved : goal.loop-at-preserved
loop-at-preserved c =
    let a = c.args in
    let b = c.loop-at in
    let e = c.line_end-e in
    let t = turned c in (
      omega arith,
      omega (arith, e.ensures.0, b.invariant.1),
      omega (arith, e.ensures.0, t.bytes, b.invariant.2),
      turned_along 64 a.list.now.n a.list.now.rows a.sheet.now b.at e.result b.line b.c b.g e.ensures.0 c.if-sheet-e.false b.invariant.3 _ _ t,
    )

pub close-requires-2 : goal.close-requires-2
close-requires-2 c = (c.requires.0.few, c.loop-at.invariant.3.fits)

pub returns-then-not-met : goal.returns-then-not-met
returns-then-not-met c =
    let a = c.args in
    let b = c.loop-at in
    out_short a.list.now.n a.list.now.rows a.sheet.now b.at b.line b.c b.g b.invariant.3 c.loop-at-test.false
    (sym c.met.ensures ∙ c.if-not-met.true)

pub returns : goal.returns
returns c =
    let a = c.args in
    let b = c.loop-at in
    out_whole a.list.now.n a.list.now.rows a.sheet.now b.at b.line b.c b.g b.invariant.3 c.loop-at-test.false
    (sym c.met.ensures ∙ c.if-not-met.false) (omega (arith, b.invariant.0, b.invariant.2, c.requires.1)) _ c.close-2.ensures
