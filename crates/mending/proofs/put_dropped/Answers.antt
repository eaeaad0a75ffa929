-- `mending::put_dropped` meets its contract: the lines that are left of the sheet, put from here, are all of them put at the start (`Left`).
-- Assumes nothing.
use Prim.Native.Nat.{ℕ, ◌+◌}
use mathlib.Core.Path.{refl, sym, ap, subst, ◌∙◌}
use mathlib.Core.Bool.{Bool}
use native.Mathlib.Omega.{arith}
use lib.ListN.{drop}
use Rattle.sets.specs.Set.{has}
use Rattle.lines.specs.Text.{lines_of}
use Rattle.lines.proofs.Writing.{Left, left_begin, left_none}
use Rattle.sheets.proofs.Sets.{empty_is}
use Rattle.mends.specs.Typed.{start}
use Rattle.mends.specs.Report.{dropped_text}
use Rattle.mending.specs.Held.{dropped_at, dropped_of}
use Rattle.mending.proofs.Turns.{step_ok, fault_drops, ends_drops, halts_drops, turn_drops}
use Rattle.mending.proofs.Reports.{drops_groups, drops_size, drops_room, drops_member}
use Rattle.mending.proofs.put_dropped.Goals as goal
use Rattle.mending.proofs.put_dropped.Goals.{Joined-step, in-Groups, in-Size, in-Member}

turned : (c : Joined-step) →
    let a = c.args in
    let e = c.line_end-e.result in
    Left a.out.now 0 (dropped_text (dropped_of a.n a.sheet.now)) c.match-step.out c.match-step.a
    (dropped_text (dropped_at a.n (lines_of (drop (e + 1) a.sheet.now)) (c.loop-at.line + 1) c.match-step.c (has c.match-step.seen)))
turned c =
    let a = c.args in
    let e = c.line_end-e in
    let l = c.if-sheet-e.false in
    let st = sym c.in-Ok.ensures in
    elim c.match-step.branch [
      | in-Groups w ↦ drops_groups a.n a.sheet.now c.loop-at.at e.result c.loop-at.line c.loop-at.c c.loop-at.seen e.ensures.0 l
          a.out.now _ c.loop-at.out c.loop-at.a c.loop-at.invariant.2 w.in-Groups.d (st ∙ ap step_ok w.in-Groups.is) _ _ _ _ w.out-is w.a-is w.c-is w.seen-is
      | in-Size w ↦ drops_size a.n a.sheet.now c.loop-at.at e.result c.loop-at.line c.loop-at.c c.loop-at.seen e.ensures.0 l
          a.out.now _ c.loop-at.out c.loop-at.a c.loop-at.invariant.2 w.in-Size.d (st ∙ ap step_ok w.in-Size.is) _ _ _ _ w.out-is w.a-is w.c-is w.seen-is
      | in-Member w ↦ drops_member a.n a.sheet.now c.loop-at.at e.result c.loop-at.line c.loop-at.c c.loop-at.seen e.ensures.0 l
          a.out.now _ c.loop-at.out c.loop-at.a c.loop-at.invariant.2 w.in-Member.d w.in-Member.u (st ∙ ap step_ok w.in-Member.is)
          _ _ w.put_drop-a.ensures _ w.sees-seen.ensures _ _ _ _ w.out-is w.a-is w.c-is w.seen-is
    ]

pub loop-at-init : goal.loop-at-init
loop-at-init c =
    let w = dropped_text (dropped_of c.args.n c.args.sheet.now) in (
      omega arith,
      omega arith,
      subst (λ (p : ℕ → Bool). Left c.args.out.now 0 w c.args.out.now 0 (dropped_text (dropped_at c.args.n (lines_of c.args.sheet.now) 1 start p))) (sym empty_is)
          (left_begin c.args.out.now 0 w (omega (arith, c.requires.2))),
    )

pub returns-then-sheet-e : goal.returns-then-sheet-e
returns-then-sheet-e c =
    let a = c.args in
    let b = c.loop-at in
    left_none a.out.now 0 _ b.out b.a _ b.invariant.2 (ap dropped_text (halts_drops a.sheet.now b.at b.line b.c _ c.line_end-e.ensures.0
    c.loop-at-test.true c.if-sheet-e.true a.n (has b.seen)))

pub returns-in_default : goal.returns-in_default
returns-in_default c =
    let a = c.args in
    let b = c.loop-at in
    left_none a.out.now 0 _ b.out b.a _ b.invariant.2 (ap dropped_text (turn_drops a.sheet.now b.at b.line b.c _ c.line_end-e.ensures.0
    c.if-sheet-e.false _ refl a.n (has b.seen) ∙ fault_drops a.n _ (λ x e. c.in_default.not-Ok x (c.line_step.ensures ∙ e)) b.line (has b.seen) _))

pub put_drop-a-requires : goal.put_drop-a-requires
put_drop-a-requires c =
    let b = c.loop-at in (
      c.requires.0,
      omega (arith, c.requires.1, b.invariant.0, b.invariant.1),
      drops_room c.args.n c.args.sheet.now b.at _ b.line b.c b.seen c.line_end-e.ensures.0 c.if-sheet-e.false
          c.args.out.now _ b.out b.a b.invariant.2 _ _ (sym c.in-Ok.ensures ∙ ap step_ok c.in-Member.is),
    )

pub loop-at-preserved : goal.loop-at-preserved
loop-at-preserved c =
    let b = c.loop-at in
    let e = c.line_end-e in
    (omega arith, omega (arith, e.ensures.0, b.invariant.1), turned c)

pub returns : goal.returns
returns c =
    let a = c.args in
    let b = c.loop-at in
    left_none a.out.now 0 _ b.out b.a _ b.invariant.2 (ap dropped_text (ends_drops a.sheet.now b.at b.line b.c c.loop-at-test.false a.n (has b.seen)))
