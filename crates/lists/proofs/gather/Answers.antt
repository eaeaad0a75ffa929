-- `lists::gather` meets its contract: what is left of the text, read with what is known, is what the whole text is. Assumes nothing.
use Prim.Native.Nat.{◌<◌}
use mathlib.Core.Path.{◌≡◌, ap, sym, ◌∙◌}
use lib.ListN.{length}
use native.Mathlib.Omega.{arith}
use Rattle.std.proofs.Common.{rules}
use Rattle.std.specs.Prelude.{Ok, Err}
use Rattle.lines.proofs.Basics.{rest}
use Rattle.lists.specs.Expect.{spot_of}
use Rattle.lists.specs.Read.{most_entries, longest_text, on_line, refused_at}
use Rattle.lists.specs.declared.Spot.{Spot}
use Rattle.lists.proofs.Fold.{read_halts, read_short, turn, Turned, ends_below, repeated, turned_go, turned_edge}
use Rattle.lists.proofs.gather.Goals as goal
use Rattle.lists.proofs.gather.Goals.{In_ok-step, In-Edge, Joined-step, in-Go, in-Edge+else-repeats}

passed : (c : In_ok-step) → c.apply.result ≡ Ok c.in_ok-step.step
passed c = search rules

turned : (c : Joined-step) → let a = c.args in let b = c.loop-at in let e = c.line_end-e in (l : e.result < length a.text.now)
    → Turned a.plain most_entries a.text.now a.room b.at e.result b.line b.h b.rows e.ensures.0 l c.match-step.h c.match-step.rows
turned c l =
    let a = c.args in
    let b = c.loop-at in
    let e = c.line_end-e in
    let p = sym c.apply.ensures ∙ passed (goal.at.loop-at-preserved c).In_ok-step in
    elim c.match-step.branch [
      | in-Go w ↦
          turned_go a.plain most_entries a.text.now a.room b.at e.result b.line b.h b.rows e.ensures.0 l b.at b.invariant.4 b.invariant.3
          (omega (arith, e.ensures.0)) w.in-Go.g (p ∙ ap Ok w.in-Go.is) _ _ w.rows-is w.h-is
      | in-Edge+else-repeats w ↦
          turned_edge a.plain most_entries a.text.now a.room b.at e.result b.line b.h b.rows e.ensures.0 l b.at b.invariant.4 b.invariant.3
          (omega (arith, e.ensures.0)) w.in-Edge.g w.in-Edge.i w.in-Edge.j (p ∙ ap Ok w.in-Edge.is)
          (sym w.repeats.ensures ∙ w.if-repeats.false) _ _ _ _ w.set_bit.ensures w.set_bit-in-Edge.ensures w.rows-is w.h-is
    ]

-- an edge's ends are rows
below : (c : In-Edge) → c.line_end-e.result < length c.args.text.now → c.apply.result ≡ Ok c.in_ok-step.step → (c.in-Edge.i < 64) × (c.in-Edge.j < 64)
below c l p =
    let b = c.loop-at in
    let a = c.args in
    ends_below a.plain most_entries a.text.now a.room b.at _ b.line b.h b.rows c.line_end-e.ensures.0 l b.at b.invariant.4 b.invariant.3
    (omega (arith, c.line_end-e.ensures.0)) _ _ _ (sym c.apply.ensures ∙ p ∙ ap Ok c.in-Edge.is)

pub returns-then-text-e : goal.returns-then-text-e
returns-then-text-e c =
    let b = c.loop-at in
    let a = c.args in
    ap Err c.on-then-text-e.ensures
    ∙ ap (λ (p : Spot). refused_at p b.line) (c.spot_of.ensures ∙ ap spot_of (rest a.text.now b.at))
    ∙ sym (read_halts a.plain most_entries a.text.now a.room b.at _ _ b.h b.rows c.line_end-e.ensures.0 c.loop-at-test.true c.if-text-e.true)
    ∙ b.invariant.5
    ∙ read_short a.plain most_entries longest_text a.text.now a.room b.invariant.1

pub returns-in_err-step : goal.returns-in_err-step
returns-in_err-step c =
    let b = c.loop-at in
    let a = c.args in
    let q : (p : Spot) × (c.apply.result ≡ Err p) × (c.from_residual.result ≡ refused_at p b.line) = search rules in
    q.2
    ∙ sym (turn a.plain most_entries a.text.now a.room b.at _ b.line b.h b.rows c.line_end-e.ensures.0 (omega arith) (Err q.0) (sym c.apply.ensures ∙ q.1))
    ∙ b.invariant.5
    ∙ read_short a.plain most_entries longest_text a.text.now a.room b.invariant.1

pub repeats-requires : goal.repeats-requires
repeats-requires c = below (goal.at.repeats-requires c).In-Edge (omega arith) (passed (goal.at.repeats-requires c).In_ok-step)

pub returns-then-repeats : goal.returns-then-repeats
returns-then-repeats c =
    let b = c.loop-at in
    let a = c.args in
    ap Err (c.on-then-repeats.ensures ∙ ap (λ (p : Spot). on_line p b.line) c.from-then-repeats.ensures)
    ∙ sym (repeated a.plain most_entries a.text.now a.room b.at _ b.line b.h b.rows c.line_end-e.ensures.0 (omega arith) b.at b.invariant.4 b.invariant.3
    (omega (arith, c.line_end-e.ensures.0)) _ _ _ (sym c.apply.ensures ∙ passed (goal.at.returns-then-repeats c).In_ok-step ∙ ap Ok c.in-Edge.is) (sym c.repeats.ensures ∙ c.if-repeats.true))
    ∙ b.invariant.5
    ∙ read_short a.plain most_entries longest_text a.text.now a.room b.invariant.1

pub set_bit-requires : goal.set_bit-requires
set_bit-requires c = below (goal.at.set_bit-requires c).In-Edge (omega arith) (passed (goal.at.set_bit-requires c).In_ok-step)

pub set_bit-requires-in-Edge : goal.set_bit-requires-in-Edge
set_bit-requires-in-Edge c = let w = below (goal.at.set_bit-requires-in-Edge c).In-Edge (omega arith) (passed (goal.at.set_bit-requires-in-Edge c).In_ok-step) in (w.1, w.0)

pub loop-at-preserved : goal.loop-at-preserved
loop-at-preserved c =
    let t = turned c (omega arith) in
    let b = c.loop-at in
    let e = c.line_end-e in
    (omega (arith, e.ensures.1), b.invariant.1, omega (arith, e.ensures.0), t.few, t.size, t.same ∙ b.invariant.5)
