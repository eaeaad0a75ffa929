-- `lines::line_no` meets its contract: where the loop is left, the reader stands at line k's place. Assumes nothing.
use Prim.Native.Nat.{ℕ, ◌≤◌}
use mathlib.Core.Path.{◌≡◌, sym, ap, subst, ◌∙◌}
use native.Mathlib.Nat.{le_antisymm}
use native.Mathlib.Omega.{arith}
use Rattle.lines.specs.Text.{place_of}
use Rattle.lines.specs.Part.{LineOf}
use Rattle.lines.specs.Reader.{in_text_lem, at_end_lem, after}
use Rattle.lines.specs.declared.Reader.{Reader}
use Rattle.lines.proofs.Standing.{reader_line, reader_over}
use Rattle.lines.proofs.line_no.Goals as goal
use Rattle.lines.proofs.line_no.Goals.{else-loop-test, then-loop-test+then-at_end}

pub returns : goal.returns
returns c =
    let t = c.args.s in
    let i = c.loop.counter in
    let h : i ≤ c.args.k = omega (arith, c.loop.auto.counter-end) in
    let e : c.loop.r ≡ after t i = c.loop.invariant ∙ ap (λ (r : Reader). after r.text i) c.new-r.ensures in
    let same : place_of t.now i ≡ place_of t.now c.args.k =
    elim c.loop-test.branch [
      | else-loop-test w ↦ ap (place_of t.now) (le_antisymm h w.loop-test.false)
      | then-loop-test+then-at_end w ↦ reader_over t i c.args.k h (sym (ap at_end_lem e) ∙ sym w.at_end.ensures ∙ w.if-at_end.true)
    ] in
    subst (λ (a : ℕ). LineOf t a c.here.result) same
    (reader_line t i c.here.result (subst (λ (r : Reader). LineOf r.text (in_text_lem r.text.now r.at) c.here.result) e c.here.ensures))
