-- `lists::spot_along` meets its contract: what is left of the line, along what is expected of it, has the spot that the whole line has. Assumes nothing.
use Prim.Native.Nat.{ℕ, ◌+◌}
use mathlib.Core.Path.{◌≡◌, sym, ap, ◌∙◌}
use mathlib.Core.List.{List}
use mathlib.Core.Bool.{false, cond}
use native.Mathlib.Omega.{arith}
use lib.ListN.{length, drop, get_or, drop_of_length-le}
use Rattle.lines.proofs.Basics.{from}
use Rattle.lists.specs.Expect.{ends?, fault_at_lem}
use Rattle.lists.specs.declared.Fault.{Fault}
use Rattle.lists.specs.declared.Fault.TheVariants.{Unended}
use Rattle.lists.specs.Pattern.{due_of, spot_from}
use Rattle.lists.proofs.PatternLaws.{spot_on, spot_stuck, spot_ends}
use Rattle.lists.proofs.spot_along.Goals as goal

pub returns-in_default : goal.returns-in_default
returns-in_default c =
    let a = c.args in
    let l = c.loop-i in
    ap (λ (f : Fault). record { fault = f; column = l.i + 1 }) (c.fault_at.ensures ∙ ap (fault_at_lem (due_of a.w.now l.d)) c.is_digit.ensures)
    ∙ sym (spot_stuck l.i (get_or a.s.now l.i 0) (drop (l.i + 1) a.s.now) (due_of a.w.now l.d) c.in_default.ensures)
    ∙ ap (λ (x : List ℕ). spot_from l.i x (due_of a.w.now l.d)) (sym (from a.s.now l.i c.loop-i-test.true))
    ∙ l.invariant

pub loop-i-preserved : goal.loop-i-preserved
loop-i-preserved c =
    let a = c.args in
    let l = c.loop-i in
    sym (spot_on l.i (get_or a.s.now l.i 0) (drop (l.i + 1) a.s.now) (due_of a.w.now l.d) _ c.in-Some.ensures)
    ∙ ap (λ (x : List ℕ). spot_from l.i x (due_of a.w.now l.d)) (sym (from a.s.now l.i c.loop-i-test.true))
    ∙ l.invariant

pub returns : goal.returns
returns c =
    let a = c.args in
    let l = c.loop-i in
    let z : length a.s.now ≡ l.i = omega arith in
    ap (λ (f : Fault). record { fault = f; column = length a.s.now + 1 }) c.stopped.ensures
    ∙ ap (λ (k : ℕ). record { fault = cond (ends? (due_of a.w.now l.d)) Unended (fault_at_lem (due_of a.w.now l.d) false); column = k + 1 }) z
    ∙ sym (spot_ends l.i (due_of a.w.now l.d))
    ∙ ap (λ (x : List ℕ). spot_from l.i x (due_of a.w.now l.d)) (sym (drop_of_length-le a.s.now c.loop-i-test.false))
    ∙ l.invariant
