-- `removing::first_few` meets its contract: nobody who was looked at has few clashes. Assumes nothing.
use mathlib.Core.Path.{sym, ap, ◌∙◌}
use mathlib.Core.Option.{Option, none, some}
use Prim.Native.Nat.{ℕ}
use native.Mathlib.Omega.{arith}
use lib.ListN.{length}
use Rattle.sets.specs.Set.{has}
use Rattle.clashes.specs.Matrix.{matrix}
use Rattle.shrink.specs.Rules.{choose}
use Rattle.graphs.proofs.LoopLaws.{left_falls}
use Rattle.removing.proofs.LookLaws.{looked_next, looked_found, looked_end, few_some, few_none, removal_few}
use Rattle.removing.proofs.first_few.Invariants.{test}
use Rattle.removing.proofs.first_few.Goals as goal

pub returns-then-clashes-bound : goal.returns-then-clashes-bound
returns-then-clashes-bound c =
    let a = c.args in
    let n = length a.rows.now in
    let l = c.loop-left in
    let low = c.lowest-v in
    let met = c.meet in
    let v = low.result in
    ap some (removal_few v)
    ∙ ap (λ (o : Option ℕ). choose n (matrix a.rows.now) (has a.present) none o)
    (sym (looked_found n (has a.present) (test a.rows.now a.present a.bound) 64 l.left v l.invariant low.ensures
    (few_some a.rows.now a.present c.requires.listed a.bound v met.result (l.invariant.within v low.ensures.member).1 met.ensures 64
    c.requires.rows_len_bound
    (omega (arith, c.size-clashes.ensures, c.if-clashes-bound.true)))))

pub loop-left-smaller : goal.loop-left-smaller
loop-left-smaller c =
    let low = c.lowest-v in
    let r = c.rest-left in
    left_falls c.loop-left.left low.result r.result low.ensures (r.ensures low.result low.ensures)

pub loop-left-preserved : goal.loop-left-preserved
loop-left-preserved c =
    let a = c.args in
    let l = c.loop-left in
    let low = c.lowest-v in
    let r = c.rest-left in
    let met = c.meet in
    let v = low.result in
    looked_next (length a.rows.now) (has a.present) (test a.rows.now a.present a.bound) 64 l.left v l.invariant
    low.ensures r.result (r.ensures v low.ensures)
    (few_none a.rows.now a.present c.requires.listed a.bound v met.result (l.invariant.within v low.ensures.member).1 met.ensures 64
    c.requires.rows_len_bound
    (λ h. let z : ⊥ = omega (arith, c.size-clashes.ensures, c.if-clashes-bound.false) in z))

pub returns : goal.returns
returns c =
    let a = c.args in
    let n = length a.rows.now in
    let l = c.loop-left in
    ap (λ (o : Option ℕ). choose n (matrix a.rows.now) (has a.present) none o)
    (sym (looked_end n (has a.present) (test a.rows.now a.present a.bound) l.left l.invariant c.loop-left-test.false))
