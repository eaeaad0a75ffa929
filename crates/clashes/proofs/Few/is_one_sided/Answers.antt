-- `clashes::Few::is_one_sided` meets its contract. The loop's invariant: `all` has what the rows of the bits of row i have that are done. The measure:
-- what is left. Assumes nothing.
use mathlib.Core.Path.{sym, ◌∙◌, subst}
use native.Mathlib.Omega.{arith}
use lib.Dec.{T}
use borrow.Author.Tests.{not-true, not-false}
use Rattle.sets.proofs.SetLaws.{size_without}
use Rattle.clashes.proofs.OneSidedLaws.{Looked, looked_start, looked_again, looked_end}
use Rattle.clashes.proofs.Few.is_one_sided.Goals as goal

pub loop-left-init : goal.loop-left-init
loop-left-init c =
    looked_start c.args.self.rows.now c.args.i 64 c.below-all.result c.below.result c.meet-left.result (omega arith)
    c.below-all.ensures c.below.ensures c.meet-left.ensures

pub bounds-self-j : goal.bounds-self-j
bounds-self-j c = (c.loop-left.invariant.bits c.lowest-j.result c.lowest-j.ensures.member).0

pub loop-left-smaller : goal.loop-left-smaller
loop-left-smaller c =
    let w = c.lowest-j in
    omega (
      arith,
      size_without 64 c.loop-left.left w.result c.rest-left.result w.ensures.below w.ensures.member
          (c.rest-left.ensures w.result w.ensures),
    )

pub loop-left-preserved : goal.loop-left-preserved
loop-left-preserved c =
    let b = c.loop-left in
    let w = c.lowest-j in
    looked_again c.args.self.rows.now c.args.i 64 b.all b.left w.result c.meet-all.result c.rest-left.result b.invariant w.ensures
    c.meet-all.ensures (c.rest-left.ensures w.result w.ensures)

pub has-requires : goal.has-requires
has-requires c = omega arith

pub returns : goal.returns
returns c =
    let b = c.loop-left in (
      λ e. b.invariant.lone (λ t. subst T (sym c.has.ensures ∙ not-true _ e) t),
      λ e.
          looked_end c.args.self.rows.now c.args.i b.all (subst (Looked c.args.self.rows.now c.args.i b.all) c.loop-left-test.false b.invariant)
          (subst T (sym (not-false _ e) ∙ c.has.ensures) tt),
    )
