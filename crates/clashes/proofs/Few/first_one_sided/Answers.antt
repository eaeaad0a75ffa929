-- `clashes::Few::first_one_sided` meets its contract: no row before this one has a bit that is not returned. Assumes nothing.
use native.Mathlib.Omega.{arith}
use borrow.Author.Count.{below_more}
use Rattle.clashes.proofs.Few.first_one_sided.Goals as goal

pub loop-row-preserved : goal.loop-row-preserved
loop-row-preserved c = below_more _ _ c.loop-row.invariant (c.is_one_sided.ensures.1 c.if-is_one_sided.false)

pub returns : goal.returns
returns c = λ i b. c.loop-row.invariant i (omega arith)
