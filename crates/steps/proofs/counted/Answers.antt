-- `steps::counted` meets its contract. Assumes nothing.
use borrow.Author.Tests.{lt-ltb, le-ltb}
use Rattle.steps.proofs.counted.Goals as goal

pub returns-then-s : goal.returns-then-s
returns-then-s c = simp (lt-ltb _ _ c.if-s.true)

pub returns : goal.returns
returns c = simp (le-ltb _ _ c.if-s.false)
