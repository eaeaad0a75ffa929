-- `mending::Gone::again` meets its contract: those lifted, and those below n that were not seen. Assumes nothing.
use Rattle.mending.proofs.Placing.{again_is}
use Rattle.mending.proofs.Gone.again.Goals as goal

pub returns : goal.returns
returns c = again_is c.args.n c.requires.0 c.args.self.now c.requires.1 _ _ _ c.below.ensures c.less-absent.ensures c.join.ensures
