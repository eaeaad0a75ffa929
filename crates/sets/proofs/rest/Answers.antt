-- `sets::rest` meets its contract. Assumes nothing.
use Rattle.sets.proofs.SetLaws.{rest_is}
use Rattle.sets.proofs.rest.Goals as goal

pub returns : goal.returns
returns c = rest_is 64 c.args.s
