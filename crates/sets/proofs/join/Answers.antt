-- `sets::join` meets its contract. Assumes nothing.
use Rattle.sets.proofs.SetLaws.{join_is}
use Rattle.sets.proofs.join.Goals as goal

pub returns : goal.returns
returns c = join_is c.args.s c.args.t
