-- `sets::meet` meets its contract. Assumes nothing.
use Rattle.sets.proofs.SetLaws.{meet_is}
use Rattle.sets.proofs.meet.Goals as goal

pub returns : goal.returns
returns c = meet_is c.args.s c.args.t
