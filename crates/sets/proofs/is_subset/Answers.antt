-- `sets::is_subset` meets its contract. Assumes nothing.
use Rattle.sets.proofs.SetLaws.{subset_meet}
use Rattle.sets.proofs.is_subset.Goals as goal

pub returns : goal.returns
returns c = subset_meet 64 c.args.s c.args.t c.ranges.s.fits
