-- `sets::size` meets its contract: the count of ones is the number of members. Assumes nothing.
use mathlib.Core.Path.{◌∙◌}
use Rattle.sets.proofs.SetLaws.{ones_size}
use Rattle.sets.proofs.size.Goals as goal

pub returns : goal.returns
returns c = c.wide.ensures ∙ ones_size 64 c.args.s c.ranges.s.fits
