-- `sets::lowest` meets its contract: the count of trailing zeros is the lowest member. Assumes nothing.
use mathlib.Core.Path.{sym, subst}
use Rattle.sets.specs.Set.{IsLowest}
use Rattle.sets.proofs.SetLaws.{trailing_lowest}
use Rattle.sets.proofs.lowest.Goals as goal

pub returns : goal.returns
returns c =
    subst (IsLowest 64 c.args.s) (sym c.wide.ensures)
    (trailing_lowest 64 c.args.s c.ranges.s.fits c.requires)
