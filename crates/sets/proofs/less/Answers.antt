-- `sets::less` meets its contract. Assumes nothing.
use lib.Bits.{and_le_l}
use Rattle.sets.proofs.SetLaws.{less_is}
use Rattle.sets.proofs.less.Goals as goal

pub overflow_sub-result : goal.overflow_sub-result
overflow_sub-result c = and_le_l _ _

pub returns : goal.returns
returns c = less_is c.args.s c.args.t
