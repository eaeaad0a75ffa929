-- `wide::row` meets its contract: the four words of the row. Assumes nothing.
use mathlib.Core.Path.{sym}
use native.Mathlib.Omega.{arith}
use Rattle.wide.specs.Words.{num}
use Rattle.wide.proofs.WideLaws.{row_four}
use Rattle.wide.proofs.row.Goals as goal

pub returns : goal.returns
unfolding num
returns c =
    sym (row_four c.args.rows.now 256 c.args.i c.requires.1 (omega (arith, c.requires.0, c.requires.1)))
