-- `wide::up` meets its contract: words that are 0 add nothing. Assumes nothing.
use native.Mathlib.Omega.{arith}
use Rattle.wide.specs.Words.{wide, num}
use Rattle.wide.proofs.up.Goals as goal

pub returns : goal.returns
unfolding num wide
returns c = omega arith
