-- `wide::none` meets its contract. Assumes nothing.
use mathlib.Core.Path.{refl}
use Rattle.wide.specs.Words.{wide, num}
use Rattle.wide.proofs.none.Goals as goal

pub returns : goal.returns
unfolding num wide
returns c = refl
