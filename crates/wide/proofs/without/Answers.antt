-- `wide::without` meets its contract. Assumes nothing.
use mathlib.Core.Path.{ap, ◌∙◌}
use mathlib.Core.Bool.{Bool, not, ◌&&◌}
use Rattle.sets.specs.Set.{has}
use Rattle.wide.specs.Words.{num}
use Rattle.wide.proofs.without.Goals as goal

pub returns : goal.returns
returns c j = c.less.ensures j ∙ ap (λ (b : Bool). has (num c.args.s) j && not b) (c.one.ensures j)
