-- `wide::with` meets its contract. Assumes nothing.
use mathlib.Core.Path.{ap, ◌∙◌}
use mathlib.Core.Bool.{Bool, ◌||◌}
use Rattle.sets.specs.Set.{has}
use Rattle.wide.specs.Words.{num}
use Rattle.wide.proofs.with.Goals as goal

pub returns : goal.returns
returns c j = c.join.ensures j ∙ ap (λ (b : Bool). has (num c.args.s) j || b) (c.one.ensures j)
