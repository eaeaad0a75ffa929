-- `graphs::hopeful` meets its contract. Assumes nothing.
use Rattle.graphs.proofs.ChooseLaws.{least_hopeful}
use Rattle.graphs.proofs.hopeful.Goals as goal

pub returns-then-need-before : goal.returns-then-need-before
returns-then-need-before c = record { within = λ v t. t; out = λ v t q. absurd (q t) }

pub returns : goal.returns
returns c = let a = c.args in least_hopeful a.degrees a.need a.left c.at_least.result c.at_least.ensures
