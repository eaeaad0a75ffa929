-- `walk::fewest` meets its contract. Assumes nothing.
use Rattle.zykov.specs.Walk.{bounded, bounded_walk_lem}
use Rattle.bounds.specs.Names.{mycielskian}
use Rattle.walk.proofs.Answers.{bounded_answers}
use Rattle.walk.proofs.Meets.{promised_solved}
use Rattle.walk.proofs.fewest.Goals as goal

pub returns : goal.returns
returns c = promised_solved (λ n. bounded n mycielskian) (bounded_walk_lem mycielskian) bounded_answers _ _ _ _ _ c.solved.ensures
