-- `walk::plain` meets its contract. Assumes nothing.
use Rattle.zykov.specs.Walk.{plain, plain_walk_lem}
use Rattle.walk.proofs.Answers.{plain_answers}
use Rattle.walk.proofs.Meets.{promised_solved}
use Rattle.walk.proofs.plain.Goals as goal

pub returns : goal.returns
returns c = promised_solved plain plain_walk_lem plain_answers _ _ _ _ _ c.solved.ensures
