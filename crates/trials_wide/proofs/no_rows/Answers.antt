-- `trials_wide::no_rows` are rows of a valid list. Assumes nothing.
use Rattle.trials_wide.proofs.ValidLaws.{none_valid}
use Rattle.trials_wide.proofs.no_rows.Goals as goal

pub returns-clause-by_index : goal.returns-clause-by_index
returns-clause-by_index c = none_valid
