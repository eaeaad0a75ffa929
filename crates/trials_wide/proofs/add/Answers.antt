-- `trials_wide::add` keeps rows a valid list's: a pair comes in from both its ends. Assumes nothing.
use Rattle.trials_wide.proofs.ValidLaws.{pair_valid}
use Rattle.trials_wide.proofs.add.Goals as goal

pub returns-clause-valid : goal.returns-clause-valid
returns-clause-valid c = λ v. pair_valid c.if-u-v.false c.mark.ensures.marked c.mark-2.ensures.marked v
