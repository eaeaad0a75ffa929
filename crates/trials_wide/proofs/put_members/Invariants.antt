-- `trials_wide::put_members` ends: each turn leaves a member fewer. Assumes nothing.
use Rattle.sets.specs.Set.{size}
use Rattle.wide.specs.Words.{num}
use Rattle.trials_wide.proofs.put_members.Given as goal

abbrev pub decreases-loop-left : goal.decreases-loop-left
decreases-loop-left g l = size 256 (num l.left)
