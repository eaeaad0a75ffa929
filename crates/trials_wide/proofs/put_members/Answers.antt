-- `trials_wide::put_members` ends: each turn leaves a member fewer. Assumes nothing.
use Rattle.graphs.proofs.LoopLaws.{left_falls}
use Rattle.trials_wide.proofs.put_members.Goals as goal

pub loop-left-smaller : goal.loop-left-smaller
loop-left-smaller g c = left_falls _ _ _ c.lowest-v.ensures c.without-left.ensures
