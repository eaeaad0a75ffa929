-- `trials_lists::texts` is safe and ends: each text starts after the place where its line was looked for. Assumes nothing.
use Rattle.std.proofs.Common.{◌-◌, ◌≤◌, length}
use Rattle.trials_lists.proofs.texts.Given as goal

abbrev pub invariant-loop-at : goal.invariant-loop-at
invariant-loop-at g l = l.at ≤ length l.file

abbrev pub decreases-loop-at : goal.decreases-loop-at
decreases-loop-at g l = length l.file - l.at
