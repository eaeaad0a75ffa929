-- `trials_wide::lists` is safe and ends: each list starts after the one before it. Assumes nothing.
use Rattle.std.proofs.Common.{◌≤◌, ◌-◌, length}
use Rattle.trials_wide.proofs.lists.Given as goal

abbrev pub invariant-loop-at : goal.invariant-loop-at
invariant-loop-at g l = l.at ≤ length l.file

abbrev pub decreases-loop-at : goal.decreases-loop-at
decreases-loop-at g l = length l.file - l.at
