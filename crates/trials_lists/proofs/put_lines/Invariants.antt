-- `trials_lists::put_lines` ends: each turn takes the reader nearer to the text's end. Assumes nothing.
use Rattle.std.proofs.Common.{◌-◌, length}
use Rattle.trials_lists.proofs.put_lines.Given as goal

abbrev pub decreases-loop-r : goal.decreases-loop-r
decreases-loop-r g l = length l.r.text.now - l.r.at
