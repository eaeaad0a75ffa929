use mathlib.Core.Path.{◌≡◌}
use Rattle.sets.specs.Lists.{members, over}
use Rattle.sets.specs.Set.{has, size}
use Rattle.wide.specs.Words.{num, rows_of}
use Rattle.graphs.specs.Acts.{lead, shared_at}
use Rattle.wide_pairs.proofs.by_pairs.Given as goal

abbrev pub invariant-loop-near : goal.invariant-loop-near
invariant-loop-near l =
    over (lead (shared_at 256 (rows_of 4 256 l.rows) (num l.near)) l.u) l.best (members (has (num l.left)) 256)
    ≡ over (lead (shared_at 256 (rows_of 4 256 l.rows) (num l.near)) l.u) l.initial.best (members (has (num l.initial.left)) 256)

abbrev pub decreases-loop-near : goal.decreases-loop-near
decreases-loop-near l = size 256 (num l.left)
