use mathlib.Core.Path.{◌≡◌}
use Prim.Native.Nat.{◌≤◌}
use Rattle.sets.specs.Lists.{members, over}
use Rattle.sets.specs.Set.{has, size}
use Rattle.graphs.specs.Acts.{lead, shared}
use Rattle.graphs.proofs.ChooseLaws.{sofar}
use Rattle.graphs.proofs.by_pairs.Given as goal

abbrev pub invariant-loop-left : goal.invariant-loop-left
invariant-loop-left l =
    (l.best.size ≤ l.top)
    × (over (lead (shared l.rows l.near) l.u) (sofar l.best l.u l.top l.at) (members (has l.left) 64) ≡ over (lead (shared l.rows l.near) l.u) l.best (members (has l.apart) 64))

abbrev pub decreases-loop-left : goal.decreases-loop-left
decreases-loop-left l = size 64 l.left
