use Rattle.sets.specs.Set.{size}
use Rattle.mycielski.proofs.FirstLoops.{Lacking}
use Rattle.mycielski.proofs.lacking.Given as goal

abbrev pub invariant-loop-live : goal.invariant-loop-live
invariant-loop-live g l =
    let b = g.S.Bits in
    Lacking b.cap (b.as_num l.live) (b.as_rows l.rows) (b.as_num l.initial.left) (b.as_num l.once) (b.as_num l.twice) (b.as_num l.left)

abbrev pub decreases-loop-live : goal.decreases-loop-live
decreases-loop-live g l = let b = g.S.Bits in size b.cap (b.as_num l.left)
