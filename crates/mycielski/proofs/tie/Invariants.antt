use mathlib.Core.Path.{◌≡◌}
use lib.ListN.{length}
use Rattle.sets.specs.Set.{size}
use Rattle.mycielski.proofs.EdgeLoops.{Tying}
use Rattle.mycielski.proofs.tie.Given as goal

abbrev pub invariant-loop-left : goal.invariant-loop-left
invariant-loop-left g l =
    let b = g.S.Bits in
    (length l.near ≡ b.lent) × Tying b.cap l.u (b.as_num l.initial.left) (b.as_rows l.initial.near) (b.as_rows l.near) (b.as_num l.left)

abbrev pub decreases-loop-left : goal.decreases-loop-left
decreases-loop-left g l = let b = g.S.Bits in size b.cap (b.as_num l.left)
