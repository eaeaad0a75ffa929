use mathlib.Core.Path.{◌≡◌}
use lib.ListN.{length}
use Rattle.sets.specs.Set.{size}
use Rattle.mycielski.proofs.EdgeLoops.{Joining}
use Rattle.mycielski.proofs.whole.Given as goal

abbrev pub invariant-loop-c : goal.invariant-loop-c
invariant-loop-c g l = let b = g.S.Bits in (length l.near ≡ b.lent) × Joining b.cap (b.as_num l.c) (b.as_rows l.near) (b.as_num l.left)

abbrev pub decreases-loop-c : goal.decreases-loop-c
decreases-loop-c g l = let b = g.S.Bits in size b.cap (b.as_num l.left)
