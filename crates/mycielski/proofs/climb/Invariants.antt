use mathlib.Core.Path.{◌≡◌}
use Prim.Native.Nat.{◌-◌}
use lib.ListN.{length}
use Rattle.graphs.specs.Held.{HeldAt, holding}
use Rattle.graphs.specs.declared.Node.{Node}
use Rattle.mycielski.specs.Words.{sub, part_of}
use Rattle.mycielski.proofs.ClimbLaws.{Climb}
use Rattle.mycielski.proofs.climb.Given as goal

abbrev pub invariant-loop-b : goal.invariant-loop-b
invariant-loop-b g l =
    let b = g.S.Bits in
    let live = b.as_num l.live in
    (length l.near ≡ b.lent) × (length l.fit ≡ b.lent)
    × ((m : Node) → (k : HeldAt b.cap (holding live (b.as_rows l.rows) m)) → Climb (holding live (b.as_rows l.rows) m) k (part_of (sub (b.as_num l.set) (b.as_rows l.near))) l.b)

abbrev pub decreases-loop-b : goal.decreases-loop-b
decreases-loop-b g l = l.enough - l.b
