use Prim.Native.Nat.{ℕ}
use Rattle.sets.specs.Set.{size}
use Rattle.graphs.specs.Held.{HeldAt, holding}
use Rattle.graphs.specs.declared.Node.{Node}
use Rattle.cliques.specs.Growth.{Within}
use Rattle.mycielski.proofs.SetLoops.{Reached}
use Rattle.mycielski.proofs.reached.Given as goal

abbrev pub invariant-loop-left : goal.invariant-loop-left
invariant-loop-left g l =
    let b = g.S.Bits in
    let s = b.as_num l.initial.left in
    (live : ℕ) (m : Node) → (k : HeldAt b.cap (holding live (b.as_rows l.rows) m)) → Within s live
    → Reached (holding live (b.as_rows l.rows) m) k s (b.as_num l.r) (b.as_num l.left)

abbrev pub decreases-loop-left : goal.decreases-loop-left
decreases-loop-left g l = let b = g.S.Bits in size b.cap (b.as_num l.left)
