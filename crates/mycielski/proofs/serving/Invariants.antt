use Rattle.sets.specs.Set.{size}
use Rattle.graphs.specs.Held.{HeldAt, holding}
use Rattle.graphs.specs.declared.Node.{Node}
use Rattle.cliques.specs.Growth.{Within}
use Rattle.mycielski.proofs.SetLoops.{Serving}
use Rattle.mycielski.proofs.serving.Given as goal

abbrev pub invariant-loop-left : goal.invariant-loop-left
invariant-loop-left g l =
    let b = g.S.Bits in
    let live = b.as_num l.initial.s in
    let near = b.as_num l.initial.left in
    (m : Node) → (k : HeldAt b.cap (holding live (b.as_rows l.rows) m)) → Within near live
    → Serving (holding live (b.as_rows l.rows) m) k near (b.as_num l.s) (b.as_num l.left)

abbrev pub decreases-loop-left : goal.decreases-loop-left
decreases-loop-left g l = let b = g.S.Bits in size b.cap (b.as_num l.left)
