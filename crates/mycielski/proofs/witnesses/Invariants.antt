use lib.ListN.{get_or}
use Rattle.sets.specs.Set.{has, size}
use Rattle.graphs.specs.Held.{HeldAt, holding}
use Rattle.graphs.specs.declared.Node.{Node}
use Rattle.cliques.specs.Growth.{Within}
use Rattle.mycielski.proofs.WitnessLoops.{Witness}
use Rattle.mycielski.proofs.witnesses.Given as goal

abbrev pub invariant-loop-live : goal.invariant-loop-live
invariant-loop-live g l =
    let b = g.S.Bits in
    let live = b.as_num l.live in
    let set = b.as_num l.initial.left in
    (m : Node) → (k : HeldAt b.cap (holding live (b.as_rows l.rows) m)) → (i : Within set live)
    → Witness (holding live (b.as_rows l.rows) m) k set (λ x y. has (get_or (b.as_rows l.near) x 0) y) i live (b.as_num l.ws) (b.as_num l.left)

abbrev pub decreases-loop-live : goal.decreases-loop-live
decreases-loop-live g l = let b = g.S.Bits in size b.cap (b.as_num l.left)
