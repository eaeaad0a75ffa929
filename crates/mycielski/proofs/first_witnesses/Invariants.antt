use Rattle.sets.specs.Set.{has, size}
use Rattle.graphs.specs.Held.{HeldAt, holding}
use Rattle.graphs.specs.declared.Node.{Node}
use Rattle.cliques.specs.Growth.{Within}
use Rattle.mycielski.specs.Rounds.{every_edge}
use Rattle.mycielski.proofs.WitnessLoops.{Witness}
use Rattle.mycielski.proofs.first_witnesses.Given as goal

abbrev pub invariant-loop-lack : goal.invariant-loop-lack
invariant-loop-lack g l =
    let b = g.S.Bits in
    let live = b.as_num l.fn.live in
    let c = b.as_num l.fn.c in
    Within (b.as_num l.left) c
    × ((m : Node) → (k : HeldAt b.cap (holding live (b.as_rows l.rows) m)) → (i : Within c live)
    → Witness (holding live (b.as_rows l.rows) m) k c (every_edge (has c)).edge i (b.as_num l.initial.ws) (b.as_num l.ws) (b.as_num l.left))

abbrev pub decreases-loop-lack : goal.decreases-loop-lack
decreases-loop-lack g l = let b = g.S.Bits in size b.cap (b.as_num l.left)
