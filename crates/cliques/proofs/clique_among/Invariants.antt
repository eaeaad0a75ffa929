use mathlib.Core.Path.{◌≡◌}
use Rattle.sets.specs.Set.{size}
use Rattle.graphs.specs.Held.{HeldAt, holding}
use Rattle.graphs.specs.declared.Node.{Node}
use Rattle.cliques.proofs.HuntLaws.{Hunt}
use Rattle.cliques.proofs.clique_among.Given as goal

abbrev pub invariant-loop-live : goal.invariant-loop-live
invariant-loop-live g l =
    let b = g.S.Bits in
    (l.most ≡ size b.cap (b.as_num l.best))
    × ((m : Node) → (k : HeldAt b.cap (holding (b.as_num l.live) (b.as_rows l.rows) m)) → Hunt (holding (b.as_num l.live) (b.as_rows l.rows) m) k (b.as_num l.free) (b.as_num l.best))

abbrev pub decreases-loop-live : goal.decreases-loop-live
decreases-loop-live g l = let b = g.S.Bits in size b.cap (b.as_num l.free)
