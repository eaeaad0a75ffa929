use mathlib.Core.Path.{◌≡◌}
use lib.ListN.{length}
use Rattle.sets.specs.Set.{has, size}
use Rattle.graphs.specs.Held.{view, HeldAt, holding}
use Rattle.graphs.specs.declared.Node.{Node}
use Rattle.cliques.specs.Growth.{Within}
use Rattle.mycielski.specs.Rounds.{every_edge, near_all}
use Rattle.mycielski.proofs.FitLoops.{Fitting}
use Rattle.mycielski.proofs.first_servings.Given as goal

abbrev pub invariant-loop-lack : goal.invariant-loop-lack
invariant-loop-lack g l =
    let b = g.S.Bits in
    let c = b.as_num l.fn.c in
    Within (b.as_num l.left) c × (length l.fit ≡ b.lent)
    × ((m : Node) → HeldAt b.cap (holding (b.as_num l.fn.live) (b.as_rows l.rows) m)
    → Fitting b.cap c (λ v. near_all m.n (view (holding (b.as_num l.fn.live) (b.as_rows l.rows) m)) ((every_edge (has c)).edge v)) (b.as_rows l.fit) (b.as_num l.left))

abbrev pub decreases-loop-lack : goal.decreases-loop-lack
decreases-loop-lack g l = let b = g.S.Bits in size b.cap (b.as_num l.left)
