use mathlib.Core.Path.{◌≡◌}
use lib.ListN.{length, get_or}
use Rattle.sets.specs.Set.{has, size}
use Rattle.graphs.specs.Held.{view, HeldAt, holding}
use Rattle.graphs.specs.declared.Node.{Node}
use Rattle.mycielski.specs.Rounds.{near_all}
use Rattle.mycielski.proofs.FitLoops.{Fitting}
use Rattle.mycielski.proofs.servings.Given as goal

abbrev pub invariant-loop-live : goal.invariant-loop-live
invariant-loop-live g l =
    let b = g.S.Bits in
    (length l.fit ≡ b.lent)
    × ((m : Node) → HeldAt b.cap (holding (b.as_num l.live) (b.as_rows l.rows) m)
    → Fitting b.cap (b.as_num l.initial.left) (λ v. near_all m.n (view (holding (b.as_num l.live) (b.as_rows l.rows) m)) (has (get_or (b.as_rows l.near) v 0)))
    (b.as_rows l.fit) (b.as_num l.left))

abbrev pub decreases-loop-live : goal.decreases-loop-live
decreases-loop-live g l = let b = g.S.Bits in size b.cap (b.as_num l.left)
