use mathlib.Core.Path.{◌≡◌}
use lib.Dec.{T}
use lib.ListN.{length}
use Rattle.sets.specs.Set.{size}
use Rattle.graphs.specs.Held.{view, HeldAt, holding}
use Rattle.graphs.specs.declared.Node.{Node}
use Rattle.cliques.specs.Growth.{Within}
use Rattle.mycielski.specs.Rounds.{of_w_lem}
use Rattle.mycielski.specs.Words.{sub, part_of, Among}
use Rattle.mycielski.proofs.RoundLoops.{Extending}
use Rattle.mycielski.proofs.extended.Given as goal

abbrev pub invariant-members : goal.invariant-members
invariant-members g l =
    let b = g.S.Bits in
    let live = b.as_num l.fn.live in
    let p = sub (b.as_num l.fn.set) (b.as_rows l.old) in
    Within (b.as_num l.left) p.set × (length l.near ≡ b.lent)
    × ((m : Node) → (k : HeldAt b.cap (holding live (b.as_rows l.rows) m)) → (i : Among live p)
    → (t : T (of_w_lem m.n (view (holding live (b.as_rows l.rows) m)) (part_of p) l.w))
    → Extending (holding live (b.as_rows l.rows) m) k p i l.w t (sub (b.as_num l.next) (b.as_rows l.near)) (b.as_num l.left))

abbrev pub decreases-members : goal.decreases-members
decreases-members g l = let b = g.S.Bits in size b.cap (b.as_num l.left)
