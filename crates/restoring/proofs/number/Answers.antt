-- `restoring::number` meets its contract: the bytes below i are the groups of the entries below i, and next is how many they are. Assumes nothing.
use mathlib.Core.Path.{sym, ap, ◌∙◌, subst, subst₂}
use mathlib.Core.List.{List}
use Prim.Native.Nat.{ℕ, ◌+◌}
use native.Mathlib.Omega.{arith}
use Rattle.sets.specs.Set.{IsLowest}
use Rattle.clashes.specs.Divisions.{at}
use Rattle.removing.proofs.ShareLaws.{nobody}
use Rattle.restoring.proofs.SeatLaws.{Numbering, numbering_opens, numbering_joins, own_group}
use Rattle.restoring.proofs.number.Goals as goal
use Rattle.restoring.proofs.number.Goals.{then-w-i, else-w-i}

-- the entry is in its own group
pub lowest-w-requires : goal.lowest-w-requires
lowest-w-requires c e =
    let h = c.args.seats in
    let i = c.loop-i.i in
    let g = c.requires in
    nobody _ i (ap (at h.sets) (sym c.from.ensures) ∙ e) (own_group 64 c.args.n h.group h.sets g.sets i (omega arith) (g.below i (omega arith)))

pub loop-i-preserved : goal.loop-i-preserved
loop-i-preserved c =
    let h = c.args.seats in
    let l = c.loop-i in
    let g = c.requires in
    let w = c.lowest-w.result in
    let old = c.args.colours.now in
    let low : IsLowest 64 (at h.sets (at h.group l.i)) w = subst (λ (j : ℕ). IsLowest 64 (at h.sets j) w) c.from.ensures c.lowest-w.ensures in
    elim c.if-w-i.branch [
      | then-w-i b ↦
          subst₂ (λ (o : List ℕ) (m : ℕ). Numbering h.group old o m (l.i + 1)) (sym b.colours-is) (sym b.next-is)
          (numbering_opens 64 c.args.n h.group h.sets g.sets old l.colours l.next l.i w l.invariant (omega arith) (omega arith)
          (g.below l.i (omega arith)) low b.if-w-i.true)
      | else-w-i b ↦
          subst₂ (λ (o : List ℕ) (m : ℕ). Numbering h.group old o m (l.i + 1)) (sym b.colours-is) (sym b.next-is)
          (numbering_joins 64 c.args.n h.group h.sets g.sets old l.colours l.next l.i w l.invariant (omega arith) (omega arith)
          (g.below l.i (omega arith)) low b.if-w-i.false)
    ]
