-- `restoring::seated` meets its contract: who is not left is in its group. Assumes nothing.
use mathlib.Core.Path.{◌≡◌, refl, ◌∙◌, subst}
use Prim.Native.Nat.{ℕ, ◌<◌}
use native.Mathlib.Omega.{arith}
use lib.ListN.{length-take}
use lib.Seq.{get_or-take}
use Rattle.clashes.specs.Divisions.{at}
use Rattle.graphs.proofs.LoopLaws.{size_le}
use Rattle.restoring.proofs.TurnLaws.{turned_some}
use Rattle.restoring.proofs.SeatLaws.{sitting_start, sitting_next, sitting_end}
use Rattle.restoring.specs.Seats.{Joined}
use Rattle.restoring.proofs.seated.Goals as goal
use Rattle.restoring.proofs.seated.Goals.{After-from}

-- the colour of who has its turn
own : (c : After-from) → (c.from.result ≡ at c.args.c c.loop-colour.colour-index) × (c.from.result < 64)
own c =
    let i = c.loop-colour.colour-index in
    let b : i < c.size.result = omega (arith, length-take {A = ℕ}) in
    let e : c.from.result ≡ at c.args.c i = c.from.ensures ∙ get_or-take c.size.result c.args.c i 0 b in
    (e, omega (arith, e, c.requires i (omega (arith, c.size.ensures))))

pub slice_bounds-c-end : goal.slice_bounds-c-end
slice_bounds-c-end c = omega (arith, c.size.ensures, size_le 64 c.args.present)

pub slice_bounds-colour-items-end : goal.slice_bounds-colour-items-end
slice_bounds-colour-items-end c = omega (arith, length-take {A = ℕ}, c.size.ensures, size_le 64 c.args.present)

pub loop-colour-init : goal.loop-colour-init
loop-colour-init c = sitting_start 64 c.args.present c.args.c c.args.many _ refl refl

pub lowest-requires : goal.lowest-requires
lowest-requires c = let l = c.loop-colour in turned_some 64 c.args.present l.left l.colour-index l.invariant.turned (omega (arith, length-take {A = ℕ}, c.size.ensures))

pub join-requires : goal.join-requires
join-requires c = (c.lowest.ensures.below, (own (goal.at.join-requires c).After-from).1)

pub loop-colour-preserved : goal.loop-colour-preserved
loop-colour-preserved c =
    let a = c.args in
    let l = c.loop-colour in
    let low = c.lowest in
    let o = own (goal.at.loop-colour-preserved c).After-from in
    sitting_next 64 a.present a.c a.many l.seats c.join.new.self l.left l.colour-index low.result c.rest-left.result l.invariant low.ensures (c.rest-left.ensures low.result low.ensures)
    (omega (arith, o.0, o.1)) (subst (λ (j : ℕ). Joined low.result j l.seats c.join.new.self) o.0 c.join.ensures)

pub returns : goal.returns
returns c =
    let a = c.args in
    let l = c.loop-colour in
    sitting_end 64 a.present a.c a.many l.seats l.left l.colour-index l.invariant (omega (arith, length-take {A = ℕ}, c.size.ensures, size_le 64 a.present)) (omega arith)
