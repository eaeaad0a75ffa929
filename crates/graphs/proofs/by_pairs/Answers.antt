-- `graphs::by_pairs` meets its contract: what leads so far, and the vertices that are left, give what all give. Assumes nothing.
use mathlib.Core.Path.{sym, ap, ◌∙◌}
use Prim.Native.Nat.{◌+◌}
use native.Mathlib.Omega.{arith}
use Rattle.sets.specs.Lists.{members, over}
use Rattle.sets.specs.Set.{has}
use Rattle.graphs.specs.Acts.{lead, shared}
use Rattle.graphs.specs.declared.Lead.{Lead}
use Rattle.graphs.proofs.LoopLaws.{size_le, left_falls, over_next, over_none}
use Rattle.graphs.proofs.ChooseLaws.{lead_taken, lead_kept, sofar, sofar_more, sofar_same, sofar_size}
use Rattle.graphs.proofs.by_pairs.Goals as goal

pub loop-left-init : goal.loop-left-init
loop-left-init c =
    let a = c.args in (
      omega arith,
      ap (λ (l : Lead). over (lead (shared a.rows.now a.near) a.u) l (members (has a.apart) 64))
          (sofar_same a.best a.u a.best.size a.best.v (omega arith)),
    )

pub overflow_add-common : goal.overflow_add-common
overflow_add-common c = omega (arith, c.size-common.ensures, size_le 64 c.meet.result)

pub loop-left-smaller-then-top-common : goal.loop-left-smaller-then-top-common
loop-left-smaller-then-top-common c =
    let low = c.lowest-v in
    let gone = c.rest-left in
    left_falls _ _ _ low.ensures (gone.ensures _ low.ensures)

pub loop-left-preserved-then-top-common : goal.loop-left-preserved-then-top-common
loop-left-preserved-then-top-common c =
    let a = c.args in
    let l = c.loop-left in
    let v = c.lowest-v in
    let r = c.rest-left in
    let m = c.meet in
    let k = c.size-common in
    let s = sofar_size a.best a.u l.top l.at l.invariant.0 in (
      omega (arith, l.invariant.0),
      over_next (lead (shared a.rows.now a.near) a.u) (sofar a.best a.u l.top l.at) _ l.left v.result r.result v.ensures
          (r.ensures v.result v.ensures)
          (sofar_more a.best a.u (k.result + 1) v.result (omega (arith, l.invariant.0))
          ∙ lead_taken 64 a.rows.now a.near a.u v.result m.result k.result (sofar a.best a.u l.top l.at) m.ensures
          k.ensures (omega (arith, s)))
          ∙ l.invariant.1,
    )

pub loop-left-smaller : goal.loop-left-smaller
loop-left-smaller c =
    let low = c.lowest-v in
    let gone = c.rest-left in
    left_falls _ _ _ low.ensures (gone.ensures _ low.ensures)

pub loop-left-preserved : goal.loop-left-preserved
loop-left-preserved c =
    let a = c.args in
    let l = c.loop-left in
    let v = c.lowest-v in
    let r = c.rest-left in
    let m = c.meet in
    let k = c.size-common in
    let s = sofar_size a.best a.u l.top l.at l.invariant.0 in (
      omega (arith, l.invariant.0),
      over_next (lead (shared a.rows.now a.near) a.u) (sofar a.best a.u l.top l.at) _ l.left v.result r.result v.ensures
          (r.ensures v.result v.ensures)
          (lead_kept 64 a.rows.now a.near a.u v.result m.result k.result (sofar a.best a.u l.top l.at) m.ensures
          k.ensures (omega (arith, s)))
          ∙ l.invariant.1,
    )

pub returns-then-best-top : goal.returns-then-best-top
returns-then-best-top c =
    let l = c.loop-left in
    let a = c.args in
    sym (sofar_more a.best a.u l.top l.at c.if-best-top.true)
    ∙ sym (over_none 64 (lead (shared a.rows.now a.near) a.u) (sofar a.best a.u l.top l.at) l.left
    c.loop-left-test.false) ∙ l.invariant.1

pub returns : goal.returns
returns c =
    let l = c.loop-left in
    let a = c.args in
    sym (sofar_same a.best a.u l.top l.at c.if-best-top.false)
    ∙ sym (over_none 64 (lead (shared a.rows.now a.near) a.u) (sofar a.best a.u l.top l.at) l.left
    c.loop-left-test.false) ∙ l.invariant.1
