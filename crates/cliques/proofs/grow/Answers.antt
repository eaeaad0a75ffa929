-- `cliques::grow` meets its contract. The loop's invariant: what is left to grow, from here, gives the whole's answer. The measure: the rest's size.
-- Assumes nothing.
use mathlib.Core.Path.{subst}
use Rattle.sets.specs.Set.{IsMeet}
use Rattle.graphs.specs.Held.{holding}
use Rattle.cliques.specs.Growth.{in_numbers}
use Rattle.cliques.proofs.WordLaws.{Turn, turn_less, turn_again, turn_end}
use Rattle.cliques.proofs.grow.Goals as goal

pub loop-rest-smaller : goal.loop-rest-smaller
loop-rest-smaller g c =
    let b = g.S.Bits in
    let l = c.loop-rest in
    let low = c.lowest-v in
    let q = c.requires.by_index in
    let met = subst (λ x. IsMeet (b.as_num l.near) x (b.as_num c.meet-near.result)) c.row-row.ensures c.meet-near.ensures in
    let rest = subst (λ x. IsMeet (b.as_num l.rest) x (b.as_num c.meet-rest.result)) c.row-row.ensures c.meet-rest.ensures in
    turn_less (holding q.0 (b.as_rows c.args.rows.now) q.2.0) q.2.1 (in_numbers b.as_num c.args.c) (b.as_num c.args.left)
    (in_numbers b.as_num (record { set = l.set; near = l.near })) (b.as_num l.rest) low.result
    (b.as_num c.with-set.result) (b.as_num c.meet-near.result) (b.as_num c.meet-rest.result)
    (l.invariant q.0 q.2.0 q.2.1 c.requires.within q.1) low.ensures c.with-set.ensures met rest

pub loop-rest-preserved : goal.loop-rest-preserved
loop-rest-preserved g c =
    let b = g.S.Bits in
    let l = c.loop-rest in
    let met = subst (λ x. IsMeet (b.as_num l.near) x (b.as_num c.meet-near.result)) c.row-row.ensures c.meet-near.ensures in
    let rest = subst (λ x. IsMeet (b.as_num l.rest) x (b.as_num c.meet-rest.result)) c.row-row.ensures c.meet-rest.ensures in
    λ v m k p q.
    turn_again (holding v (b.as_rows c.args.rows.now) m) k (in_numbers b.as_num c.args.c) (b.as_num c.args.left)
    (in_numbers b.as_num (record { set = l.set; near = l.near })) (b.as_num l.rest) c.lowest-v.result
    (b.as_num c.with-set.result) (b.as_num c.meet-near.result) (b.as_num c.meet-rest.result)
    (l.invariant v m k p q) c.lowest-v.ensures c.with-set.ensures met rest

pub returns : goal.returns
returns g c =
    let b = g.S.Bits in
    let l = c.loop-rest in
    λ v w m k.
    let h = holding v (b.as_rows c.args.rows.now) m in
    let d = in_numbers b.as_num (record { set = l.set; near = l.near }) in
    turn_end h k (in_numbers b.as_num c.args.c) (b.as_num c.args.left) d
    (subst (λ r. Turn h k (in_numbers b.as_num c.args.c) (b.as_num c.args.left) d r) (c.is_empty.ensures.0 c.loop-rest-test.false)
    (l.invariant v m k c.requires.within w))
