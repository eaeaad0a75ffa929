-- `cliques::clique_among` meets its contract. The loop's invariant: the best so far, against what the free vertices will open, gives the clique; most
-- is its size. The measure: how many vertices are free. Assumes nothing.
use mathlib.Core.Path.{sym, ap, ◌∙◌, subst}
use mathlib.Core.Logic.{inl, inr}
use native.Mathlib.Nat.{le_trans, le_of_eq}
use native.Mathlib.Omega.{arith}
use Rattle.sets.specs.Set.{size}
use Rattle.graphs.specs.Held.{view, holding}
use Rattle.cliques.specs.Growth.{opening, in_numbers}
use Rattle.cliques.proofs.WordLaws.{size_none}
use Rattle.cliques.proofs.HuntLaws.{Hunt, hunt_start, hunt_end, hunt_size, hunt_less, near_live, hunt_new, hunt_old, hunt_skip}
use Rattle.cliques.proofs.clique_among.Goals as goal

pub loop-live-init : goal.loop-live-init
loop-live-init g c =
    let b = g.S.Bits in
    let none = c.none-best in (
      sym (ap (size b.cap) none.ensures ∙ size_none b.cap),
      λ m k.
          let h = holding (b.as_num c.args.live) (b.as_rows c.args.rows.now) m in
          subst (λ z. Hunt h k (b.as_num c.args.live) z) (sym none.ensures) (hunt_start h k),
    )

pub opened-c-requires-clause-t : goal.opened-c-requires-clause-t
opened-c-requires-clause-t g c =
    let q = c.requires.holds in
    (c.loop-live.invariant.1 q.0 q.1).free_live c.lowest-s.result c.lowest-s.ensures.member

pub grow-d-requires-clause-by_index : goal.grow-d-requires-clause-by_index
grow-d-requires-clause-by_index g c =
    let b = g.S.Bits in
    let q = c.requires.holds in
    let o = c.opened-c in
    let h = holding (b.as_num c.args.live) (b.as_rows c.args.rows.now) q.0 in
    (b.as_num c.args.live, near_live h q.1 (opening h.n (view h) c.lowest-s.result) (in_numbers b.as_num o.result) (o.ensures q.0 q.1), q)

pub returns-then-enough-most : goal.returns-then-enough-most
returns-then-enough-most g c =
    let b = g.S.Bits in
    let l = c.loop-live in
    let low = c.lowest-s in
    let o = c.opened-c in
    let cut = c.less-free in
    let d = c.grow-d in
    let sized = c.size-members in
    λ m k.
    let h = holding (b.as_num c.args.live) (b.as_rows c.args.rows.now) m in
    let near = near_live h k (opening h.n (view h) low.result) (in_numbers b.as_num o.result) (o.ensures m k) in
    let i = hunt_new h k (b.as_num l.free) (b.as_num l.best) low.result (b.as_num cut.result) (in_numbers b.as_num o.result)
    (l.invariant.1 m k) low.ensures (o.ensures m k) cut.ensures
    (in_numbers b.as_num d.result) (d.ensures (b.as_num c.args.live) near m k) (omega (arith, l.invariant.0, c.if-most-members.true, sized.ensures)) in
    inr (le_trans c.if-enough-most.true (le_of_eq sized.ensures), hunt_size h k (b.as_num cut.result) (b.as_num d.result.set) i)

pub loop-live-smaller-else-enough-most : goal.loop-live-smaller-else-enough-most
loop-live-smaller-else-enough-most g c =
    let b = g.S.Bits in
    let l = c.loop-live in
    let low = c.lowest-s in
    let o = c.opened-c in
    let cut = c.less-free in
    let q = c.requires.holds in
    hunt_less (holding (b.as_num c.args.live) (b.as_rows c.args.rows.now) q.0) q.1 (b.as_num l.free) (b.as_num l.best) low.result
    (b.as_num cut.result) (in_numbers b.as_num o.result) (l.invariant.1 q.0 q.1) low.ensures (o.ensures q.0 q.1) cut.ensures

pub loop-live-preserved-else-enough-most : goal.loop-live-preserved-else-enough-most
loop-live-preserved-else-enough-most g c =
    let b = g.S.Bits in
    let l = c.loop-live in
    let low = c.lowest-s in
    let o = c.opened-c in
    let cut = c.less-free in
    let d = c.grow-d in
    let sized = c.size-members in (
      sized.ensures,
      λ m k.
          let h = holding (b.as_num c.args.live) (b.as_rows c.args.rows.now) m in
          let near = near_live h k (opening h.n (view h) low.result) (in_numbers b.as_num o.result) (o.ensures m k) in
          hunt_new h k (b.as_num l.free) (b.as_num l.best) low.result (b.as_num cut.result) (in_numbers b.as_num o.result)
          (l.invariant.1 m k) low.ensures (o.ensures m k) cut.ensures
          (in_numbers b.as_num d.result) (d.ensures (b.as_num c.args.live) near m k) (omega (arith, l.invariant.0, c.if-most-members.true, sized.ensures)),
    )

pub loop-live-smaller-else-most-members : goal.loop-live-smaller-else-most-members
loop-live-smaller-else-most-members g c =
    let b = g.S.Bits in
    let l = c.loop-live in
    let low = c.lowest-s in
    let o = c.opened-c in
    let cut = c.less-free in
    let q = c.requires.holds in
    hunt_less (holding (b.as_num c.args.live) (b.as_rows c.args.rows.now) q.0) q.1 (b.as_num l.free) (b.as_num l.best) low.result
    (b.as_num cut.result) (in_numbers b.as_num o.result) (l.invariant.1 q.0 q.1) low.ensures (o.ensures q.0 q.1) cut.ensures

pub loop-live-preserved-else-most-members : goal.loop-live-preserved-else-most-members
loop-live-preserved-else-most-members g c =
    let b = g.S.Bits in
    let l = c.loop-live in
    let low = c.lowest-s in
    let o = c.opened-c in
    let cut = c.less-free in
    let d = c.grow-d in
    let sized = c.size-members in (
      l.invariant.0,
      λ m k.
          let h = holding (b.as_num c.args.live) (b.as_rows c.args.rows.now) m in
          let near = near_live h k (opening h.n (view h) low.result) (in_numbers b.as_num o.result) (o.ensures m k) in
          hunt_old h k (b.as_num l.free) (b.as_num l.best) low.result (b.as_num cut.result) (in_numbers b.as_num o.result)
          (l.invariant.1 m k) low.ensures (o.ensures m k) cut.ensures
          (in_numbers b.as_num d.result) (d.ensures (b.as_num c.args.live) near m k) (omega (arith, l.invariant.0, c.if-most-members.false, sized.ensures)),
    )

pub loop-live-smaller : goal.loop-live-smaller
loop-live-smaller g c =
    let b = g.S.Bits in
    let l = c.loop-live in
    let low = c.lowest-s in
    let o = c.opened-c in
    let cut = c.less-free in
    let q = c.requires.holds in
    hunt_less (holding (b.as_num c.args.live) (b.as_rows c.args.rows.now) q.0) q.1 (b.as_num l.free) (b.as_num l.best) low.result
    (b.as_num cut.result) (in_numbers b.as_num o.result) (l.invariant.1 q.0 q.1) low.ensures (o.ensures q.0 q.1) cut.ensures

pub loop-live-preserved : goal.loop-live-preserved
loop-live-preserved g c =
    let b = g.S.Bits in
    let l = c.loop-live in
    let low = c.lowest-s in
    let o = c.opened-c in
    let cut = c.less-free in
    let both = c.join in (
      l.invariant.0,
      λ m k.
          hunt_skip (holding (b.as_num c.args.live) (b.as_rows c.args.rows.now) m) k (b.as_num l.free) (b.as_num l.best) low.result
          (b.as_num cut.result) (in_numbers b.as_num o.result) (l.invariant.1 m k) low.ensures (o.ensures m k) cut.ensures
          (b.as_num both.result) both.ensures (omega (arith, l.invariant.0, c.if-most-size.false, c.size.ensures)),
    )

pub returns : goal.returns
returns g c =
    let b = g.S.Bits in
    let l = c.loop-live in
    λ m k.
    let h = holding (b.as_num c.args.live) (b.as_rows c.args.rows.now) m in
    inl (hunt_end h k (b.as_num l.best) (subst (λ f. Hunt h k f (b.as_num l.best)) (c.is_empty.ensures.0 c.loop-live-test.false) (l.invariant.1 m k)))
