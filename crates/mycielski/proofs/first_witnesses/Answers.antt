-- `mycielski::first_witnesses` meets its contract. The loop's invariant: ws has the vertices that are adjacent, for each v that is done, to some member
-- of S(v). The measure: what is left. Assumes nothing.
use mathlib.Core.Path.{ap, ◌∙◌, subst}
use Prim.Native.Nat.{ℕ, ◌-◌, ◌^◌}
use lib.Bits.{bit_and}
use lib.Dec.{T, leb}
use Rattle.sets.specs.Set.{has, IsMeet}
use Rattle.sets.proofs.TestLaws.{and_l}
use Rattle.sets.proofs.SetLaws.{without_is}
use Rattle.graphs.specs.Held.{holding}
use Rattle.graphs.proofs.LoopLaws.{left_falls}
use Rattle.mycielski.specs.Rounds.{every_edge}
use Rattle.mycielski.specs.Words.{misses}
use Rattle.mycielski.proofs.DoneLaws.{within_again}
use Rattle.mycielski.proofs.WitnessLoops.{serving_live, Witness, witness_start, witness_more, witness_end, witness_none}
use Rattle.mycielski.proofs.FirstLoops.{first_serving, outside_among}
use Rattle.mycielski.proofs.first_witnesses.Goals as goal

pub outside-ws-requires : goal.outside-ws-requires
outside-ws-requires g c =
    let b = g.S.Bits in
    let a = c.args in
    λ x t. and_l (has (b.as_num a.live) x) (leb 1 (misses b.cap (b.as_rows a.rows.now) (b.as_num a.c) x)) (subst T (c.lacking-lack.ensures.once x) t)

pub loop-lack-init : goal.loop-lack-init
loop-lack-init g c =
    let b = g.S.Bits in
    let a = c.args in
    let members = b.as_num a.c in (
      λ x t. t,
      λ m k i. witness_start (holding (b.as_num a.live) (b.as_rows a.rows.now) m) k members (every_edge (has members)).edge i (b.as_num c.outside-ws.result),
    )

pub returns-then-is_empty : goal.returns-then-is_empty
returns-then-is_empty g c =
    let b = g.S.Bits in
    let a = c.args in
    let l = c.loop-lack in
    let v = c.lowest-v in
    let from = c.outside-ws in
    let lack = c.lacking-lack in
    let members = b.as_num a.c in
    let e = (every_edge (has members)).edge in
    let met = subst (λ x. IsMeet (b.as_num lack.result.once) x (b.as_num c.meet.result)) c.row.ensures c.meet.ensures in
    let i = c.requires.within in
    let left = b.as_num l.left in
    let next = left - bit_and left (2 ^ v.result) in
    λ m k x.
    let h = holding (b.as_num a.live) (b.as_rows a.rows.now) m in
    let s = first_serving h k members i _ lack.ensures v.result (b.as_num c.less-few.result) (b.as_num c.meet.result) (b.as_num c.less-s.result)
    (l.invariant.0 v.result v.ensures.member) c.less-few.ensures met c.less-s.ensures in
    let more = witness_more h k members e i (b.as_num from.result) from.ensures.within (b.as_num l.ws) (b.as_num l.left) v.result (b.as_num c.less-s.result)
    (b.as_num c.reached.result) (b.as_num c.meet-ws.result) next (l.invariant.1 m k i) v.ensures s
    (c.reached.ensures (b.as_num a.live) (serving_live h k members e i v.result (b.as_num c.less-s.result) s) m k) c.meet-ws.ensures (without_is left v.result) in
    ap (λ (z : ℕ). has z x) (c.is_empty-in-loop-lack.ensures.0 c.if-is_empty.true)
    ∙ witness_none h k members e i (b.as_num from.result) from.ensures.within
    (outside_among h k members i _ lack.ensures (b.as_num from.result) from.ensures) next
    (subst (λ w. Witness h k members e i (b.as_num from.result) w next) (c.is_empty-in-loop-lack.ensures.0 c.if-is_empty.true) more) x

pub loop-lack-smaller : goal.loop-lack-smaller
loop-lack-smaller g c = let low = c.lowest-v in left_falls _ _ _ low.ensures (c.rest-left.ensures low.result low.ensures)

pub loop-lack-preserved : goal.loop-lack-preserved
loop-lack-preserved g c =
    let b = g.S.Bits in
    let a = c.args in
    let l = c.loop-lack in
    let v = c.lowest-v in
    let from = c.outside-ws in
    let lack = c.lacking-lack in
    let members = b.as_num a.c in
    let e = (every_edge (has members)).edge in
    let met = subst (λ x. IsMeet (b.as_num lack.result.once) x (b.as_num c.meet.result)) c.row.ensures c.meet.ensures in
    let out = c.rest-left.ensures v.result v.ensures in (
      within_again members (b.as_num l.left) v.result (b.as_num c.rest-left.result) l.invariant.0 v.ensures out,
      λ m k i.
          let h = holding (b.as_num a.live) (b.as_rows a.rows.now) m in
          let s = first_serving h k members i _ lack.ensures v.result (b.as_num c.less-few.result) (b.as_num c.meet.result) (b.as_num c.less-s.result)
          (l.invariant.0 v.result v.ensures.member) c.less-few.ensures met c.less-s.ensures in
          witness_more h k members e i (b.as_num from.result) from.ensures.within (b.as_num l.ws) (b.as_num l.left) v.result (b.as_num c.less-s.result)
          (b.as_num c.reached.result) (b.as_num c.meet-ws.result) (b.as_num c.rest-left.result) (l.invariant.1 m k i) v.ensures s
          (c.reached.ensures (b.as_num a.live) (serving_live h k members e i v.result (b.as_num c.less-s.result) s) m k) c.meet-ws.ensures out,
    )

pub returns : goal.returns
returns g c =
    let b = g.S.Bits in
    let a = c.args in
    let l = c.loop-lack in
    let from = c.outside-ws in
    let members = b.as_num a.c in
    let i = c.requires.within in
    λ m k.
    let h = holding (b.as_num a.live) (b.as_rows a.rows.now) m in
    let e = (every_edge (has members)).edge in
    witness_end h k members e i (b.as_num from.result) from.ensures.within
    (outside_among h k members i _ c.lacking-lack.ensures (b.as_num from.result) from.ensures) (b.as_num l.ws)
    (subst (λ q. Witness h k members e i (b.as_num from.result) (b.as_num l.ws) q) (c.is_empty.ensures.0 c.loop-lack-test.false) (l.invariant.1 m k i))
