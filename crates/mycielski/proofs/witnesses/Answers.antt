-- `mycielski::witnesses` meets its contract. The loop's invariant: ws has the vertices that are adjacent, for each v that is done, to some member of
-- S(v). The measure: what is left. Assumes nothing.
use mathlib.Core.Path.{◌≡◌, ap, ◌∙◌, subst}
use mathlib.Core.Bool.{Bool}
use Prim.Native.Nat.{ℕ, ◌-◌, ◌^◌}
use lib.Bits.{bit_and}
use lib.Dec.{T}
use lib.ListN.{get_or}
use Rattle.sets.specs.Set.{has}
use Rattle.sets.proofs.SetLaws.{without_is}
use Rattle.graphs.proofs.LoopLaws.{left_falls}
use Rattle.graphs.specs.Held.{view, holding}
use Rattle.mycielski.specs.Rounds.{near_all}
use Rattle.mycielski.proofs.WitnessLoops.{live_among, serving_live, Witness, witness_start, witness_more, witness_end, witness_none}
use Rattle.mycielski.proofs.witnesses.Goals as goal

pub loop-live-init : goal.loop-live-init
loop-live-init g c =
    let b = g.S.Bits in
    let a = c.args in
    λ m k i.
    witness_start (holding (b.as_num a.live) (b.as_rows a.rows.now) m) k (b.as_num a.set) (λ x y. has (get_or (b.as_rows a.near.now) x 0) y) i (b.as_num a.live)

pub serving-s-requires-clause-within : goal.serving-s-requires-clause-within
serving-s-requires-clause-within g c = λ x t. c.requires.among.ends c.lowest-v.result x (subst (λ s. T (has s x)) c.row.ensures t)

pub returns-then-is_empty : goal.returns-then-is_empty
returns-then-is_empty g c =
    let b = g.S.Bits in
    let a = c.args in
    let l = c.loop-live in
    let v = c.lowest-v in
    let set = b.as_num a.set in
    let sv = b.as_num c.serving-s.result in
    let i = c.requires.among.verts in
    let left = b.as_num l.left in
    let next = left - bit_and left (2 ^ v.result) in
    λ m k x.
    let h = holding (b.as_num a.live) (b.as_rows a.rows.now) m in
    let e : ℕ → ℕ → Bool = λ x y. has (get_or (b.as_rows a.near.now) x 0) y in
    let is : (x : ℕ) → has sv x ≡ near_all m.n (view h) (e v.result) x =
    λ x. c.serving-s.ensures m k x ∙ ap (λ (z : ℕ). near_all m.n (view h) (has z) x) c.row.ensures in
    let more = witness_more h k set e i (b.as_num a.live) (λ x t. t) (b.as_num l.ws) (b.as_num l.left) v.result sv (b.as_num c.reached.result)
    (b.as_num c.meet-ws.result) next (l.invariant m k i) v.ensures is
    (c.reached.ensures (b.as_num a.live) (serving_live h k set e i v.result sv is) m k) c.meet-ws.ensures (without_is left v.result) in
    ap (λ (z : ℕ). has z x) (c.is_empty-in-loop-live.ensures.0 c.if-is_empty.true)
    ∙ witness_none h k set e i (b.as_num a.live) (λ x t. t) (live_among h k set e i) next
    (subst (λ w. Witness h k set e i (b.as_num a.live) w next) (c.is_empty-in-loop-live.ensures.0 c.if-is_empty.true) more) x

pub loop-live-smaller : goal.loop-live-smaller
loop-live-smaller g c = let low = c.lowest-v in left_falls _ _ _ low.ensures (c.rest-left.ensures low.result low.ensures)

pub loop-live-preserved : goal.loop-live-preserved
loop-live-preserved g c =
    let b = g.S.Bits in
    let a = c.args in
    let l = c.loop-live in
    let v = c.lowest-v in
    let set = b.as_num a.set in
    let sv = b.as_num c.serving-s.result in
    λ m k i.
    let h = holding (b.as_num a.live) (b.as_rows a.rows.now) m in
    let e : ℕ → ℕ → Bool = λ x y. has (get_or (b.as_rows a.near.now) x 0) y in
    let is : (x : ℕ) → has sv x ≡ near_all m.n (view h) (e v.result) x =
    λ x. c.serving-s.ensures m k x ∙ ap (λ (z : ℕ). near_all m.n (view h) (has z) x) c.row.ensures in
    witness_more h k set e i (b.as_num a.live) (λ x t. t) (b.as_num l.ws) (b.as_num l.left) v.result sv (b.as_num c.reached.result)
    (b.as_num c.meet-ws.result) (b.as_num c.rest-left.result) (l.invariant m k i) v.ensures is
    (c.reached.ensures (b.as_num a.live) (serving_live h k set e i v.result sv is) m k) c.meet-ws.ensures (c.rest-left.ensures v.result v.ensures)

pub returns : goal.returns
returns g c =
    let b = g.S.Bits in
    let a = c.args in
    let l = c.loop-live in
    let i = c.requires.among.verts in
    λ m k.
    let h = holding (b.as_num a.live) (b.as_rows a.rows.now) m in
    let e : ℕ → ℕ → Bool = λ x y. has (get_or (b.as_rows a.near.now) x 0) y in
    witness_end h k (b.as_num a.set) e i (b.as_num a.live) (λ x t. t) (live_among h k (b.as_num a.set) e i) (b.as_num l.ws)
    (subst (λ r. Witness h k (b.as_num a.set) e i (b.as_num a.live) (b.as_num l.ws) r) (c.is_empty.ensures.0 c.loop-live-test.false) (l.invariant m k i))
