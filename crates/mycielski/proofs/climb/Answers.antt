-- `mycielski::climb` meets its contract. The loop's invariant: H and the bound so far are those of a round, and the rounds that are left give the
-- whole's bound. The measure: what the bound lacks of what is enough. Assumes nothing.
use mathlib.Core.Path.{◌≡◌, subst}
use Prim.Native.Nat.{suc, ◌+◌}
use native.Mathlib.Nat.{le_of_eq}
use native.Mathlib.Numerals.{add-one}
use native.Mathlib.Omega.{arith}
use Rattle.graphs.specs.Held.{holding}
use Rattle.sets.specs.Set.{size}
use Rattle.mycielski.specs.Words.{sub, part_of}
use Rattle.mycielski.proofs.ClimbLaws.{Climb, clique_live, climb_among, climb_le, climb_full, climb_none, climb_more, climb_w, climb_next, first_among, first_fit, first_w, first_next}
use Rattle.mycielski.proofs.climb.Goals as goal

pub first_servings-requires-clause-within : goal.first_servings-requires-clause-within
first_servings-requires-clause-within g c =
    let b = g.S.Bits in
    let a = c.args in
    let q = c.requires.holds in
    clique_live (holding (b.as_num a.live) (b.as_rows a.rows.now) q.0) q.1 (b.as_num a.c) (c.requires.each q.0 q.1)

pub extended-set-requires-clause-among : goal.extended-set-requires-clause-among
extended-set-requires-clause-among g c =
    let b = g.S.Bits in
    let a = c.args in
    let q = c.requires.holds in
    first_among (holding (b.as_num a.live) (b.as_rows a.rows.now) q.0) q.1 (b.as_num a.c) (sub (b.as_num a.c) (b.as_rows c.whole.new.near))
    c.whole.ensures.near_after (c.requires.each q.0 q.1)

pub extended-set-requires-clause-each : goal.extended-set-requires-clause-each
extended-set-requires-clause-each g c =
    let b = g.S.Bits in
    let a = c.args in
    λ m k.
    first_w (holding (b.as_num a.live) (b.as_rows a.rows.now) m) k (b.as_num a.c) (sub (b.as_num a.c) (b.as_rows c.whole.new.near)) c.whole.ensures.near_after
    (c.requires.each m k) c.requires.c_bound (b.as_num a.ws) (c.requires.each_2 m k) c.lowest.result c.lowest.ensures

pub extended-set-requires-clause-each_2 : goal.extended-set-requires-clause-each_2
extended-set-requires-clause-each_2 g c =
    let b = g.S.Bits in
    let a = c.args in
    λ m k.
    first_fit (holding (b.as_num a.live) (b.as_rows a.rows.now) m) k (b.as_num a.c) (sub (b.as_num a.c) (b.as_rows c.whole.new.near)) c.whole.ensures.near_after
    (c.requires.each m k) (b.as_rows c.first_servings.new.fit) (c.first_servings.ensures.serves m k)

pub loop-b-init : goal.loop-b-init
loop-b-init g c =
    let b = g.S.Bits in
    let a = c.args in
    let next = c.extended-set in (
      next.ensures.near_len,
      c.first_servings.ensures.fit_len_2,
      λ m k.
          let h = holding (b.as_num a.live) (b.as_rows a.rows.now) m in
          let up : suc (size b.cap (b.as_num a.c)) ≡ c.size-b.result + 1 = omega (arith, c.size-b.ensures) in
          let after = sub (b.as_num next.result) (b.as_rows next.new.near) in
          subst (λ n. Climb h k (part_of after) n) up
          (first_next h k (b.as_num a.c) (sub (b.as_num a.c) (b.as_rows c.whole.new.near)) c.whole.ensures.near_after (c.requires.each m k) c.requires.c_bound
          (b.as_num a.ws) (c.requires.each_2 m k) c.lowest.result c.lowest.ensures after (next.ensures.round m k)),
    )

pub returns-then-all-size : goal.returns-then-all-size
returns-then-all-size g c =
    let b = g.S.Bits in
    let a = c.args in
    let l = c.loop-b in
    λ m k.
    let h = holding (b.as_num a.live) (b.as_rows a.rows.now) m in
    let e = climb_full h k (b.as_num l.set) (part_of (sub (b.as_num l.set) (b.as_rows l.near))).edge l.b (l.invariant.2 m k)
    (omega (arith, c.if-all-size.true, c.size-all.ensures, c.size.ensures)) in
    record { most = le_of_eq e; exact = λ q. e }

pub witnesses-ws-requires-clause-among : goal.witnesses-ws-requires-clause-among
witnesses-ws-requires-clause-among g c =
    let b = g.S.Bits in
    let l = c.loop-b in
    let q = c.requires.holds in
    climb_among (holding (b.as_num c.args.live) (b.as_rows c.args.rows.now) q.0) q.1 (sub (b.as_num l.set) (b.as_rows l.near)) l.b (l.invariant.2 q.0 q.1)

pub returns-then-is_empty : goal.returns-then-is_empty
returns-then-is_empty g c =
    let b = g.S.Bits in
    let a = c.args in
    let l = c.loop-b in
    λ m k.
    let h = holding (b.as_num a.live) (b.as_rows a.rows.now) m in
    let e = climb_none h k (b.as_num l.set) (part_of (sub (b.as_num l.set) (b.as_rows l.near))).edge l.b (l.invariant.2 m k)
    (omega (arith, c.if-all-size.false, c.size-all.ensures, c.size.ensures)) (b.as_num c.witnesses-ws.result) (c.witnesses-ws.ensures m k)
    (c.is_empty.ensures.0 c.if-is_empty.true) in
    record { most = le_of_eq e; exact = λ q. e }

pub returns-then-enough-b : goal.returns-then-enough-b
returns-then-enough-b g c =
    let b = g.S.Bits in
    let a = c.args in
    let l = c.loop-b in
    λ m k.
    let h = holding (b.as_num a.live) (b.as_rows a.rows.now) m in
    let e = climb_more h k (b.as_num l.set) (part_of (sub (b.as_num l.set) (b.as_rows l.near))).edge l.b (l.invariant.2 m k)
    (omega (arith, c.if-all-size.false, c.size-all.ensures, c.size.ensures)) (b.as_num c.witnesses-ws.result) (c.witnesses-ws.ensures m k)
    (c.is_empty.ensures.1 c.if-is_empty.false) in
    record { most = rw (add-one l.b) e; exact = λ q. absurd (let z : ⊥ = omega (arith, c.if-enough-b.true) in z) }

pub servings-requires-clause-among : goal.servings-requires-clause-among
servings-requires-clause-among g c =
    let b = g.S.Bits in
    let l = c.loop-b in
    let q = c.requires.holds in
    climb_among (holding (b.as_num c.args.live) (b.as_rows c.args.rows.now) q.0) q.1 (sub (b.as_num l.set) (b.as_rows l.near)) l.b (l.invariant.2 q.0 q.1)

pub extended-set-requires-in-loop-b-clause-among : goal.extended-set-requires-in-loop-b-clause-among
extended-set-requires-in-loop-b-clause-among g c =
    let b = g.S.Bits in
    let l = c.loop-b in
    let q = c.requires.holds in
    climb_among (holding (b.as_num c.args.live) (b.as_rows c.args.rows.now) q.0) q.1 (sub (b.as_num l.set) (b.as_rows l.near)) l.b (l.invariant.2 q.0 q.1)

pub extended-set-requires-in-loop-b-clause-each : goal.extended-set-requires-in-loop-b-clause-each
extended-set-requires-in-loop-b-clause-each g c =
    let b = g.S.Bits in
    let a = c.args in
    let l = c.loop-b in
    let low = c.lowest-in-loop-b in
    λ m k.
    climb_w (holding (b.as_num a.live) (b.as_rows a.rows.now) m) k (b.as_num l.set) (part_of (sub (b.as_num l.set) (b.as_rows l.near))).edge l.b
    (l.invariant.2 m k) (omega (arith, c.if-all-size.false, c.size-all.ensures, c.size.ensures))
    (b.as_num c.witnesses-ws.result) (c.witnesses-ws.ensures m k) low.result low.ensures

pub loop-b-preserved : goal.loop-b-preserved
loop-b-preserved g c =
    let b = g.S.Bits in
    let a = c.args in
    let l = c.loop-b in
    let low = c.lowest-in-loop-b in
    let next = c.extended-set-in-loop-b in (
      next.ensures.near_len,
      c.servings.ensures.fit_len_2,
      λ m k.
          rw (add-one l.b)
          (climb_next (holding (b.as_num a.live) (b.as_rows a.rows.now) m) k (b.as_num l.set) (part_of (sub (b.as_num l.set) (b.as_rows l.near))).edge l.b
          (l.invariant.2 m k) (omega (arith, c.if-all-size.false, c.size-all.ensures, c.size.ensures))
          (b.as_num c.witnesses-ws.result) (c.witnesses-ws.ensures m k) low.result low.ensures _ (next.ensures.round m k)),
    )

pub returns : goal.returns
returns g c =
    let b = g.S.Bits in
    let a = c.args in
    let l = c.loop-b in
    λ m k.
    record {
      most = climb_le (holding (b.as_num a.live) (b.as_rows a.rows.now) m) k (b.as_num l.set) (part_of (sub (b.as_num l.set) (b.as_rows l.near))).edge l.b
          (l.invariant.2 m k);
      exact = λ q. absurd (let z : ⊥ = omega (arith, c.loop-b-test.false) in z);
    }
