-- `mycielski::bound_among` meets its contract: what the clique, or the first round, tells is what the rounds give. Assumes nothing.
use mathlib.Core.Path.{◌∙◌}
use native.Mathlib.Omega.{arith}
use Rattle.sets.specs.Set.{has, size}
use Rattle.graphs.specs.Held.{holding}
use Rattle.mycielski.specs.Rounds.{every_edge}
use Rattle.mycielski.proofs.ClimbLaws.{reaches_most, reaches_short, clique_live, climb_start, climb_full, climb_none, climb_more}
use Rattle.mycielski.proofs.bound_among.Goals as goal

pub returns-then-enough-b : goal.returns-then-enough-b
returns-then-enough-b g c =
    let b = g.S.Bits in
    let a = c.args in
    let found = c.clique_among-c in
    λ m k.
    let h = holding (b.as_num a.live) (b.as_rows a.rows.now) m in
    record {
      most = omega (arith, c.size-b.ensures, reaches_most h k a.enough (b.as_num found.result) (found.ensures m k));
      exact = λ q. absurd (let z : ⊥ = omega (arith, c.if-enough-b.true) in z);
    }

pub returns-then-size-b : goal.returns-then-size-b
returns-then-size-b g c =
    let b = g.S.Bits in
    let a = c.args in
    let found = c.clique_among-c in
    let r = b.as_num found.result in
    λ m k.
    let h = holding (b.as_num a.live) (b.as_rows a.rows.now) m in
    let is = reaches_short h k a.enough r (found.ensures m k) (omega (arith, c.if-enough-b.false, c.size-b.ensures)) in
    let e = climb_full h k r (every_edge (has r)).edge (size b.cap r) (climb_start h k r is) (omega (arith, c.if-size-b.true, c.size.ensures, c.size-b.ensures)) in
    record { most = omega (arith, c.size-b.ensures, e); exact = λ q. c.size-b.ensures ∙ e }

pub first_witnesses-ws-requires-clause-within : goal.first_witnesses-ws-requires-clause-within
first_witnesses-ws-requires-clause-within g c =
    let b = g.S.Bits in
    let a = c.args in
    let found = c.clique_among-c in
    let r = b.as_num found.result in
    let q = c.requires.holds in
    let h = holding (b.as_num a.live) (b.as_rows a.rows.now) q.0 in
    clique_live h q.1 r (reaches_short h q.1 a.enough r (found.ensures q.0 q.1) (omega (arith, c.if-enough-b.false, c.size-b.ensures)))

pub returns-then-is_empty : goal.returns-then-is_empty
returns-then-is_empty g c =
    let b = g.S.Bits in
    let a = c.args in
    let found = c.clique_among-c in
    let r = b.as_num found.result in
    λ m k.
    let h = holding (b.as_num a.live) (b.as_rows a.rows.now) m in
    let is = reaches_short h k a.enough r (found.ensures m k) (omega (arith, c.if-enough-b.false, c.size-b.ensures)) in
    let e = climb_none h k r (every_edge (has r)).edge (size b.cap r) (climb_start h k r is) (omega (arith, c.if-size-b.false, c.size.ensures, c.size-b.ensures))
    (b.as_num c.first_witnesses-ws.result) (c.first_witnesses-ws.ensures m k) (c.is_empty.ensures.0 c.if-is_empty.true) in
    record { most = omega (arith, c.size-b.ensures, e); exact = λ q. c.size-b.ensures ∙ e }

pub returns-then-enough-b-2 : goal.returns-then-enough-b-2
returns-then-enough-b-2 g c =
    let b = g.S.Bits in
    let a = c.args in
    let found = c.clique_among-c in
    let r = b.as_num found.result in
    λ m k.
    let h = holding (b.as_num a.live) (b.as_rows a.rows.now) m in
    let is = reaches_short h k a.enough r (found.ensures m k) (omega (arith, c.if-enough-b.false, c.size-b.ensures)) in
    let e = climb_more h k r (every_edge (has r)).edge (size b.cap r) (climb_start h k r is) (omega (arith, c.if-size-b.false, c.size.ensures, c.size-b.ensures))
    (b.as_num c.first_witnesses-ws.result) (c.first_witnesses-ws.ensures m k) (c.is_empty.ensures.1 c.if-is_empty.false) in
    record { most = omega (arith, c.size-b.ensures, e); exact = λ q. absurd (let z : ⊥ = omega (arith, c.if-enough-b-2.true) in z) }
