-- `lent_tests::rounds::round` asks of each function what it may: the clique is a set of live vertices, and H after a round is one too. Assumes nothing.
use mathlib.Core.Path.{refl}
use native.Mathlib.Omega.{arith}
use Prim.Native.Nat.{◌<◌}
use Rattle.sets.specs.Set.{size}
use Rattle.mycielski.specs.Words.{sub}
use Rattle.lent_tests.proofs.FirstRound.{round_live, round_among, round_fit, round_w, round_next}
use Rattle.lent_tests.proofs.rounds.round.Goals as goal

pub first_servings-requires-clause-within : goal.first_servings-requires-clause-within
first_servings-requires-clause-within g c =
    let a = c.args in
    let f = c.clique_among-c in
    round_live 64 a.live a.rows.now c.requires.holds 65 f.result f.ensures (omega (arith, c.if-enough-b.false, c.size-b.ensures))

pub first_servings_rows-new_fit-requires : goal.first_servings_rows-new_fit-requires
first_servings_rows-new_fit-requires g c =
    let a = c.args in
    let f = c.clique_among-c in
    let within = round_live 64 a.live a.rows.now c.requires.holds 65 f.result f.ensures (omega (arith, c.if-enough-b.false, c.size-b.ensures)) in
    (omega arith, (refl, (c.requires.rows_len, within)))

pub first_witnesses-ws-requires-clause-within : goal.first_witnesses-ws-requires-clause-within
first_witnesses-ws-requires-clause-within g c =
    let a = c.args in
    let f = c.clique_among-c in
    round_live 64 a.live a.rows.now c.requires.holds 65 f.result f.ensures (omega (arith, c.if-enough-b.false, c.size-b.ensures))

pub extended-set-requires-clause-among : goal.extended-set-requires-clause-among
extended-set-requires-clause-among g c =
    let a = c.args in
    let f = c.clique_among-c in
    round_among 64 a.live a.rows.now c.requires.holds 65 f.result f.ensures (omega (arith, c.if-enough-b.false, c.size-b.ensures))
    (sub f.result c.whole.new.near) c.whole.ensures.near_after

pub extended-set-requires-clause-each_2 : goal.extended-set-requires-clause-each_2
extended-set-requires-clause-each_2 g c =
    let a = c.args in
    let f = c.clique_among-c in
    round_fit 64 a.live a.rows.now c.requires.holds 65 f.result f.ensures (omega (arith, c.if-enough-b.false, c.size-b.ensures))
    (sub f.result c.whole.new.near) c.whole.ensures.near_after c.first_servings.new.fit c.first_servings.ensures.serves

pub extended_sub-sub-requires : goal.extended_sub-sub-requires
extended_sub-sub-requires g c =
    let a = c.args in
    let f = c.clique_among-c in
    let p = sub f.result c.whole.new.near in
    let few : size 64 f.result < 65 = omega (arith, c.if-enough-b.false, c.size-b.ensures) in
    let among = round_among 64 a.live a.rows.now c.requires.holds 65 f.result f.ensures few p c.whole.ensures.near_after in
    let w =
    round_w 64 a.live a.rows.now c.requires.holds 65 f.result f.ensures few p c.whole.ensures.near_after
    (omega (arith, c.if-size-b.false, c.size.ensures, c.size-b.ensures))
    c.first_witnesses-ws.result c.lowest-w.result c.first_witnesses-ws.ensures c.lowest-w.ensures in
    (omega arith, (refl, (c.requires.rows_len, (c.whole.ensures.near_len, (c.requires.holds, (among, (c.lowest-w.ensures.below, w)))))))

pub servings-requires-clause-among : goal.servings-requires-clause-among
servings-requires-clause-among g c =
    let a = c.args in
    let f = c.clique_among-c in
    round_next 64 a.live a.rows.now c.requires.holds 65 f.result f.ensures (omega (arith, c.if-enough-b.false, c.size-b.ensures))
    (sub f.result c.whole.new.near) c.whole.ensures.near_after (omega (arith, c.if-size-b.false, c.size.ensures, c.size-b.ensures))
    c.first_witnesses-ws.result c.lowest-w.result c.first_witnesses-ws.ensures c.lowest-w.ensures
    (sub c.extended-set.result c.extended-set.new.near) c.extended-set.ensures.round

pub servings_rows-new_fit-requires : goal.servings_rows-new_fit-requires
servings_rows-new_fit-requires g c =
    let a = c.args in
    let f = c.clique_among-c in
    let among =
    round_next 64 a.live a.rows.now c.requires.holds 65 f.result f.ensures (omega (arith, c.if-enough-b.false, c.size-b.ensures))
    (sub f.result c.whole.new.near) c.whole.ensures.near_after (omega (arith, c.if-size-b.false, c.size.ensures, c.size-b.ensures))
    c.first_witnesses-ws.result c.lowest-w.result c.first_witnesses-ws.ensures c.lowest-w.ensures
    (sub c.extended-set.result c.extended-set.new.near) c.extended-set.ensures.round in
    (omega arith, (refl, ((c.requires.rows_len, c.extended-set.ensures.near_len), among)))
