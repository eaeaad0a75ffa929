-- `removing::shrink` meets its contract: who has gone, and then who is still to go, are all who go. Assumes nothing.
use mathlib.Core.Path.{refl}
use native.Mathlib.Omega.{arith}
use Rattle.clashes.proofs.MatrixLaws.{sound_valid}
use Rattle.removing.proofs.ShrinkLaws.{going_start, going_next, going_less, going_end, who_below, room}
use Rattle.removing.proofs.shrink.Goals as goal

pub loop-goes-init : goal.loop-goes-init
loop-goes-init c =
    going_start 64 c.args.bound c.args.rows.now c.requires.apart.inside.few _ c.below-present.result refl c.below-present.ensures

pub next-requires-clause-listed : goal.next-requires-clause-listed
next-requires-clause-listed c = record { valid = sound_valid c.args.rows.now c.requires; entries = c.loop-goes.invariant.entries }

-- there is a place for who goes
pub bounds-went-gone : goal.bounds-went-gone
bounds-went-gone c =
    let l = c.loop-goes in
    let few = c.requires.apart.inside.few in
    omega (arith, room 64 c.args.bound c.args.rows.now few l.went l.few l.gone l.present l.invariant c.in-Some.goes c.in-Some.ensures)

-- it is an entry
pub without-present-requires : goal.without-present-requires
without-present-requires c =
    let l = c.loop-goes in
    let few = c.requires.apart.inside.few in
    omega (arith, who_below 64 c.args.bound c.args.rows.now few l.went l.few l.gone l.present l.invariant c.in-Some.goes c.in-Some.ensures)

pub loop-goes-smaller : goal.loop-goes-smaller
loop-goes-smaller c =
    let l = c.loop-goes in
    let out = c.without-present in
    going_less 64 c.args.bound c.args.rows.now c.requires.apart.inside.few l.went l.few l.gone l.present l.invariant c.in-Some.goes
    c.in-Some.ensures out.result out.ensures

pub loop-goes-preserved : goal.loop-goes-preserved
loop-goes-preserved c =
    let l = c.loop-goes in
    let out = c.without-present in
    going_next 64 c.args.bound c.args.rows.now c.requires.apart.inside.few l.went l.few l.gone l.present l.invariant c.in-Some.goes
    c.in-Some.ensures out.result out.ensures

pub returns : goal.returns
returns c =
    let l = c.loop-goes in
    going_end 64 c.args.bound c.args.rows.now c.requires.apart.inside.few l.went l.few l.gone l.present l.invariant c.in_default.ensures
