-- `graphs::led` meets its contract: pair by pair, or by the counts of all. Assumes nothing.
use mathlib.Core.Path.{sym}
use native.Mathlib.Omega.{arith}
use Rattle.graphs.specs.Acts.{lead, shared}
use Rattle.graphs.proofs.LoopLaws.{size_le, over_none}
use Rattle.graphs.proofs.ChooseLaws.{row_passed, most_behind, most_leads}
use Rattle.graphs.proofs.led.Goals as goal

pub returns-then-apart-eq0 : goal.returns-then-apart-eq0
returns-then-apart-eq0 c =
    let a = c.args in
    sym (over_none 64 (lead (shared a.rows.now a.near) a.u) a.best a.apart c.if-apart-eq0.true)

pub returns-then-degree-best : goal.returns-then-degree-best
returns-then-degree-best c =
    let a = c.args in
    row_passed 64 a.rows.now a.near a.apart a.u a.best (omega (arith, c.size-degree.ensures, c.if-degree-best.true))

pub overflow_mul-size : goal.overflow_mul-size
overflow_mul-size c = omega (arith, c.size.ensures, size_le 64 c.args.apart)

pub overflow_add-degree : goal.overflow_add-degree
overflow_add-degree c = omega (arith, c.size-degree.ensures, size_le 64 c.args.near)

pub lowest-v-requires : goal.lowest-v-requires
lowest-v-requires c = c.greatest.ensures.some c.if-apart-eq0.false

pub overflow_add-most : goal.overflow_add-most
overflow_add-most c = omega (arith, c.size-most.ensures, size_le 64 c.meet.result)

pub returns-then-best-most : goal.returns-then-best-most
returns-then-best-most c =
    let a = c.args in
    let ones = c.size-most in
    let met = c.meet in
    let low = c.lowest-v in
    let m = c.greatest in
    let k = c.counted in
    most_leads a.rows.now a.near a.apart a.u a.best k.result m.result low.result met.result ones.result c.requires.fact k.ensures m.ensures
    low.ensures met.ensures ones.ensures c.if-best-most.true

pub returns : goal.returns
returns c =
    let a = c.args in
    let ones = c.size-most in
    let met = c.meet in
    let low = c.lowest-v in
    let m = c.greatest in
    let k = c.counted in
    most_behind a.rows.now a.near a.apart a.u a.best k.result m.result low.result met.result ones.result c.requires.fact k.ensures m.ensures
    low.ensures met.ensures ones.ensures c.if-best-most.false
