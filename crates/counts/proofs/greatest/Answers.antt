-- `counts::greatest` meets its contract: who leads by the higher slices, from all to those with the greatest count. Assumes nothing.
use native.Mathlib.Omega.{arith}
use Rattle.counts.proofs.MostLaws.{ahead_all, ahead_most}
use Rattle.counts.proofs.greatest.Goals as goal

pub returns : goal.returns
returns c =
    let a = c.args in
    let l6 = c.narrow-m.ensures _ a.apart 64 (ahead_all a.apart 128) in
    let l5 = c.narrow-m-2.ensures _ a.apart 32 l6 in
    let l4 = c.narrow-m-3.ensures _ a.apart 16 l5 in
    let l3 = c.narrow-m-4.ensures _ a.apart 8 l4 in
    let l2 = c.narrow-m-5.ensures _ a.apart 4 l3 in
    let l1 = c.narrow-m-6.ensures _ a.apart 2 l2 in
    ahead_most a.c _ a.apart c.narrow.result (λ v. omega arith) (c.narrow.ensures _ a.apart 1 l1)
