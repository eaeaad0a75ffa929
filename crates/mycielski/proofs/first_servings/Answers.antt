-- `mycielski::first_servings` meets its contract. The loop's invariant: S(v) is stored for each v that is done. The measure: what is left. Assumes
-- nothing.
use mathlib.Core.Path.{sym, subst}
use mathlib.Core.Bool.{Bool}
use Prim.Native.Nat.{ℕ}
use Rattle.sets.specs.Set.{has, IsMeet}
use Rattle.graphs.specs.Held.{view, holding}
use Rattle.graphs.proofs.LoopLaws.{left_falls}
use Rattle.mycielski.specs.Rounds.{every_edge, near_all}
use Rattle.mycielski.proofs.DoneLaws.{within_again}
use Rattle.mycielski.proofs.FirstLoops.{first_serving}
use Rattle.mycielski.proofs.FitLoops.{Fitting, fitting_start, fitting_again, fitting_end}
use Rattle.mycielski.proofs.first_servings.Goals as goal

pub loop-lack-init : goal.loop-lack-init
loop-lack-init g c = (λ x t. t, c.requires.fit_len, λ m k. fitting_start _ _ _ _ (g.met.S.Bits.rows_long c.args.fit.now c.requires.fit_len))

pub loop-lack-smaller : goal.loop-lack-smaller
loop-lack-smaller g c = let low = c.lowest-v in left_falls _ _ _ low.ensures (c.rest-left.ensures low.result low.ensures)

pub loop-lack-preserved : goal.loop-lack-preserved
loop-lack-preserved g c =
    let b = g.S.Bits in
    let a = c.args in
    let l = c.loop-lack in
    let v = c.lowest-v in
    let lack = c.lacking-lack in
    let members = b.as_num a.c in
    let rest = b.as_num c.rest-left.result in
    let out = c.rest-left.ensures v.result v.ensures in
    let met = subst (λ x. IsMeet (b.as_num lack.result.once) x (b.as_num c.meet.result)) c.row.ensures c.meet.ensures in (
      within_again members (b.as_num l.left) v.result rest l.invariant.0 v.ensures out,
      c.put.ensures.0,
      λ m k.
          let h = holding (b.as_num a.live) (b.as_rows a.rows.now) m in
          let serves : ℕ → ℕ → Bool = λ v. near_all m.n (view h) ((every_edge (has members)).edge v) in
          subst (λ r. Fitting b.cap members serves r rest) (sym c.put.ensures.1)
          (fitting_again b.cap members serves (b.as_rows l.fit) (b.as_num l.left) v.result (b.as_num c.less.result) rest (l.invariant.2 m k) v.ensures
          (first_serving h k members c.requires.within _ lack.ensures v.result (b.as_num c.less-single.result) (b.as_num c.meet.result) (b.as_num c.less.result)
          (l.invariant.0 v.result v.ensures.member) c.less-single.ensures met c.less.ensures) out),
    )

pub returns-clause-serves : goal.returns-clause-serves
returns-clause-serves g c =
    let b = g.S.Bits in
    let a = c.args in
    let l = c.loop-lack in
    let members = b.as_num a.c in
    λ m k.
    let serves : ℕ → ℕ → Bool = λ v. near_all m.n (view (holding (b.as_num a.live) (b.as_rows a.rows.now) m)) ((every_edge (has members)).edge v) in
    fitting_end b.cap members serves (b.as_rows l.fit)
    (subst (Fitting b.cap members serves (b.as_rows l.fit)) (c.is_empty.ensures.0 c.loop-lack-test.false) (l.invariant.2 m k))
