-- `mycielski::servings` meets its contract. The loop's invariant: S(v) is stored for each v that is done. The measure: what is left. Assumes nothing.
use mathlib.Core.Path.{◌≡◌, sym, ap, ◌∙◌, subst}
use mathlib.Core.Bool.{Bool}
use Prim.Native.Nat.{ℕ}
use lib.ListN.{get_or}
use Rattle.sets.specs.Set.{has}
use Rattle.graphs.specs.Held.{view, holding}
use Rattle.graphs.proofs.LoopLaws.{left_falls}
use Rattle.mycielski.specs.Rounds.{near_all}
use Rattle.mycielski.proofs.FitLoops.{Fitting, fitting_start, fitting_again, fitting_end}
use Rattle.mycielski.proofs.servings.Goals as goal

pub loop-live-init : goal.loop-live-init
loop-live-init g c = (c.requires.fit_len, λ m k. fitting_start _ _ _ _ (g.met.S.Bits.rows_long c.args.fit.now c.requires.fit_len))

pub loop-live-smaller : goal.loop-live-smaller
loop-live-smaller g c = let low = c.lowest-v in left_falls _ _ _ low.ensures (c.rest-left.ensures low.result low.ensures)

pub loop-live-preserved : goal.loop-live-preserved
loop-live-preserved g c =
    let b = g.S.Bits in
    let a = c.args in
    let l = c.loop-live in
    let v = c.lowest-v in
    let rest = c.rest-left in (
      c.put.ensures.0,
      λ m k.
          let h = holding (b.as_num a.live) (b.as_rows a.rows.now) m in
          let serves : ℕ → ℕ → Bool = λ v. near_all m.n (view h) (has (get_or (b.as_rows a.near.now) v 0)) in
          let is : (x : ℕ) → has (b.as_num c.serving.result) x ≡ serves v.result x =
          λ x. c.serving.ensures m k x ∙ ap (λ (z : ℕ). near_all m.n (view h) (has z) x) c.row.ensures in
          subst (λ r. Fitting b.cap (b.as_num a.set) serves r (b.as_num rest.result)) (sym c.put.ensures.1)
          (fitting_again b.cap (b.as_num a.set) serves (b.as_rows l.fit) (b.as_num l.left) v.result (b.as_num c.serving.result) (b.as_num rest.result)
          (l.invariant.1 m k) v.ensures is (rest.ensures v.result v.ensures)),
    )

pub returns-clause-serves : goal.returns-clause-serves
returns-clause-serves g c =
    let b = g.S.Bits in
    let a = c.args in
    let l = c.loop-live in
    λ m k.
    let serves : ℕ → ℕ → Bool = λ v. near_all m.n (view (holding (b.as_num a.live) (b.as_rows a.rows.now) m)) (has (get_or (b.as_rows a.near.now) v 0)) in
    fitting_end b.cap (b.as_num a.set) serves (b.as_rows l.fit)
    (subst (Fitting b.cap (b.as_num a.set) serves (b.as_rows l.fit)) (c.is_empty.ensures.0 c.loop-live-test.false) (l.invariant.1 m k))
