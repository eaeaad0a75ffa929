-- `undo::restore` meets its contract. The invariant: what the pairs that are left make of the rows so far, all make of the rows. Assumes nothing.
use mathlib.Core.Path.{◌≡◌, sym, ap, ◌∙◌, subst}
use mathlib.Core.List.{List}
use Prim.Native.Nat.{ℕ, zero, suc, ◌+◌, ◌-◌, ◌*◌, ◌/◌, ◌%◌}
use native.Mathlib.Omega.{arith}
use lib.ListN.{length, get_or, take, drop, length-append, length-take, length-drop}
use lib.Seq.{get_or-drop}
use Rattle.wide.specs.Form.{held}
use Rattle.undo.specs.Back.{Restored}
use Rattle.undo.proofs.TrailLaws.{restored_none, restored_more, taken_back}
use Rattle.undo.proofs.restore.Goals as goal
use Rattle.undo.proofs.restore.Goals.{After-into_iter-pair-iterator}

-- the loop starts with all of the pairs
all_left : (c : After-into_iter-pair-iterator) → let a = c.args in
    (c.into_iter-pair-iterator.result.iter.rest.now ≡ take a.more (drop a.at a.trail.now)) × (length c.into_iter-pair-iterator.result.iter.rest.now ≡ a.more)
all_left c =
    let a = c.args in
    let more : (a.at + a.more) - a.at ≡ a.more = omega arith in
    let e : c.into_iter-pair-iterator.result.iter.rest.now ≡ take a.more (drop a.at a.trail.now) = cc (c.iter.ensures.rest, c.rev-pair-items.ensures.source) in
    (e, ap length e ∙ simp (length-take, length-drop) (omega arith))

pub loop-pair-init : goal.loop-pair-init
loop-pair-init c =
    let a = c.args in
    let e = all_left c in
    record {
      form = c.requires.form;
      left = e.0 ∙ ap (λ (k : ℕ). take k (drop a.at a.trail.now)) (sym e.1);
      back = λ r p. subst (λ (k : ℕ). Restored (64 * a.words) a.trail.now a.at k (held a.words a.rows.now) r) e.1 p;
    }

pub loop-pair-preserved : goal.loop-pair-preserved
loop-pair-preserved c =
    let a = c.args in
    let l = c.loop-pair in
    let cap = 64 * a.words in
    let left = c.next.new.self.iter.rest.now in
    let k = length left in
    let one : length l.pair-iterator.iter.rest.now ≡ suc k = ap length c.in-Some.ensures.steps ∙ simp length-append (omega arith) in
    let t = taken_back (drop a.at a.trail.now) left c.in-Some.field-0.now (subst (λ (x : List ℕ). x ≡ take (length x) (drop a.at a.trail.now)) c.in-Some.ensures.steps l.invariant.left) in
    let e : get_or a.trail.now (a.at + k) zero ≡ c.from-e.result = sym (get_or-drop a.at a.trail.now k zero) ∙ sym t.1 ∙ cc in
    let u = ap (λ (m : ℕ). m / 256 % cap) e ∙ sym c.below_cap.ensures in
    let v = ap (λ (m : ℕ). m % 256 % cap) e ∙ sym c.below_cap-in-loop-pair.ensures in
    record {
      form = c.unseparate.ensures.form_2;
      left = t.0;
      back = λ r p.
          l.invariant.back r
          (subst (λ (j : ℕ). Restored cap a.trail.now a.at j (held a.words l.rows) r) (sym one)
          (restored_more cap a.trail.now a.at k _ _ _ (held a.words l.rows) r p c.unseparate.ensures.cut u v));
    }

pub returns : goal.returns
returns c =
    let a = c.args in
    let l = c.loop-pair in
    let cap = 64 * a.words in
    let rows = held a.words l.rows in
    record {
      form_2 = l.invariant.form;
      restored = l.invariant.back rows (subst (λ (k : ℕ). Restored cap a.trail.now a.at k rows rows) (sym c.in-None.ensures.steps.0) (restored_none cap a.trail.now a.at rows));
    }
