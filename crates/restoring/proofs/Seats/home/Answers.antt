-- `restoring::Seats::home` meets its contract: none of the groups before j is clear of row. Assumes nothing.
use mathlib.Core.Path.{◌≡◌, sym, subst}
use Prim.Native.Nat.{ℕ, ◌<◌}
use native.Mathlib.Omega.{arith}
use borrow.Author.Count.{below_more}
use lib.Dec.{T}
use lib.ListN.{length-take}
use lib.Seq.{get_or-take}
use Rattle.clashes.specs.Divisions.{at}
use Rattle.sets.specs.Set.{has, IsMeet}
use Rattle.sets.proofs.TestLaws.{and_l, and_r, and_t}
use Rattle.sets.proofs.SetLaws.{no_members}
use Rattle.restoring.specs.Seats.{Clear}
use Rattle.removing.proofs.ShareLaws.{nobody}
use Rattle.restoring.proofs.Seats.home.Goals as goal
use Rattle.restoring.proofs.Seats.home.Goals.{After-meet}

clear : (a b m : ℕ) → IsMeet a b m → m ≡ 0 → Clear a b
clear a b m is e x s t = nobody m x e (subst T (sym (is x)) (and_t (has a x) (has b x) s t))

meets : (a b m : ℕ) → IsMeet a b m → (m ≡ 0 → ⊥) → ¬ Clear a b
meets a b m is q f = q (no_members m (λ x t. let u = subst T (is x) t in f x (and_l (has a x) (has b x) u) (and_r (has a x) (has b x) u)))

-- the group that is looked at
looked : (c : After-meet) → IsMeet c.args.row (at c.args.self.now.sets c.loop-j.j) c.meet.result
looked c =
    let h = c.args.self.now in
    let b : c.loop-j.j < h.many = omega (arith, length-take {A = ℕ}) in
    subst (λ (x : ℕ). IsMeet c.args.row x c.meet.result) (get_or-take h.many h.sets c.loop-j.j 0 b) c.meet.ensures

pub returns-then-meet-eq0 : goal.returns-then-meet-eq0
returns-then-meet-eq0 c =
    let m = c.meet in
    record {
      most = omega (arith, length-take {A = ℕ});
      here = λ b. clear _ _ m.result (looked (goal.at.returns-then-meet-eq0 c).After-meet) c.if-meet-eq0.true;
      earlier = c.loop-j.invariant;
    }

pub loop-j-preserved : goal.loop-j-preserved
loop-j-preserved c =
    below_more _ _ c.loop-j.invariant (meets _ _ c.meet.result (looked (goal.at.loop-j-preserved c).After-meet) c.if-meet-eq0.false)

pub returns : goal.returns
returns c = record {
  most = omega arith;
  here = λ b. absurd (let z : ⊥ = omega arith in z);
  earlier = λ i b. c.loop-j.invariant i (omega (arith, length-take {A = ℕ}));
}
