-- A node of the code is entered, each way against the described search: it is not counted; or it is, and the search goes back, finds it full, or goes
-- on to the next entry's placings. Assumes nothing.
use mathlib.Core.Path.{◌≡◌, refl, sym, ap, ap₂, ◌∙◌, subst}
use mathlib.Core.Bool.{Bool}
use mathlib.Core.List.{List}
use Prim.Native.Nat.{ℕ, suc, ◌-◌, ◌≤◌, ◌<◌}
use native.Mathlib.Numerals.{add-one}
use native.Mathlib.Omega.{arith}
use lib.ListN.{length, take}
use Rattle.std.specs.Prelude.{Ok, Err}
use Rattle.refusals.specs.declared.Unsolved.{Unsolved}
use Rattle.refusals.specs.declared.Unsolved.TheVariants.{Budget}
use Rattle.sets.specs.Lists.{over}
use Rattle.clashes.specs.Matrix.{matrix}
use Rattle.clashes.specs.Divisions.{groups}
use Rattle.placing.specs.Search.{State as Described, enter, size, become, search}
use Rattle.placing.specs.Going.{state_of, Fair, ReadyAt, due, Comes, Exceeds, Counted}
use Rattle.placing.specs.declared.State.{State}
use Rattle.placing.proofs.PlacingLaws.{choices_are}
use Rattle.placing.proofs.Steps.{turn, before, search_back, search_full, search_on}
use Rattle.placing.proofs.Counts.{search_enters}

-- ---- a node is counted, or the budget has no more

pub record One_more (n : ℕ) (s t : State) : Type 0 where
  pub is : state_of n t ≡ enter (state_of n s)
  pub fair : Fair n t
  pub budget : t.budget ≡ s.budget

pub one_more : {n : ℕ} {s t : State} → Fair n s → Counted s (Ok tt) t → One_more n s t
one_more {n} {s} fair c =
    subst (One_more n s) (sym c.1)
    (record {
      is = ap (λ k. record { best = take n s.best; nodes = k }) (add-one s.nodes);
      fair = record { size = fair.size; paid = omega (arith, c.0) };
      budget = refl;
    })

-- ---- what the search from the node that is held comes to

module _ {cap : ℕ} {rows : List ℕ} {here m : ℕ} {sets c : List ℕ} {s : State} (ready : ReadyAt cap rows here m sets c s) where
  abbrev n : ℕ
  n = length rows

  abbrev clash : ℕ → ℕ → Bool
  clash = matrix rows

  pub exceeds_at_once : {e : Unsolved} {t : State} → Counted s (Err e) t → Exceeds s (due rows here c s) e
  unfolding due
  exceeds_at_once u = record { told = u.1; more = omega (arith, u.0, search_enters clash (n - here) (take here c) (state_of n s)) }

  module _ {t : State} (counts : One_more n s t) where
    -- the best size is t's
    best_size : t.k ≡ size (state_of n s)
    best_size = counts.fair.size ∙ ap size counts.is

    -- "go back if the groups reach the best size known"
    pub comes_back : t.k ≤ m → Comes n s t (due rows here c s)
    unfolding due
    comes_back h =
        let b : size (state_of n s) ≤ groups 0 (take here c) = omega (arith, best_size, ready.holds.many) in
        record {
          is = counts.is ∙ sym (search_back clash (n - here) (take here c) (state_of n s) b);
          fair = counts.fair;
          budget = counts.budget;
        }

    module _ (below : m < t.k) where
      small : groups 0 (take here c) < size (state_of n s)
      small = omega (arith, best_size, ready.holds.many)

      -- the placing is t's best
      abbrev better : State
      better = record { best = c; k = m; nodes = t.nodes; budget = t.budget }

      -- "a full placing below it becomes the best"
      pub comes_full : here ≡ length rows → Comes n s better (due rows here c s)
      unfolding due
      comes_full e =
          record {
            is = is ∙ sym full;
            fair = record { size = sym ready.holds.many ∙ ap (λ (k : ℕ). groups 0 (take k c)) e; paid = counts.fair.paid };
            budget = counts.budget;
          }
        where
          is : state_of n better ≡ become (take here c) (enter (state_of n s))
          is =
              ap₂ (λ (b : List ℕ) (k : ℕ). record { best = b; nodes = k }) (ap (λ (k : ℕ). take k c) (sym e))
              (ap (λ (d : Described). d.nodes) counts.is)

          full : search clash (n - here) (take here c) (state_of n s) ≡ become (take here c) (enter (state_of n s))
          full =
              ap (λ (k : ℕ). search clash k (take here c) (state_of n s)) (let z : n - here ≡ 0 = omega arith in z)
              ∙ search_full clash (take here c) (state_of n s) small

      -- otherwise the turns of all groups are what is due
      due_on : here < length rows → due rows here c s ≡ before clash (n - suc here) (take here c) (state_of n t) (suc m)
      unfolding due
      due_on l =
          ap (λ (k : ℕ). search clash k (take here c) (state_of n s)) (let z : n - here ≡ suc (n - suc here) = omega arith in z)
          ∙ search_on clash (n - suc here) (take here c) (state_of n s) small
          ∙ ap (over (turn clash (n - suc here) (take here c)) (enter (state_of n s))) (choices_are clash (take here c))
          ∙ ap₂ (λ (d : Described) (k : ℕ). before clash (n - suc here) (take here c) d (suc k)) (sym counts.is) ready.holds.many

      pub comes_on : here < length rows → {r : State} → Comes n t r (before clash (n - suc here) (take here c) (state_of n t) (suc m))
          → Comes n s r (due rows here c s)
      comes_on l x = record { is = x.is ∙ sym (due_on l); fair = x.fair; budget = x.budget ∙ counts.budget }

      pub exceeds_on : here < length rows → {e : Unsolved} → Exceeds t (before clash (n - suc here) (take here c) (state_of n t) (suc m)) e
          → Exceeds s (due rows here c s) e
      exceeds_on l x = record {
        told = x.told ∙ ap Budget counts.budget;
        more = omega (arith, x.more, counts.budget, ap (λ (d : Described). d.nodes) (due_on l));
      }
