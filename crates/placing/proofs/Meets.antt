-- The search may start from the empty placing, and a search of the code that came to its end meets the promise. Assumes nothing.
use mathlib.Core.Path.{◌≡◌, refl, sym, ap, ap₂, ◌∙◌, subst}
use mathlib.Core.Bool.{Bool, ◌&&◌}
use mathlib.Core.List.{List, [], ◌∷◌, ◌++◌}
use Prim.Native.Nat.{ℕ, zero, suc}
use native.Mathlib.Nat.{sub-zero}
use native.Mathlib.Omega.{arith}
use borrow.Author.Tests.{le-ltb}
use lib.Dec.{T, eqb, eqb→eq}
use lib.ListN.{length, take, drop, get_or}
use lib.Seq.{take_at, drop_at}
use Rattle.std.specs.Prelude.{Ok, Err}
use Rattle.refusals.specs.declared.Unsolved.{Unsolved}
use Rattle.sets.specs.Lists.{every}
use Rattle.sets.specs.Set.{has}
use Rattle.sets.proofs.TestLaws.{and_l, and_r}
use Rattle.sets.proofs.SetLaws.{has_none}
use Rattle.clashes.specs.Matrix.{matrix, Valid}
use Rattle.clashes.specs.Colouring.{Chromatic}
use Rattle.clashes.specs.Divisions.{groups, Division, clash_free}
use Rattle.clashes.specs.Room.{OpenUpTo}
use Rattle.clashes.proofs.MatrixLaws.{sound_valid}
use Rattle.placing.specs.Search.{State as Described, size, search}
use Rattle.placing.specs.Going.{state_of, Starts, ReadyAt, due, Comes, Exceeds}
use Rattle.placing.specs.Promise.{searched, PromisedUpTo}
use Rattle.placing.specs.declared.State.{State}
use Rattle.placing.proofs.Best.{placing_division, placing_free, placing_chromatic}

-- a list of zeros alone
zeros : (l : List ℕ) → T (every (λ x. eqb x 0) l) → (i : ℕ) → get_or l i zero ≡ 0
zeros [] t i = refl
zeros (x ∷ l) t zero = eqb→eq x 0 (and_l (eqb x 0) (every (λ x. eqb x 0) l) t)
zeros (x ∷ l) t (suc i) = zeros l (and_r (eqb x 0) (every (λ x. eqb x 0) l) t) i

module _ (most : ℕ) (rows before : List ℕ) (budget : ℕ) (opened : OpenUpTo most rows (length before)) where
  abbrev n : ℕ
  n = length rows

  abbrev w : Described
  w = searched rows

  -- "the empty start": no entry is placed, and every set is empty
  pub start_ready : (sets c : List ℕ) (s : State) → length sets ≡ most → length c ≡ most → T (every (λ x. eqb x 0) sets) → Starts n budget s
      → ReadyAt most rows 0 0 sets c s
  start_ready sets c s a b z i = record {
    few = opened.sound.apart.inside.few;
    below = omega arith;
    holds = record {
      numbered = tt;
      many = refl;
      sets_long = a;
      places_long = b;
      members = λ j y l. ap (λ (x : ℕ). has x y) (zeros sets z j) ∙ has_none y
          ∙ sym (ap (λ (b : Bool). b && eqb (get_or c y zero) j) (le-ltb y 0 (omega arith)));
    };
    fair = i.fair;
  }

  valid : Valid n (matrix rows)
  valid = sound_valid rows opened.sound

  module _ (c : List ℕ) (s₀ : State) (b : Starts n budget s₀) where
    due_is : due rows 0 c s₀ ≡ w
    unfolding due
    due_is = ap₂ (λ (k : ℕ) (d : Described). search (matrix rows) k [] d) (sub-zero n) b.is

    pub promised_spent : {e : Unsolved} → Exceeds s₀ (due rows 0 c s₀) e → PromisedUpTo most rows before budget (Err e) before
    promised_spent x =
        subst (λ (e : Unsolved). PromisedUpTo most rows before budget (Err e) before) (sym x.told)
        (record { opened = opened; all = b.budget; more = omega (arith, x.more, b.budget, ap (λ (d : Described). d.nodes) due_is) }, refl)

    pub promised_done : {s : State} → Comes n s₀ s (due rows 0 c s₀)
        → PromisedUpTo most rows before budget (Ok (record { k = s.k; nodes = s.nodes })) (take n s.best ++ drop n before)
    promised_done {s} comes = record {
      opened = opened;
      fewest = subst (Chromatic n (matrix rows)) k_is (placing_chromatic n (matrix rows) valid);
      division = subst (Division n) (sym taken) (placing_division n (matrix rows) valid);
      free = subst (λ x. T (clash_free n (matrix rows) x)) (sym taken) (placing_free n (matrix rows) valid);
      many = ap (groups 0) taken ∙ k_is;
      best = taken;
      count = ap (λ (d : Described). d.nodes) is;
      paid = omega (arith, comes.fair.paid, comes.budget, b.budget);
      kept = drop_at (take n s.best) (drop n before) n long;
    }
      where
        is : state_of n s ≡ w
        is = comes.is ∙ due_is

        best_is : take n s.best ≡ w.best
        best_is = ap (λ (d : Described). d.best) is

        long : length (take n s.best) ≡ n
        long = ap length best_is ∙ (placing_division n (matrix rows) valid).long

        taken : take n (take n s.best ++ drop n before) ≡ w.best
        taken = take_at (take n s.best) (drop n before) n long ∙ best_is

        k_is : size w ≡ s.k
        k_is = ap (groups 0) (sym best_is) ∙ sym comes.fair.size
