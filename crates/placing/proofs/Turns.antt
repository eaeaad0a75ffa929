-- The turns of the code's loop over the groups, each against the described search: a group is passed over, or the entry is put into it and the node
-- entered, after which the sets are restored. Assumes nothing.
use mathlib.Core.Path.{◌≡◌, sym, ap, ap₂, ◌∙◌}
use mathlib.Core.Logic.{◌≢◌}
use mathlib.Core.Bool.{Bool, false}
use mathlib.Core.List.{List}
use Prim.Native.Nat.{ℕ, zero, suc, ◌+◌, ◌-◌, ◌≤◌, ◌<◌}
use native.Mathlib.Numerals.{add-one}
use native.Mathlib.Omega.{arith}
use lib.Dec.{T}
use lib.ListN.{length, take, set, get_or, length-set}
use lib.Seq.{take-set-le, set-set, set-get_or, take-take}
use Rattle.refusals.specs.declared.Unsolved.{Unsolved}
use Rattle.refusals.specs.declared.Unsolved.TheVariants.{Budget}
use Rattle.sets.specs.Set.{IsWith, IsMeet}
use Rattle.clashes.specs.Matrix.{matrix}
use Rattle.placing.specs.Search.{State as Described, admits, put, search}
use Rattle.placing.specs.Going.{state_of, Fair, HoldsAt, ReadyAt, due, Comes, Kept, Exceeds, more_of}
use Rattle.placing.specs.declared.State.{State}
use Rattle.placing.proofs.Steps.{before, before_in, before_out}
use Rattle.placing.proofs.Counts.{before_grows}
use Rattle.placing.proofs.Holding.{holds_kept, groups_few, met_in_none, met_in_some, put_places, holds_put}

-- what the turns before group j come to, from t₀ at the node that is held
abbrev pub came : List ℕ → ℕ → List ℕ → State → ℕ → Described
came rows here c t₀ j = before (matrix rows) (length rows - suc here) (take here c) (state_of (length rows) t₀) j

-- what holds where group j's turn begins: t holds what the turns before it came to, and the sets and places are restored
pub record Turn (cap : ℕ) (rows : List ℕ) (here m : ℕ) (sets₀ c₀ : List ℕ) (t₀ : State) (sets c : List ℕ) (t : State) (j : ℕ) : Type 0 where
  pub first : ReadyAt cap rows here m sets₀ c₀ t₀
  pub more : here < length rows
  pub most : j ≤ suc m
  pub kept : Kept here sets₀ c₀ sets c
  pub is : state_of (length rows) t ≡ came rows here c₀ t₀ j
  pub fair : Fair (length rows) t
  pub budget : t.budget ≡ t₀.budget

module _ {cap : ℕ} {rows : List ℕ} {here m : ℕ} {sets₀ c₀ : List ℕ} {t₀ : State} {sets c : List ℕ} {t : State} {j : ℕ}
    (u : Turn cap rows here m sets₀ c₀ t₀ sets c t j) where
  abbrev n : ℕ
  n = length rows

  abbrev clash : ℕ → ℕ → Bool
  clash = matrix rows

  abbrev left : ℕ
  left = n - suc here

  pub holds_now : HoldsAt cap here m sets c
  holds_now = holds_kept u.first.holds u.kept

  pub entry_inside : here < cap
  entry_inside = omega (arith, u.more, u.first.few)

  pub groups_inside : m < cap
  groups_inside = omega (arith, groups_few holds_now entry_inside, entry_inside)

  -- the last turn is over
  pub last_turn : m < j → Comes n t₀ t (came rows here c₀ t₀ (suc m)) × Kept here sets₀ c₀ sets c
  last_turn b =
      let e : j ≡ suc m = omega (arith, u.most) in
      (record { is = u.is ∙ ap (came rows here c₀ t₀) e; fair = u.fair; budget = u.budget }, u.kept)

  pub set_inside : j ≤ m → j < cap
  set_inside low = omega (arith, groups_inside)

  module _ (low : j ≤ m) (x : ℕ) (meets : IsMeet (get_or rows here zero) (get_or sets j zero) x) where
    -- group j does not admit the entry: the next group's turn begins
    pub passed_over : x ≢ 0 → Turn cap rows here m sets₀ c₀ t₀ sets c t (j + 1)
    passed_over q = record {
      first = u.first;
      more = u.more;
      most = omega arith;
      kept = u.kept;
      is = u.is ∙ sym (before_out clash left (take here c₀) (state_of n t₀) j closed) ∙ ap (came rows here c₀ t₀) (sym (add-one j));
      fair = u.fair;
      budget = u.budget;
    }
      where
        closed : admits clash (take here c₀) j ≡ false
        closed =
            ap (λ (l : List ℕ). admits clash l j) (sym u.kept.places_same)
            ∙ met_in_some holds_now entry_inside j (set_inside low) rows x meets q

    -- it admits the entry, which is put into it
    module _ (none : x ≡ 0) (g' : ℕ) (joins : IsWith (get_or sets j zero) here g') where
      abbrev g : ℕ
      g = get_or sets j zero

      abbrev sets' : List ℕ
      sets' = set sets j g'

      abbrev c' : List ℕ
      c' = set c here j

      pub put_ready : ReadyAt cap rows (here + 1) (more_of m j) sets' c' t
      put_ready = record {
        few = u.first.few;
        below = omega (arith, u.more);
        holds = holds_put holds_now entry_inside j (set_inside low) g' joins low;
        fair = u.fair;
      }

      admitted : T (admits clash (take here c) j)
      admitted = met_in_none holds_now entry_inside j (set_inside low) rows x meets none

      -- what is due at that node is what the turns up to this one come to
      put_due : due rows (here + 1) c' t ≡ came rows here c₀ t₀ (suc j)
      unfolding due
      put_due =
          ap₂ (λ (k : ℕ) (l : List ℕ). search clash k l (state_of n t)) (let z : n - (here + 1) ≡ left = omega arith in z)
          (put_places holds_now entry_inside j (set_inside low) g' joins ∙ ap (λ (l : List ℕ). put l j) u.kept.places_same)
          ∙ ap (search clash left (put (take here c₀) j)) u.is
          ∙ sym (before_in clash left (take here c₀) (state_of n t₀) j (rw (← u.kept.places_same) admitted))

      -- the budget is spent there: then it is not enough for all turns
      pub turn_spent : {e : Unsolved} → Exceeds t (due rows (here + 1) c' t) e → Exceeds t₀ (came rows here c₀ t₀ (suc m)) e
      turn_spent x = record {
        told = x.told ∙ ap Budget u.budget;
        more = omega (
          arith,
          x.more,
          u.budget,
          ap (λ (d : Described). d.nodes) put_due,
          before_grows clash left (take here c₀) (state_of n t₀) (suc j) (suc m) (omega arith),
        );
      }

      -- or the next group's turn begins
      pub turn_done : {r : State} {sets'' c'' : List ℕ} → Comes n t r (due rows (here + 1) c' t) → Kept (here + 1) sets' c' sets'' c''
          → Turn cap rows here m sets₀ c₀ t₀ (set sets'' j g) c'' r (j + 1)
      turn_done {r} {sets''} {c''} comes kept = record {
        first = u.first;
        more = u.more;
        most = omega arith;
        kept = record {
          sets_same = ap (λ (l : List ℕ). set l j g) kept.sets_same ∙ set-set sets j g' g ∙ set-get_or sets j zero ∙ u.kept.sets_same;
          places_same = sym (take-take here (here + 1) c'' (omega arith)) ∙ ap (take here) kept.places_same ∙ take-take here (here + 1) c' (omega arith)
              ∙ take-set-le here c here j (omega arith) ∙ u.kept.places_same;
          places_long = kept.places_long ∙ length-set c here j ∙ u.kept.places_long;
        };
        is = comes.is ∙ put_due ∙ ap (came rows here c₀ t₀) (sym (add-one j));
        fair = comes.fair;
        budget = comes.budget ∙ u.budget;
      }
