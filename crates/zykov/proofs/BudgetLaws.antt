-- A walk that stops at its budget is the whole walk where that enters no more nodes than the budget, and is refused where it enters more. Assumes
-- nothing.
use mathlib.Core.Path.{◌≡◌, sym, ap, ◌∙◌}
use mathlib.Core.Bool.{Bool, true, false, cond}
use mathlib.Core.Option.{Option, none, some}
use Prim.Native.Nat.{ℕ, suc, ◌≤◌, ◌<◌}
use native.Mathlib.Decide.{dec_lt}
use native.Mathlib.Omega.{arith}
use borrow.Author.Tests.{lt-ltb, le-ltb, le-leb, lt-leb}
use Rattle.zykov.specs.Tree.{Tree, leaf, fork}
use Rattle.zykov.specs.Walk.{State, Rule, enter, size, unless, walk}
use Rattle.zykov.specs.Budget.{afford, go_on, unless?, within, capped}
use Rattle.zykov.proofs.Counts.{Counts, walk_enters}

pub capped_yes : (m : ℕ) (s : State) → s.nodes ≤ m → capped m s ≡ some s
capped_yes m s h = ap (λ b. cond b (some s) none) (le-leb s.nodes m h)

pub capped_no : (m : ℕ) (s : State) → m < s.nodes → capped m s ≡ none
capped_no m s h = ap (λ b. cond b (some s) none) (lt-leb s.nodes m h)

pub afford_yes : (m : ℕ) (s : State) → s.nodes < m → afford m s ≡ some (enter s)
afford_yes m s h = ap (λ b. cond b (some (enter s)) none) (lt-ltb s.nodes m h)

pub afford_no : (m : ℕ) (s : State) → m ≤ s.nodes → afford m s ≡ none
afford_no m s h = ap (λ b. cond b (some (enter s)) none) (le-ltb s.nodes m h)

module _ (R : Rule) (counts : Counts R) (m : ℕ) where
  pub within_is : (t : Tree) (s : State) → within R m t s ≡ capped m (walk R t s)
  unfolding within walk
  within_is (leaf g) s = go (dec_lt s.nodes m)
    where
      here : State → Option State
      here t = unless? (R.cut g (size s)) t (λ t. some (R.found g t))

      by : (b : Bool) → s.nodes < m → unless? b (enter s) (λ t. some (R.found g t)) ≡ capped m (unless b (enter s) (R.found g))
      by true h = sym (capped_yes m (enter s) h)
      by false h = sym (capped_yes m (R.found g (enter s)) (omega (arith, counts g (enter s))))

      go : Dec (s.nodes < m) → within R m (leaf g) s ≡ capped m (walk R (leaf g) s)
      go (yes h) = ap (λ o. go_on o here) (afford_yes m s h) ∙ by (R.cut g (size s)) h
      go (no q) = ap (λ o. go_on o here) (afford_no m s (omega arith)) ∙ sym (capped_no m (walk R (leaf g) s) (omega (arith, walk_enters R counts (leaf g) s)))
  within_is (fork g l r) s = go (dec_lt s.nodes m) (within_is l (enter s)) (within_is r (walk R l (enter s)))
    where
      wl : State
      wl = walk R l (enter s)

      here : State → Option State
      here t = unless? (R.cut g (size s)) t (λ t. go_on (within R m l t) (within R m r))

      next : within R m r wl ≡ capped m (walk R r wl) → Dec (wl.nodes < suc m) → go_on (capped m wl) (within R m r) ≡ capped m (walk R r wl)
      next e (yes h) = ap (λ o. go_on o (within R m r)) (capped_yes m wl (omega arith)) ∙ e
      next e (no q) =
          ap (λ o. go_on o (within R m r)) (capped_no m wl (omega arith)) ∙ sym (capped_no m (walk R r wl) (omega (arith, walk_enters R counts r wl)))

      by : (b : Bool) → s.nodes < m → within R m l (enter s) ≡ capped m wl → within R m r wl ≡ capped m (walk R r wl)
          → unless? b (enter s) (λ t. go_on (within R m l t) (within R m r)) ≡ capped m (unless b (enter s) (λ t. walk R r (walk R l t)))
      by true h x y = sym (capped_yes m (enter s) h)
      by false h x y = ap (λ o. go_on o (within R m r)) x ∙ next y (dec_lt wl.nodes (suc m))

      go : Dec (s.nodes < m) → within R m l (enter s) ≡ capped m wl → within R m r wl ≡ capped m (walk R r wl)
          → within R m (fork g l r) s ≡ capped m (walk R (fork g l r) s)
      go (yes h) x y = ap (λ o. go_on o here) (afford_yes m s h) ∙ by (R.cut g (size s)) h x y
      go (no q) x y = ap (λ o. go_on o here) (afford_no m s (omega arith)) ∙ sym (capped_no m (walk R (fork g l r) s) (omega (arith, walk_enters R counts (fork g l r) s)))
