-- The described search, a step at a time: what it comes to at a node, by what stops it there; and one law by which all others of it are proved. Assumes
-- nothing.
use mathlib.Core.Path.{◌≡◌, sym, ap, ◌∙◌, subst}
use mathlib.Core.Bool.{Bool, false}
use mathlib.Core.List.{List, [], ◌∷◌, ◌++◌}
use Prim.Native.Nat.{ℕ, zero, suc, ◌≤◌, ◌<◌}
use native.Mathlib.Decide.{dec_le}
use native.Mathlib.Omega.{arith}
use borrow.Author.Tests.{le-leb, lt-leb}
use lib.Dec.{T}
use Rattle.sets.specs.Lists.{keep, members, over}
use Rattle.sets.proofs.TestLaws.{T→true}
use Rattle.sets.proofs.ListLaws.{over_append}
use Rattle.clashes.specs.Divisions.{groups}
use Rattle.placing.specs.Search.{State, enter, size, admits, choices, put, become, unless, search}

module _ (clash : ℕ → ℕ → Bool) where
  -- a turn: the next entry of c into group j
  abbrev pub turn : ℕ → List ℕ → State → ℕ → State
  turn left c t j = search clash left (put c j) t

  pub search_back : (left : ℕ) (c : List ℕ) (s : State) → size s ≤ groups 0 c → search clash left c s ≡ enter s
  unfolding search
  search_back zero c s h = rw (le-leb (size s) (groups 0 c) h)
  search_back (suc left) c s h = rw (le-leb (size s) (groups 0 c) h)

  pub search_full : (c : List ℕ) (s : State) → groups 0 c < size s → search clash zero c s ≡ become c (enter s)
  unfolding search
  search_full c s h = rw (lt-leb (size s) (groups 0 c) h)

  pub search_on : (left : ℕ) (c : List ℕ) (s : State) → groups 0 c < size s → search clash (suc left) c s ≡ over (turn left c) (enter s) (choices clash c)
  unfolding search
  search_on left c s h = ap (λ (b : Bool). unless b (enter s) (λ t. over (turn left c) t (choices clash c))) (lt-leb (size s) (groups 0 c) h)

  -- a relation of node, state before and state after holds of the search where it holds of a node that is gone back from, of a full one, and of one whose
  -- placings have it
  module _ (Q : ℕ → List ℕ → State → State → Type 0) (back : (left : ℕ) (c : List ℕ) (s : State) → size s ≤ groups 0 c → Q left c s (enter s))
      (full : (c : List ℕ) (s : State) → groups 0 c < size s → Q zero c s (become c (enter s)))
      (on : (left : ℕ) (c : List ℕ) (s : State) → groups 0 c < size s → ((t : State) (j : ℕ) → Q left (put c j) t (turn left c t j))
      → Q (suc left) c s (over (turn left c) (enter s) (choices clash c))) where
    pub search_by : (left : ℕ) (c : List ℕ) (s : State) → Q left c s (search clash left c s)
    search_by zero c s = go (dec_le (size s) (groups 0 c))
      where
        go : Dec (size s ≤ groups 0 c) → Q zero c s (search clash zero c s)
        go (yes h) = subst (Q zero c s) (sym (search_back zero c s h)) (back zero c s h)
        go (no q) = let h : groups 0 c < size s = omega arith in subst (Q zero c s) (sym (search_full c s h)) (full c s h)
    search_by (suc left) c s = go (dec_le (size s) (groups 0 c)) (λ t j. search_by left (put c j) t)
      where
        go : Dec (size s ≤ groups 0 c) → ((t : State) (j : ℕ) → Q left (put c j) t (turn left c t j)) → Q (suc left) c s (search clash (suc left) c s)
        go (yes h) r = subst (Q (suc left) c s) (sym (search_back (suc left) c s h)) (back (suc left) c s h)
        go (no q) r = let h : groups 0 c < size s = omega arith in subst (Q (suc left) c s) (sym (search_on left c s h)) (on left c s h r)

  -- ---- one group after the other: what the turns before group j come to

  module _ (left : ℕ) (c : List ℕ) (s : State) where
    abbrev pub before : ℕ → State
    before j = over (turn left c) s (members (admits clash c) j)

    pub before_in : (j : ℕ) → T (admits clash c j) → before (suc j) ≡ turn left c (before j) j
    before_in j t =
        ap (λ (b : Bool). over (turn left c) s (members (admits clash c) j ++ keep b j)) (T→true (admits clash c j) t)
        ∙ over_append (turn left c) s (members (admits clash c) j) (j ∷ [])

    pub before_out : (j : ℕ) → admits clash c j ≡ false → before (suc j) ≡ before j
    before_out j e =
        ap (λ (b : Bool). over (turn left c) s (members (admits clash c) j ++ keep b j)) e ∙ over_append (turn left c) s (members (admits clash c) j) []
