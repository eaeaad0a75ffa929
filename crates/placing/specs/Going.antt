-- A search of the code on its way, read as the described one.
--
--   state_of n s       : the described search's state that s holds, for n entries
--   Fair n s           : s's number of groups is that of its best division, and no more nodes are entered than the budget has
--   Starts n m r       : r is the state before the first node, with the budget m
--   Holds at m sets c  : the first `at` places of c are a placing into m groups, and `sets` are its groups. Those from m on are empty
--   Ready              : the search may enter the node that these hold, from s
--   due                : what the described search comes to from that node
--   Comes n s r w      : from s the search came to r, which holds the described state w
--   Kept               : the sets, and the places of the first `at` entries, are as before
--   Exceeds s w e      : e is the refusal of s's budget, and the described state w has more nodes than that
--   Entered            : the node that these hold was entered from s, and it came to r; or the budget has not the nodes that are due
--   Counted s r t      : t is s with one node more; or r is the refusal, where the budget has no more
--   more_of m j        : how many groups there are of m, once an entry is put into group j
--
-- Sets and places are of `cap` entries (`HoldsAt cap`, `ReadyAt cap`); today's are of 64. Assumes nothing.
use Rattle.std.specs.Prelude.{◌≡◌, ◌&&◌, Result, Ok, Err, List, ℕ, zero, suc, ◌+◌, ◌-◌, ◌≤◌, ◌<◌, max, eqb, ltb, length, take, get_or}
use Rattle.refusals.specs.declared.Unsolved.{Unsolved}
use Rattle.refusals.specs.declared.Unsolved.TheVariants.{Budget}
use Rattle.sets.specs.Set.{has}
use Rattle.clashes.specs.Matrix.{matrix}
use Rattle.clashes.specs.Divisions.{Canon, groups}
use Rattle.placing.specs.Search.{State as Described, start, search}
use Rattle.placing.specs.declared.State.{State}

abbrev pub state_of : ℕ → State → Described
state_of n s = record { best = take n s.best; nodes = s.nodes }

pub record Fair (n : ℕ) (s : State) : Type 0 where
  pub size : s.k ≡ groups 0 (take n s.best)
  pub paid : s.nodes ≤ s.budget

pub record Starts (n m : ℕ) (r : State) : Type 0 where
  pub fair : Fair n r
  pub budget : r.budget ≡ m
  pub is : state_of n r ≡ start n

pub record HoldsAt (cap at m : ℕ) (sets c : List ℕ) : Type 0 where
  pub numbered : Canon 0 (take at c)
  pub many : groups 0 (take at c) ≡ m
  pub sets_long : length sets ≡ cap
  pub places_long : length c ≡ cap
  pub members : (j i : ℕ) → j < cap → has (get_or sets j zero) i ≡ (ltb i at && eqb (get_or c i zero) j)

pub record ReadyAt (cap : ℕ) (rows : List ℕ) (at m : ℕ) (sets c : List ℕ) (s : State) : Type 0 where
  pub few : length rows ≤ cap
  pub below : at ≤ length rows
  pub holds : HoldsAt cap at m sets c
  pub fair : Fair (length rows) s

abbrev pub Ready : List ℕ → ℕ → ℕ → List ℕ → List ℕ → State → Type 0
Ready rows at m sets c s = ReadyAt 64 rows at m sets c s

unfoldable pub due : List ℕ → ℕ → List ℕ → State → Described
due rows at c s = search (matrix rows) (length rows - at) (take at c) (state_of (length rows) s)

pub record Comes (n : ℕ) (s r : State) (w : Described) : Type 0 where
  pub is : state_of n r ≡ w
  pub fair : Fair n r
  pub budget : r.budget ≡ s.budget

pub record Kept (at : ℕ) (sets c sets' c' : List ℕ) : Type 0 where
  pub sets_same : sets' ≡ sets
  pub places_same : take at c' ≡ take at c
  pub places_long : length c' ≡ length c

pub record Exceeds (s : State) (w : Described) (e : Unsolved) : Type 0 where
  pub told : e ≡ Budget s.budget
  pub more : s.budget < w.nodes

abbrev pub Entered : List ℕ → ℕ → List ℕ → List ℕ → State → Result Unit Unsolved → List ℕ → List ℕ → State → Type 0
Entered rows at sets c s (Ok u) sets' c' s' = Comes (length rows) s s' (due rows at c s) × Kept at sets c sets' c'
Entered rows at sets c s (Err e) sets' c' s' = Exceeds s (due rows at c s) e

abbrev pub Counted : State → Result Unit Unsolved → State → Type 0
Counted s (Ok u) t = (s.nodes < s.budget) × (t ≡ record { best = s.best; k = s.k; nodes = s.nodes + 1; budget = s.budget })
Counted s (Err e) t = (s.budget ≤ s.nodes) × (e ≡ Budget s.budget) × (t ≡ s)

abbrev pub more_of : ℕ → ℕ → ℕ
more_of m j = max m (suc j)
