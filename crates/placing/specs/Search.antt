-- Document 02, Ask 6, sentence by sentence: "a search that never merges". A node is a placing: the entries 0, 1, .., length c - 1 are in groups. Entry i's
-- group stands at place i of c, and groups are numbered from 0 by first use, as those of a division are.
--
--   State                 : the best division so far, and the number of nodes entered
--   start n               : before the first node
--   enter s               : a node is entered
--   size s                : the best size known
--   reached c s           : the groups of c reach it
--   admits clash c j      : group j of c admits the next entry
--   choices clash c       : the groups that the next entry is put into, in order
--   put c j               : c, with the next entry in group j
--   become c s            : the full placing c becomes the best
--   search clash left c s : the search from the node c, where `left` entries are still to be placed, from s
--   placing_search n clash : the whole search of a list
--   nodes_from clash left c: how many nodes a search from c has that never goes back
--
-- Assumes nothing.
use Rattle.std.specs.Prelude.{Bool, true, false, not, ◌&&◌, List, [], ◌∷◌, ◌++◌, ℕ, zero, suc, ◌+◌, eqb, leb, length}
use Rattle.sets.specs.Lists.{all, members, over}
use Rattle.clashes.specs.Divisions.{at, groups, alone}

pub record State : Type 0 where
  pub best : List ℕ
  pub nodes : ℕ

-- "Start from n groups as the walk does": every entry alone
abbrev pub start : ℕ → State
start n = record { best = alone n; nodes = zero }

-- "one node for the empty start and one for each placing, those that go back at once included"
abbrev pub enter : State → State
enter s = record { best = s.best; nodes = suc s.nodes }

abbrev pub size : State → ℕ
size s = groups 0 s.best

-- "if the groups reach the best size known"
abbrev pub reached : List ℕ → State → Bool
reached c s = leb (size s) (groups 0 c)

-- "take entries in number order": the next entry is length c. A group admits it where it clashes with none of the group.
abbrev pub admits : (ℕ → ℕ → Bool) → List ℕ → ℕ → Bool
admits clash c j = all (length c) (λ y. not (clash (length c) y && eqb (at c y) j))

-- "put each into every group that admits it, in group order, and last into a new one"
abbrev pub choices : (ℕ → ℕ → Bool) → List ℕ → List ℕ
choices clash c = members (admits clash c) (groups 0 c) ++ groups 0 c ∷ []

abbrev pub put : List ℕ → ℕ → List ℕ
put c j = c ++ j ∷ []

-- "a full placing below it becomes the best"
abbrev pub become : List ℕ → State → State
become c s = record { best = c; nodes = s.nodes }

-- go back with s, or go on from s
abbrev pub unless : Bool → State → (State → State) → State
unless true s f = s
unless false s f = f s

-- "On entering a node, and only then, go back if the groups reach the best size known". Otherwise a full placing becomes the best, and of any other the
-- next entry's placings are entered, one after the other.
unfoldable pub search : (ℕ → ℕ → Bool) → ℕ → List ℕ → State → State
search clash zero c s = unless (reached c s) (enter s) (become c)
search clash (suc left) c s = unless (reached c s) (enter s) (λ t. over (λ t j. search clash left (put c j) t) t (choices clash c))

-- from "the empty start"
abbrev pub placing_search : ℕ → (ℕ → ℕ → Bool) → State
placing_search n clash = search clash n [] (start n)

-- the node c, and those from each placing of the next entry
unfoldable pub nodes_from : (ℕ → ℕ → Bool) → ℕ → List ℕ → ℕ
nodes_from clash zero c = 1
nodes_from clash (suc left) c = over (λ k j. k + nodes_from clash left (put c j)) 1 (choices clash c)
