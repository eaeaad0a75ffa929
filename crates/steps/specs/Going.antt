-- A walk of the code on its way, read as the described one. Rows, names, the best division and the trail are lent. Rows are of `words` words, 1 or 4;
-- `cap` is how many entries such rows hold, 64 a word.
--
--   Lent, lending         : what is lent to a walk
--   node_in words n live l : the node that is held there: rows are read by their words, names are a forest
--   state_of n best s     : the described walk's state that s and the lent best hold, for n entries
--   outcome n best r      : that state for a walk that ended in r, or none where the budget had no more
--   outcome_telling n best r : the same for a walk that tells the state it stands at where the budget has no more
--   stopped_at r          : the code's state in r, on either side
--   Fair n best s         : s's number of groups is that of the best division, and no more complete graphs are met than nodes entered
--   begun n m             : before the first node, with the budget m
--   counted s             : s with one node more, or s as an error where the budget has no more
--   Ready cap h best s    : the walk may enter h from s
--   Goes n s best t       : t is fair with this best, and has the budget of s
--   Comes n s best r o    : from s the walk came to r and to this best, which hold the described outcome o; r is none where the budget has no more
--   ComesTelling n s best r o : the same for a walk that tells its state; that is fair there, out of budget too
--   Found f h .. best r   : h is complete, and r with this best is what f makes of it
--   Finds f n live names .. : so it is of every node with this live set and these names. So a function that is lent names alone says what they stand for
--   Merging, Unmerging    : v is merged into u, in rows and names; and that is undone
--   Parting               : u and v are adjacent, and the pair stands on the trail
--   Laid .. l at          : l's rows are of the form, its names a forest for them, its best has a byte for each entry, and its trail has room from at on for
--                           each pair that is open
--   Kept words l at l'    : afterwards, in l', rows and names are as they were, and so is the trail below at
--   Left words l at k l'  : so they are but for the rows, which are as they were without the k pairs of the trail from at on
--   Enters, Entered R     : the walk may enter the node held in l; by the rule R it came back from there
--   EnteredTelling R      : so does a walk that tells its state
--   Splits, Onward R      : the same where the node is entered already and is split at u and v
--   Lends, Lays           : a list's rows, and room for a walk over them, names of zeros; the rows stand there and every entry is alone
--   Walked R n rows m ..  : by the rule R the walk over this list with the budget m came to best and r
--   WalkedTelling R n rows m .. : so did one that tells its state
--
-- Assumes nothing.
use Rattle.std.specs.Prelude.{◌≡◌, cond, List, ◌++◌, ℕ, zero, ◌+◌, ◌*◌, ◌≤◌, ◌<◌, ltb, take, drop, length, get_or, set, replicate, Option, Some, None, IfSome, Result, Ok, Err}
use Rattle.std.proofs.Math.Option.{Option as MathOption, none, some}
use Rattle.wide.specs.Words.{num, rows_of}
use Rattle.wide.specs.Form.{Form, held}
use Rattle.wide.specs.declared.Set.{Set}
use Rattle.clashes.specs.Divisions.{groups, alone}
use Rattle.clashes.specs.Matrix.{matrix, SoundUpTo}
use Rattle.graphs.specs.Graph.{Graph, pair, missing}
use Rattle.graphs.specs.Held.{HeldAt, view, node}
use Rattle.graphs.specs.declared.Node.{Node}
use Rattle.undo.specs.Back.{Merges, Undone, Separates, Restored}
use Rattle.undo.specs.Forest.{Forest, called}
use Rattle.undo.specs.declared.Undo.{Undo}
use Rattle.zykov.specs.Tree.{below, zykov}
use Rattle.zykov.specs.Walk.{State as Described, Rule, start}
use Rattle.zykov.specs.Budget.{within, onward}
use Rattle.steps.specs.declared.State.{State}

pub record Lent : Type 0 where
  pub rows : List ℕ
  pub names : List ℕ
  pub best : List ℕ
  pub trail : List ℕ

abbrev pub lending : List ℕ → List ℕ → List ℕ → List ℕ → Lent
lending rows names best trail = record { rows = rows; names = names; best = best; trail = trail }

abbrev pub node_in : ℕ → ℕ → Set → Lent → Node
node_in words n live l = node n (num live) (held words l.rows) (called l.names)

-- ---- a state

abbrev pub state_of : ℕ → List ℕ → State → Described
state_of n best s = record { best = take n best; nodes = s.nodes; leaves = s.leaves }

abbrev pub outcome : ℕ → List ℕ → Option State → MathOption Described
outcome n best (Some s) = some (state_of n best s)
outcome n best None = none

abbrev pub outcome_telling : ℕ → List ℕ → Result State State → MathOption Described
outcome_telling n best (Ok s) = some (state_of n best s)
outcome_telling n best (Err s) = none

abbrev pub stopped_at : Result State State → State
stopped_at (Ok s) = s
stopped_at (Err s) = s

pub record Fair (n : ℕ) (best : List ℕ) (s : State) : Type 0 where
  pub size : s.k ≡ groups 0 (take n best)
  pub few : s.leaves ≤ s.nodes

abbrev pub begun : ℕ → ℕ → State
begun n m = record { k = n; nodes = 0; leaves = 0; budget = m }

abbrev pub counted : State → Result State State
counted s = cond (ltb s.nodes s.budget) (Ok (record { k = s.k; nodes = s.nodes + 1; leaves = s.leaves; budget = s.budget })) (Err s)

pub record Ready (cap : ℕ) (h : Node) (best : List ℕ) (s : State) : Type 0 where
  pub held : HeldAt cap h
  pub fair : Fair h.n best s

-- s went on to t, with this best
pub record Goes (n : ℕ) (s : State) (best : List ℕ) (t : State) : Type 0 where
  pub fair : Fair n best t
  pub budget : t.budget ≡ s.budget

pub record Comes (n : ℕ) (s : State) (best : List ℕ) (r : Option State) (o : MathOption Described) : Type 0 where
  pub is : outcome n best r ≡ o
  pub goes : IfSome r (Goes n s best)

pub record ComesTelling (n : ℕ) (s : State) (best : List ℕ) (r : Result State State) (o : MathOption Described) : Type 0 where
  pub is : outcome_telling n best r ≡ o
  pub goes : Goes n s best (stopped_at r)

pub record Found (take-up : Graph → Described → Described) (h : Node) (best : List ℕ) (s : State) (best' : List ℕ) (r : State) : Type 0 where
  pub is : state_of h.n best' r ≡ take-up (view h) (state_of h.n best s)
  pub goes : Goes h.n s best' r

-- ---- names alone

pub record Finds (f : ℕ → Graph → Described → Described) (n live : ℕ) (names best : List ℕ) (s : State) (best' : List ℕ) (r : State) : Type 0 where
  pub long : length best' ≡ length best
  pub is : (cap : ℕ) (rows : List ℕ) → cap ≤ 256 → Ready cap (node n live rows (called names)) best s
      → Found (f n) (node n live rows (called names)) best s best' r

-- ---- rows, names and the trail

module _ (words : ℕ) where
  pub record Merging (live : Set) (rows names : List ℕ) (u v : ℕ) (rows' names' : List ℕ) (d : Undo) : Type 0 where
    pub form : Form words rows'
    pub rows_are : Merges (64 * words) (num live) (held words rows) u v (held words rows') (num d.old) (num d.near)
    pub names_are : names' ≡ set names v u

  pub record Unmerging (rows names : List ℕ) (u v : ℕ) (d : Undo) (rows' names' : List ℕ) : Type 0 where
    pub form : Form words rows'
    pub rows_are : Undone (held words rows) u (num d.old) (num d.near) (held words rows')
    pub names_are : names' ≡ set names v v

  pub record Parting (rows trail : List ℕ) (top u v : ℕ) (rows' trail' : List ℕ) : Type 0 where
    pub form : Form words rows'
    pub rows_are : Separates (64 * words) (held words rows) u v (held words rows')
    pub trail_is : trail' ≡ set trail top (u * 256 + v)

  pub record Laid (n : ℕ) (live : Set) (l : Lent) (at : ℕ) : Type 0 where
    pub form : Form words l.rows
    pub forest : Forest l.names
    pub named : length l.names ≡ 64 * words
    pub bytes : n ≤ length l.best
    pub room : at + missing n (view (node_in words n live l)) ≤ length l.trail

  -- what both Kept and Left say
  pub record Stays (l : Lent) (at : ℕ) (l' : Lent) : Type 0 where
    pub form : Form words l'.rows
    pub names : l'.names ≡ l.names
    pub best_long : length l'.best ≡ length l.best
    pub trail_long : length l'.trail ≡ length l.trail
    pub trail : (j : ℕ) → j < at → get_or l'.trail j zero ≡ get_or l.trail j zero

  pub record Kept (l : Lent) (at : ℕ) (l' : Lent) : Type 0 where
    pub stays : Stays l at l'
    pub rows : held words l'.rows ≡ held words l.rows

  pub record Left (l : Lent) (at more : ℕ) (l' : Lent) : Type 0 where
    pub stays : Stays l at l'
    pub rows : Restored (64 * words) l'.trail at more (held words l'.rows) (held words l.rows)
    pub few : at + more ≤ length l'.trail

  -- ---- a node is entered, and comes back; a node is split

  pub record Enters (n : ℕ) (live : Set) (l : Lent) (at : ℕ) (s : State) : Type 0 where
    pub ready : Ready (64 * words) (node_in words n live l) l.best s
    pub laid : Laid n live l at

  pub record Entered (R : Rule) (n : ℕ) (live : Set) (l : Lent) (at : ℕ) (s : State) (l' : Lent) (r : Option State) : Type 0 where
    pub comes : Comes n s l'.best r (within R s.budget (below n (view (node_in words n live l))) (state_of n l.best s))
    pub kept : Kept l at l'

  pub record EnteredTelling (R : Rule) (n : ℕ) (live : Set) (l : Lent) (at : ℕ) (s : State) (l' : Lent) (r : Result State State) : Type 0 where
    pub comes : ComesTelling n s l'.best r (within R s.budget (below n (view (node_in words n live l))) (state_of n l.best s))
    pub kept : Kept l at l'

  pub record Splits (n : ℕ) (live : Set) (l : Lent) (at more u v : ℕ) (s : State) : Type 0 where
    pub none_yet : more ≡ 0
    pub enters : Enters n live l at s
    pub chosen : pair n (view (node_in words n live l)) ≡ some (u, v)

  pub record Onward (R : Rule) (n : ℕ) (live : Set) (l : Lent) (at u v : ℕ) (s : State) (l' : Lent) (r : Result State State) (more : ℕ) : Type 0 where
    pub comes : ComesTelling n s l'.best r (onward R s.budget n (view (node_in words n live l)) u v (state_of n l.best s))
    pub left : Left l at more l'

  -- ---- a whole list

  pub record Lends (n : ℕ) (rows : List ℕ) (l : Lent) : Type 0 where
    pub sound : SoundUpTo (64 * words) (rows_of words n rows)
    pub long : length rows ≡ n * words
    pub form : Form words l.rows
    pub unnamed : l.names ≡ replicate (64 * words) zero
    pub bytes : n ≤ length l.best
    pub room : n * n ≤ 2 * length l.trail + n

pub record Lays (n : ℕ) (rows held names best held' names' best' : List ℕ) : Type 0 where
  pub rows_are : held' ≡ rows ++ drop (length rows) held
  pub names_are : names' ≡ alone n ++ drop n names
  pub best_is : best' ≡ alone n ++ drop n best

abbrev pub Walked : Rule → ℕ → List ℕ → ℕ → List ℕ → Option State → Type 0
Walked R n rows m best r = Comes n (begun n m) best r (within R m (zykov n (matrix rows)) (start n))

abbrev pub WalkedTelling : Rule → ℕ → List ℕ → ℕ → List ℕ → Result State State → Type 0
WalkedTelling R n rows m best r = ComesTelling n (begun n m) best r (within R m (zykov n (matrix rows)) (start n))
