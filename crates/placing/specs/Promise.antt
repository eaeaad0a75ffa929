-- What the search by placing promises, for every list, buffer and budget: the answer, and the lent colour bytes as they are afterwards.
--
--   Numbers, numbers a : an answer in document 01's numbers: its number in the table (crate refusals), and k, nodes and row; 0 where it names none
--   searched rows      : the described search of the list
--   Accepts            : the list is accepted: k is the chromatic number, and the bytes are a clash-free division into k groups (fewest, division, free,
--                        many); division and count are those of the described search (best, count, paid), and the bytes from n on stay
--   Spent              : what refusal 6 says: the described search has more nodes than the budget
--   Met v after        : what the numbers v say is so, and `after` are the bytes
--   Promised a after   : the same of an answer's numbers
--   answer, lent       : the answer and the bytes, computed
--
-- Each is stated for lists of up to `most` entries (`PromisedUpTo most`, ..) and is then named for today's 64. Assumes nothing.
use Rattle.std.specs.Prelude.{◌≡◌, cond, Result, Ok, Err, List, ◌++◌, ℕ, ◌≤◌, ◌<◌, T, leb, ltb, eqb, length, take, drop}
use Rattle.refusals.specs.Table.{Told as Table, told, accepted, number_of, If}
use Rattle.refusals.specs.declared.Refusal.TheVariants as refusal
use Rattle.refusals.specs.declared.Invalid.{Invalid}
use Rattle.refusals.specs.declared.Invalid.TheVariants.{Many, Stray, Itself, OneSided}
use Rattle.refusals.specs.declared.Unsolved.{Unsolved}
use Rattle.refusals.specs.declared.Unsolved.TheVariants.{OfRows, Short, Budget}
use Rattle.clashes.specs.Matrix.{matrix, judge_up_to}
use Rattle.clashes.specs.Colouring.{Chromatic}
use Rattle.clashes.specs.Divisions.{groups, Division, clash_free}
use Rattle.clashes.specs.Room.{OpenUpTo, RefusedUpTo}
use Rattle.placing.specs.Search.{State as Described, size, placing_search}
use Rattle.placing.specs.declared.Placing.{Placing}

pub record Numbers : Type 0 where
  pub number : ℕ
  pub k : ℕ
  pub nodes : ℕ
  pub row : ℕ

-- a refusal: its number, with the row or the nodes that the table names
abbrev pub refused_as : Table → Numbers
refused_as t = record { number = t.number; k = 0; nodes = t.nodes; row = t.row }

abbrev pub numbers : Result Placing Unsolved → Numbers
numbers (Ok p) = record { number = accepted; k = p.k; nodes = p.nodes; row = 0 }
numbers (Err (OfRows Many)) = refused_as (told refusal.Many 0)
numbers (Err (OfRows (Stray i))) = refused_as (told refusal.Stray i)
numbers (Err (OfRows (Itself i))) = refused_as (told refusal.Itself i)
numbers (Err (OfRows (OneSided i))) = refused_as (told refusal.OneSided i)
numbers (Err Short) = refused_as (told refusal.Short 0)
numbers (Err (Budget m)) = refused_as (told refusal.Budget m)

abbrev pub searched : List ℕ → Described
searched rows = placing_search (length rows) (matrix rows)

module _ (most : ℕ) (rows before : List ℕ) (budget : ℕ) where
  pub record AcceptsUpTo (v : Numbers) (after : List ℕ) : Type 0 where
    pub opened : OpenUpTo most rows (length before)
    pub fewest : Chromatic (length rows) (matrix rows) v.k
    pub division : Division (length rows) (take (length rows) after)
    pub free : T (clash_free (length rows) (matrix rows) (take (length rows) after))
    pub many : groups 0 (take (length rows) after) ≡ v.k
    pub best : take (length rows) after ≡ (searched rows).best
    pub count : v.nodes ≡ (searched rows).nodes
    pub paid : v.nodes ≤ budget
    pub kept : drop (length rows) after ≡ drop (length rows) before

  pub record SpentUpTo (v : Numbers) : Type 0 where
    pub opened : OpenUpTo most rows (length before)
    pub all : v.nodes ≡ budget
    pub more : budget < (searched rows).nodes

  -- by the number in the table. Nothing lent is written by a refusal.
  abbrev pub MetUpTo : Numbers → List ℕ → Type 0
  MetUpTo v after =
      If (eqb v.number accepted) (AcceptsUpTo v after)
      ((If (eqb v.number (number_of refusal.Budget)) (SpentUpTo v)
      (RefusedUpTo most rows (length before) v.number v.row))
      × (after ≡ before))

  abbrev pub PromisedUpTo : Result Placing Unsolved → List ℕ → Type 0
  PromisedUpTo a after = MetUpTo (numbers a) after

  -- ---- computed

  abbrev pub ended : Described → Result Placing Unsolved
  ended w = cond (leb w.nodes budget) (Ok (record { k = size w; nodes = w.nodes })) (Err (Budget budget))

  abbrev pub lent : Result Placing Unsolved → List ℕ
  lent (Ok p) = (searched rows).best ++ drop (length rows) before
  lent (Err e) = before

abbrev pub refused : Result Unit Invalid → Result Placing Unsolved → Result Placing Unsolved
refused (Ok u) next = next
refused (Err w) next = Err (OfRows w)

-- in the order of document 02: 1 to 5, then 6
abbrev pub answer_up_to : ℕ → List ℕ → List ℕ → ℕ → Result Placing Unsolved
answer_up_to most rows before budget =
    refused (judge_up_to most rows) (cond (ltb (length before) (length rows)) (Err Short) (ended most rows before budget (searched rows)))

-- ---- up to 64 entries

abbrev pub Promised : List ℕ → List ℕ → ℕ → Result Placing Unsolved → List ℕ → Type 0
Promised rows before budget a after = PromisedUpTo 64 rows before budget a after
