-- THE DEMANDS of document 02, Ask 6. Read this file first.
--
-- `PromisedUpTo most rows before budget a after` (specs/Promise.antt) is what `fewest_by_placing` is proved to meet, for lists of up to `most` entries:
-- `rows` and the colour bytes `before` are lent, a is the answer and `after` are the bytes afterwards. `Promised`, which its contract names, is the same
-- at 64. Each theorem says what follows from it, for every list, buffer and budget. `searched rows` is the described search (specs/Search.antt). Assumes
-- nothing.
use mathlib.Core.Path.{◌≡◌, sym}
use mathlib.Core.Logic.{◌≢◌}
use mathlib.Core.Bool.{Bool}
use mathlib.Core.List.{List, []}
use Prim.Native.Nat.{ℕ, ◌≤◌, ◌<◌}
use native.Mathlib.Omega.{arith}
use lib.Dec.{T}
use lib.ListN.{length, take, drop}
use Rattle.std.specs.Prelude.{Result, Ok, Err}
use Rattle.refusals.specs.Table.{accepted}
use Rattle.refusals.specs.declared.Unsolved.{Unsolved}
use Rattle.refusals.specs.declared.Unsolved.TheVariants.{Budget}
use Rattle.clashes.specs.Matrix.{matrix, Valid}
use Rattle.clashes.specs.Colouring.{Chromatic}
use Rattle.clashes.specs.Divisions.{groups, Division, clash_free}
use Rattle.clashes.specs.Room.{OpenUpTo}
use Rattle.clashes.proofs.Meaning.{chromatic_fewest, chromatic_unique}
use Rattle.placing.specs.Search.{start, size, placing_search, nodes_from}
use Rattle.placing.specs.Promise.{numbers, searched, PromisedUpTo, answer_up_to}
use Rattle.placing.specs.declared.Placing.{Placing}
use Rattle.placing.proofs.Best as best
use Rattle.placing.proofs.Counts as counts
use Rattle.placing.proofs.PromiseLaws as laws

-- ---- of the described search

-- Of a list in which clashes go both ways and no entry clashes with itself, its best is a clash-free division, and none has fewer groups.
pub search_chromatic : (n : ℕ) (clash : ℕ → ℕ → Bool) → Valid n clash → Chromatic n clash (size (placing_search n clash))
search_chromatic = best.placing_chromatic

-- Going back only saves nodes: its count is never above that of the same search that never goes back.
pub search_saves : (n : ℕ) (clash : ℕ → ℕ → Bool) → (placing_search n clash).nodes ≤ nodes_from clash n []
search_saves n clash = omega (arith, counts.search_most clash n [] (start n))

-- ---- of the call

module _ (most : ℕ) (rows before : List ℕ) (budget : ℕ) where
  -- One answer, and one state of the lent bytes.
  pub one_answer : (a b : Result Placing Unsolved) (after after' : List ℕ) → PromisedUpTo most rows before budget a after → PromisedUpTo most rows before budget b after'
      → (a ≡ b) × (after ≡ after')
  one_answer = laws.promised_unique most rows before budget

  -- "Refusals: 1 to 5 and then 6": the answer is the one that this order gives (`answer_up_to`), each under its condition and no other, or accepted.
  pub answered : (a : Result Placing Unsolved) (after : List ℕ) → PromisedUpTo most rows before budget a after → a ≡ answer_up_to most rows before budget
  answered a after p = sym (laws.promised_answer most rows before budget a after p)

  -- A refused call writes nothing.
  pub refused_kept : (a : Result Placing Unsolved) (after : List ℕ) → PromisedUpTo most rows before budget a after → (numbers a).number ≢ accepted → after ≡ before
  refused_kept = laws.refused_kept most rows before budget

  module _ (k m : ℕ) (after : List ℕ) (p : PromisedUpTo most rows before budget (Ok (record { k = k; nodes = m })) after) where
    -- k is the chromatic number, as document 000 defines it.
    pub is_chromatic : Chromatic (length rows) (matrix rows) k
    is_chromatic = p.fewest

    -- So it is the k of whatever answers the chromatic number of the same list: the walks', where neither is refused.
    pub same_k : (j : ℕ) → Chromatic (length rows) (matrix rows) j → k ≡ j
    same_k j q = chromatic_unique (length rows) (matrix rows) k j p.fewest q

    -- Each entry stands once: the first n lent bytes are a division of the entries, numbered by smallest member; it has k groups.
    pub each_once : Division (length rows) (take (length rows) after) × (groups 0 (take (length rows) after) ≡ k)
    each_once = (p.division, p.many)

    -- No clash.
    pub no_clash : T (clash_free (length rows) (matrix rows) (take (length rows) after))
    no_clash = p.free

    -- No division into fewer.
    pub no_fewer : (c : List ℕ) → Division (length rows) c → T (clash_free (length rows) (matrix rows) c) → k ≤ groups 0 c
    no_fewer = (chromatic_fewest (length rows) (matrix rows) k p.fewest).fewest

    -- The bytes from n on stay.
    pub rest_kept : drop (length rows) after ≡ drop (length rows) before
    rest_kept = p.kept

    -- "It has its own budget and node count": that of the described search, within the budget. Its colours are that search's too.
    pub count_reported : (m ≡ (searched rows).nodes) × (m ≤ budget)
    count_reported = (p.count, p.paid)

    pub colours_reported : take (length rows) after ≡ (searched rows).best
    colours_reported = p.best

  -- A budget is refused exactly when the search needs more: a valid list with room for its colours is accepted, with the described search's count,
  -- exactly where that is within the budget.
  module _ (a : Result Placing Unsolved) (after : List ℕ) (p : PromisedUpTo most rows before budget a after) (room : OpenUpTo most rows (length before)) where
    pub accepted_within : (searched rows).nodes ≤ budget → a ≡ Ok (record { k = size (searched rows); nodes = (searched rows).nodes })
    accepted_within = laws.enough_accepted most rows before budget a after p room

    pub refused_beyond : budget < (searched rows).nodes → a ≡ Err (Budget budget)
    refused_beyond = laws.short_refused most rows before budget a after p room
