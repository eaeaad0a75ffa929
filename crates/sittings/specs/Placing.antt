-- What the face promises of the second engine, document 02's search that never merges: the engine's own promise (crate placing), with the list's clique
-- beside k, which the engine does not know.
--
--   shown rows e    : the engine's answer e as one of the walks': no complete graphs, and the clique that document 01's rule picks in the list's graph
--   PlacingPromise  : some answer that the engine promises is shown as a, and `after` are the lent bytes as it leaves them
--
-- Stated for lists of up to `most` entries (`PlacingPromiseUpTo most`), and named for today's 64. Assumes nothing.
use Rattle.std.specs.Prelude.{◌≡◌, List, ℕ, Result, Ok, Err}
use Rattle.refusals.specs.declared.Unsolved.{Unsolved}
use Rattle.bounds.specs.Names.{clique_set}
use Rattle.bounds.specs.Lent.{of_list}
use Rattle.walk.specs.declared.found.Fewest.{Fewest}
use Rattle.placing.specs.Promise.{PromisedUpTo}
use Rattle.placing.specs.declared.Placing.{Placing}

abbrev pub shown : List ℕ → Result Placing Unsolved → Result Fewest Unsolved
shown rows (Ok p) = Ok (record { k = p.k; nodes = p.nodes; leaves = 0; clique = of_list clique_set rows })
shown rows (Err w) = Err w

pub record PlacingPromiseUpTo (most : ℕ) (rows before : List ℕ) (budget : ℕ) (a : Result Fewest Unsolved) (after : List ℕ) : Type 0 where
  pub engine : Result Placing Unsolved
  pub promised : PromisedUpTo most rows before budget engine after
  pub is : a ≡ shown rows engine

abbrev pub PlacingPromise : List ℕ → List ℕ → ℕ → Result Fewest Unsolved → List ℕ → Type 0
PlacingPromise rows before budget a after = PlacingPromiseUpTo 64 rows before budget a after
