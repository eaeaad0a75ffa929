-- `trials_wide::tell` is safe and ends: rows of a valid list hold it, every entry live. Assumes nothing.
use Rattle.std.proofs.Common.{List, ℕ, ◌≤◌}
use Rattle.sets.specs.Set.{IsBelow}
use Rattle.clashes.specs.Matrix.{Valid, matrix}
use Rattle.wide.specs.Words.{rows_of}
use Rattle.wide.proofs.RowLaws.{rows_long}
use Rattle.graphs.specs.Held.{HoldsAt}
use Rattle.graphs.proofs.HeldLaws.{valid_holds}
use Rattle.trials_wide.proofs.tell.Goals as goal

holds : {n live : ℕ} (rows : List ℕ) → n ≤ 256 → IsBelow n live → Valid n (matrix (rows_of 4 256 rows)) → HoldsAt 256 live (rows_of 4 256 rows)
holds rows few live valid = valid_holds (rows_of 4 256 rows) (rows_long 4 256 rows) few live valid

pub clique_among-requires-clause-holds : goal.clique_among-requires-clause-holds
clique_among-requires-clause-holds g c = holds c.args.rows.now c.requires.n_bound c.below-live.ensures c.requires.valid

pub bound_among-b-requires-clause-holds : goal.bound_among-b-requires-clause-holds
bound_among-b-requires-clause-holds g c = holds c.args.rows.now c.requires.n_bound c.below-live.ensures c.requires.valid

pub reaches_wide-requires-clause-holds_at : goal.reaches_wide-requires-clause-holds_at
reaches_wide-requires-clause-holds_at g c = holds c.args.rows.now c.requires.n_bound c.below-live.ensures c.requires.valid

pub reaches_wide-requires-2-clause-holds_at : goal.reaches_wide-requires-2-clause-holds_at
reaches_wide-requires-2-clause-holds_at g c = holds c.args.rows.now c.requires.n_bound c.below-live.ensures c.requires.valid

pub choose_among-requires-clause-holds_at : goal.choose_among-requires-clause-holds_at
choose_among-requires-clause-holds_at g c = holds c.args.rows.now c.requires.n_bound c.below-live.ensures c.requires.valid
