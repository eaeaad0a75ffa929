-- `trials_wide::one_list` is safe and ends: what is told of are rows that started without a pair. Assumes nothing.
use Rattle.trials_wide.proofs.one_list.Goals as goal

pub tell-requires-clause-valid : goal.tell-requires-clause-valid
tell-requires-clause-valid g c = c.add_others.ensures.valid (c.no_rows-all.ensures.by_index c.args.n)

pub tell-requires-else-others-clause-valid : goal.tell-requires-else-others-clause-valid
tell-requires-else-others-clause-valid g c = c.add_pairs-next.ensures.valid (c.no_rows-rows.ensures.by_index c.args.n)
