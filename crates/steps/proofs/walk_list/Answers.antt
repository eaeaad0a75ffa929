-- `steps::walk_list` meets its contract. Assumes nothing.
use Rattle.steps.proofs.Starting.{lends_rows, lends_bytes, first_enters, walked_is}
use Rattle.steps.proofs.walk_list.Goals as goal

pub lay-requires : goal.lay-requires
lay-requires g c = record { rows_in_bounds = lends_rows c.requires; n_in_bounds = lends_bytes c.requires }

pub enter-requires : goal.enter-requires
enter-requires g c =
    let a = c.args in
    let y = c.lay.new in
    first_enters a.words a.n a.rows.now _ c.requires y.held y.names y.best c.lay.ensures c.below.result c.below.ensures
    a.budget c.start-first.result c.start-first.ensures

pub returns : goal.returns
returns g c =
    let a = c.args in
    let y = c.lay.new in
    walked_is a.words a.n a.rows.now _ c.requires y.held y.names y.best c.lay.ensures c.below.result c.below.ensures
    (g.W.Walk.rule c.args.n) a.budget c.start-first.result c.start-first.ensures _ c.enter.result c.enter.ensures
