-- `steps::walk_list_telling` meets its contract. Assumes nothing.
use Rattle.steps.proofs.Starting.{lends_rows, lends_bytes, first_enters, walked_telling}
use Rattle.steps.proofs.walk_list_telling.Goals as goal

pub lay-requires : goal.lay-requires
lay-requires g c = record { rows_in_bounds = lends_rows c.requires; n_in_bounds = lends_bytes c.requires }

pub enter-requires : goal.enter-requires
enter-requires g c =
    let a = c.args in
    let y = c.lay.new in
    first_enters a.words a.n a.rows.now _ c.requires y.held y.names y.best c.lay.ensures c.below.result c.below.ensures
    a.budget c.start.result c.start.ensures

pub returns : goal.returns
returns g c =
    let a = c.args in
    let y = c.lay.new in
    walked_telling a.words a.n a.rows.now _ c.requires y.held y.names y.best c.lay.ensures c.below.result c.below.ensures
    (g.W.TellingWalk.rule c.args.n) a.budget c.start.result c.start.ensures _ c.enter.result c.enter.ensures
