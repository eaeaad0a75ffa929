-- `placing::fewest_by_placing` meets its contract. Assumes nothing.
use mathlib.Core.Path.{◌≡◌, refl}
use borrow.Author.Rules.{rules}
use lib.ListN.{length}
use Rattle.std.specs.Prelude.{Err}
use Rattle.clashes.specs.Room.{OpenUpTo}
use Rattle.placing.proofs.Meets.{start_ready, promised_spent, promised_done}
use Rattle.placing.proofs.fewest_by_placing.Goals as goal
use Rattle.placing.proofs.fewest_by_placing.Goals.{After-start-s}

-- there is no cause for refusals 1 to 5
opened : (c : After-start-s) → let a = c.args in OpenUpTo 64 a.rows.now (length a.colours.now)
opened c = record { sound = c.in_ok-validity.ensures; bytes = c.if-colours-n.false }

pub enter-requires : goal.enter-requires
enter-requires c =
    let a = c.args in
    start_ready 64 a.rows.now a.colours.now a.budget (opened (goal.at.enter-requires c).After-start-s) _ _ c.start-s.result refl refl tt c.start-s.ensures

pub returns-in_err-enter : goal.returns-in_err-enter
returns-in_err-enter c =
    let a = c.args in
    let e : c.from_residual-in_err-enter.result ≡ Err c.in_err-enter.field-0.0 = search rules in
    rw e (promised_spent 64 a.rows.now a.colours.now a.budget (opened (goal.at.returns-in_err-enter c).After-start-s) _ c.start-s.result c.start-s.ensures c.in_err-enter.ensures)

pub returns : goal.returns
returns c =
    let a = c.args in
    rw c.copy_from_slice.ensures.after (promised_done 64 a.rows.now a.colours.now a.budget (opened (goal.at.returns c).After-start-s) _ c.start-s.result c.start-s.ensures
    c.in_ok-enter.ensures.0)
