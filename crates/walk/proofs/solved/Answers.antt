-- `walk::solved` meets its contract. Assumes nothing.
use lib.ListN.{length}
use Rattle.walk.proofs.Lending.{lends_one, walked_one}
use Rattle.walk.proofs.Meets.{solved_spent, solved_ended}
use Rattle.walk.proofs.solved.Goals as goal

pub walk_list_telling-end-requires : goal.walk_list_telling-end-requires
walk_list_telling-end-requires g c = lends_one _ c.in_ok-admitted.ensures.sound

pub returns-in-Ok : goal.returns-in-Ok
returns-in-Ok g c =
    let a = c.args in
    let w = c.walk_list_telling-end in
    solved_ended g.W.TellingWalk.rule a.rows.now a.colours.now a.budget c.in_ok-admitted.ensures _ w.result
    (walked_one a.rows.now (g.W.TellingWalk.rule (length a.rows.now)) a.budget _ w.result w.ensures) c.in-Ok.s c.in-Ok.is _ _ c.told.ensures

pub returns-in-Err : goal.returns-in-Err
returns-in-Err g c =
    let a = c.args in
    let w = c.walk_list_telling-end in
    solved_spent g.W.TellingWalk.rule a.rows.now a.colours.now a.budget c.in_ok-admitted.ensures _ w.result
    (walked_one a.rows.now (g.W.TellingWalk.rule (length a.rows.now)) a.budget _ w.result w.ensures) _ c.in-Err.is
