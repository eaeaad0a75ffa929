-- `answers::of_rows` meets its contract: the walk is accepted, and its division's sheet is composed; or it is refused for effort. Assumes nothing.
use Prim.Native.Nat.{ℕ}
use mathlib.Core.Path.{sym, subst}
use mathlib.Core.List.{List}
use lib.ListN.{replicate}
use Rattle.bounds.specs.Names.{mycielskian}
use Rattle.zykov.specs.Walk.{bounded_walk_lem}
use Rattle.walk.specs.Promise.{Answer, Promised}
use Rattle.answers.specs.Printed.{budget, IsText}
use Rattle.answers.proofs.Laws.{rows_accepted, rows_refused}
use Rattle.answers.proofs.of_rows.Goals as goal

pub returns-in-Ok : goal.returns-in-Ok
returns-in-Ok c =
    let rows = c.args.rows.now in
    let after = c.fewest.new.colours in
    let p = subst (λ (a : Answer). Promised (bounded_walk_lem mycielskian) rows (replicate 64 0) budget a after) c.in-Ok.is c.fewest.ensures in
    let e = c.compose.ensures in
    subst (λ (x : List ℕ). IsText x c.compose.result) (sym (rows_accepted rows (replicate 64 0) c.in-Ok.found after p)) (record { fits = e.0; long = e.1; is = e.2 })

pub returns-in-Err : goal.returns-in-Err
returns-in-Err c =
    let rows = c.args.rows.now in
    let after = c.fewest.new.colours in
    let p = subst (λ (a : Answer). Promised (bounded_walk_lem mycielskian) rows (replicate 64 0) budget a after) c.in-Err.is c.fewest.ensures in
    subst (λ (x : List ℕ). IsText x c.refused.result)
    (sym (rows_refused rows (replicate 64 0) (record { sound = c.requires; bytes = c.requires.apart.inside.few }) _ after p)) c.refused.ensures
