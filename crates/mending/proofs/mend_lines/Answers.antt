-- `mending::mend_lines` meets its contract: 18, the fault that was found, or what is written. Assumes nothing.
use Rattle.std.proofs.lemmas.Result.{err_from_is_err_and}
use Rattle.clashes.specs.Matrix.{matrix}
use Rattle.mending.proofs.Answers.{answered_long, answered_fault, whole_as}
use Rattle.mending.proofs.mend_lines.Goals as goal

pub returns-then-sheet-gt-LONGEST : goal.returns-then-sheet-gt-LONGEST
returns-then-sheet-gt-LONGEST c =
    let l = c.args.list.now in
    rw c.into.ensures (answered_long l.n (matrix l.rows) c.args.sheet.now c.args.out.now c.if-sheet-gt-LONGEST.true)

pub returns-in_err-g : goal.returns-in_err-g
returns-in_err-g c =
    let l = c.args.list.now in
    let p = err_from_is_err_and c.from_residual.result c.from_residual.ensures.1 in
    rw (p.1, p.2) (answered_fault l.n (matrix l.rows) c.args.sheet.now c.args.out.now c.if-sheet-gt-LONGEST.false _ c.in_err-g.ensures)

pub written-requires : goal.written-requires
written-requires c =
    let l = c.args.list.now in (
      c.requires.0,
      c.requires.1,
      c.if-sheet-gt-LONGEST.false,
      whole_as l.n (matrix l.rows) c.args.sheet.now c.args.out.now _ c.in_ok-g.ensures,
    )
