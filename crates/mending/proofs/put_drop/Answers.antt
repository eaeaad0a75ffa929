-- `mending::put_drop` meets its contract: a line, or nothing. Assumes nothing.
use mathlib.Core.Path.{◌∙◌, sym}
use native.Mathlib.Omega.{arith}
use Rattle.sets.specs.Set.{has}
use Rattle.mending.proofs.Reports.{none_put, line_room, line_put}
use Rattle.mending.proofs.put_drop.Goals as goal

pub returns-then-taken : goal.returns-then-taken
returns-then-taken c =
    none_put c.args.n (has c.args.seen) c.args.line c.args.u c.args.out.now c.args.at c.requires.2 (sym c.taken.ensures ∙ c.if-taken.true)

pub put_one-requires : goal.put_one-requires
put_one-requires c = (
  omega (arith, c.requires.1),
  line_room c.args.n (has c.args.seen) c.args.line c.args.u c.args.out.now c.args.at c.requires.2 (sym c.taken.ensures ∙ c.if-taken.false),
)

pub returns : goal.returns
returns c =
    line_put c.args.n (has c.args.seen) c.args.line c.args.u c.args.out.now c.args.at c.requires.2 (sym c.taken.ensures ∙ c.if-taken.false)
    _ _ c.put_one.ensures
