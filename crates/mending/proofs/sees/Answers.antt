-- `mending::sees` meets its contract: one more, unless it is dropped. Assumes nothing.
use mathlib.Core.Path.{◌∙◌, sym}
use native.Mathlib.Omega.{arith}
use Rattle.sets.specs.Set.{has}
use Rattle.mends.proofs.Sorted.{taken_is}
use Rattle.mending.proofs.Reports.{sees_with, sees_same}
use Rattle.mending.proofs.sees.Goals as goal

pub with-requires : goal.with-requires
with-requires c = omega (arith, c.requires, (taken_is c.args.n (has c.args.seen) c.args.u (sym c.taken.ensures ∙ c.if-taken.true)).1)

pub returns-then-taken : goal.returns-then-taken
returns-then-taken c = sees_with c.args.n c.args.seen c.args.u (sym c.taken.ensures ∙ c.if-taken.true) _ c.with.ensures

pub returns-else-taken : goal.returns-else-taken
returns-else-taken c = sees_same c.args.n c.args.seen c.args.u (sym c.taken.ensures ∙ c.if-taken.false)
