-- `wide::part` meets its contract. Assumes nothing.
use mathlib.Core.Path.{sym, ◌∙◌}
use Prim.Native.Nat.{◌+◌}
use native.Mathlib.Omega.{arith}
use borrow.Author.Tests.{lt-ltb, le-ltb}
use Rattle.sets.proofs.SetLaws.{has_none}
use Rattle.wide.proofs.WideLaws.{ltb_shift}
use Rattle.wide.proofs.part.Goals as goal

pub returns-then-n-from : goal.returns-then-n-from
returns-then-n-from c j b = has_none j ∙ sym (le-ltb (c.args.from + j) c.args.n (omega arith))

pub returns-then-from-n : goal.returns-then-from-n
returns-then-from-n c j b =
    let a = c.args in
    c.below.ensures j ∙ lt-ltb j 64 b ∙ sym (lt-ltb (a.from + j) a.n (omega (arith, c.if-from-n.true)))

pub returns : goal.returns
returns c j b = c.below-2.ensures j ∙ ltb_shift c.args.n c.args.from j
