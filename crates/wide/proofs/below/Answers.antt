-- `wide::below` meets its contract: each word has its digits. Assumes nothing.
use lib.Dec.{ltb}
use native.Mathlib.Omega.{arith}
use borrow.Author.Rules.{rules}
use borrow.Author.Tests.{le-ltb}
use Rattle.wide.specs.Words.{num}
use Rattle.wide.proofs.WideLaws.{none, more, whole_says}
use Rattle.wide.proofs.below.Goals as goal

pub returns : goal.returns
unfolding num
returns c =
    let a = c.args in
    whole_says (λ j. ltb j a.n)
    (more (search rules) c.part.ensures
    (more (search rules) c.part-2.ensures
    (more (search rules) c.part-3.ensures
    (more (search rules) c.part-4.ensures
    (none (λ j b. le-ltb j a.n (omega (arith, c.requires))))))))
