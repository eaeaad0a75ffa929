-- `wide::one` meets its contract: each word has its digits. Assumes nothing.
use lib.Dec.{eqb}
use native.Mathlib.Omega.{arith}
use borrow.Author.Rules.{rules}
use borrow.Author.Tests.{ne_eqb}
use Rattle.wide.specs.Words.{num}
use Rattle.wide.proofs.WideLaws.{none, more, whole_says}
use Rattle.wide.proofs.one.Goals as goal

pub returns : goal.returns
unfolding num
returns c =
    let a = c.args in
    whole_says (eqb a.i)
    (more (search rules) c.bit_at.ensures
    (more (search rules) c.bit_at-2.ensures
    (more (search rules) c.bit_at-3.ensures
    (more (search rules) c.bit_at-4.ensures
    (none (λ j b. ne_eqb a.i j (λ e. absurd (omega (arith, c.requires)))))))))
