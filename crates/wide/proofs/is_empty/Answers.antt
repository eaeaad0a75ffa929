-- `wide::is_empty` meets its contract. Assumes nothing.
use mathlib.Core.Path.{◌≡◌, sym, subst}
use mathlib.Core.Bool.{Bool, true, false}
use lib.Dec.{T}
use Rattle.wide.specs.Words.{num}
use Rattle.wide.proofs.WideLaws.{none_four, zero_four}
use Rattle.wide.proofs.is_empty.Goals as goal

no : {A : Type 0} → ◌≡◌ {A = Bool} false true → A
no e = absurd (subst T (sym e) tt)

pub returns-then-s-ne0 : goal.returns-then-s-ne0
unfolding num
returns-then-s-ne0 c = (no, λ f e. c.if-s-ne0.true (none_four e).0)

pub returns-then-s-ne0-2 : goal.returns-then-s-ne0-2
unfolding num
returns-then-s-ne0-2 c = (no, λ f e. c.if-s-ne0-2.true (none_four e).1)

pub returns-then-s-ne0-3 : goal.returns-then-s-ne0-3
unfolding num
returns-then-s-ne0-3 c = (no, λ f e. c.if-s-ne0-3.true (none_four e).2)

pub returns-then-s-ne0-4 : goal.returns-then-s-ne0-4
unfolding num
returns-then-s-ne0-4 c = (no, λ f e. c.if-s-ne0-4.true (none_four e).3)

pub returns : goal.returns
unfolding num
returns c =
    let a = c.if-s-ne0.false in
    let b = c.if-s-ne0-2.false in
    (λ e. zero_four a b c.if-s-ne0-3.false c.if-s-ne0-4.false, λ f. no (sym f))
