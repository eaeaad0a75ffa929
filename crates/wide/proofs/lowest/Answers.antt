-- `wide::lowest` meets its contract: the lowest member of the first word that has one. Assumes nothing.
use Prim.Native.Nat.{◌+◌}
use native.Mathlib.Omega.{arith}
use borrow.Author.Rules.{rules}
use Rattle.wide.specs.Words.{num}
use Rattle.wide.proofs.WideLaws.{low_here, low_later, low_last, zero_four}
use Rattle.wide.proofs.lowest.Goals as goal

pub returns-then-s-ne0 : goal.returns-then-s-ne0
unfolding num
returns-then-s-ne0 c = low_here 192 _ _ _ (search rules) c.lowest.ensures

pub overflow_add-result : goal.overflow_add-result
overflow_add-result c = record { fits = omega (arith, c.lowest-then-s-ne0-2.ensures.below) }

pub returns-then-s-ne0-2 : goal.returns-then-s-ne0-2
unfolding num
returns-then-s-ne0-2 c =
    let w = c.lowest-then-s-ne0-2.result in
    low_later 192 w (64 + w) _ _ (omega arith) c.if-s-ne0.false (low_here 128 _ _ _ (search rules) c.lowest-then-s-ne0-2.ensures)

pub overflow_add-result-then-s-ne0-3 : goal.overflow_add-result-then-s-ne0-3
overflow_add-result-then-s-ne0-3 c = record { fits = omega (arith, c.lowest-then-s-ne0-3.ensures.below) }

pub returns-then-s-ne0-3 : goal.returns-then-s-ne0-3
unfolding num
returns-then-s-ne0-3 c =
    let w = c.lowest-then-s-ne0-3.result in
    low_later 192 (64 + w) (128 + w) _ _ (omega arith) c.if-s-ne0.false
    (low_later 128 w (64 + w) _ _ (omega arith) c.if-s-ne0-2.false (low_here 64 _ _ _ (search rules) c.lowest-then-s-ne0-3.ensures))

pub lowest-requires-2 : goal.lowest-requires-2
unfolding num
lowest-requires-2 c =
    let a = c.if-s-ne0.false in
    λ e. c.requires (zero_four a c.if-s-ne0-2.false c.if-s-ne0-3.false e)

pub overflow_add-result-2 : goal.overflow_add-result-2
overflow_add-result-2 c = record { fits = omega (arith, c.lowest-2.ensures.below) }

pub returns : goal.returns
unfolding num
returns c =
    let w = c.lowest-2.result in
    low_later 192 (128 + w) (192 + w) _ _ (omega arith) c.if-s-ne0.false
    (low_later 128 (64 + w) (128 + w) _ _ (omega arith) c.if-s-ne0-2.false
    (low_later 64 w (64 + w) _ _ (omega arith) c.if-s-ne0-3.false (low_last _ _ c.lowest-2.ensures)))
