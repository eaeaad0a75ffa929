-- `wide::less` meets its contract, word by word. Assumes nothing.
use mathlib.Core.Path.{refl}
use mathlib.Core.Bool.{not, ◌&&◌}
use lib.Bits.{and_le_l}
use borrow.Author.Rules.{rules}
use Rattle.wide.specs.Words.{num}
use Rattle.wide.proofs.WideLaws.{op_four, less_word}
use Rattle.wide.proofs.less.Goals as goal

pub overflow_sub-result : goal.overflow_sub-result
overflow_sub-result c = and_le_l _ _

pub overflow_sub-result-2 : goal.overflow_sub-result-2
overflow_sub-result-2 c = and_le_l _ _

pub overflow_sub-result-3 : goal.overflow_sub-result-3
overflow_sub-result-3 c = and_le_l _ _

pub overflow_sub-result-4 : goal.overflow_sub-result-4
overflow_sub-result-4 c = and_le_l _ _

pub returns : goal.returns
unfolding num
returns c =
    op_four (λ p q. p && not q) refl (less_word (search rules) (search rules)) (less_word (search rules) (search rules))
    (less_word (search rules) (search rules)) (less_word (search rules) (search rules))
