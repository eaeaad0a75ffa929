-- `wide::meet` meets its contract, word by word. Assumes nothing.
use mathlib.Core.Path.{refl}
use mathlib.Core.Bool.{◌&&◌}
use borrow.Author.Rules.{rules}
use Rattle.wide.specs.Words.{num}
use Rattle.wide.proofs.WideLaws.{op_four, and_word}
use Rattle.wide.proofs.meet.Goals as goal

pub returns : goal.returns
unfolding num
returns c =
    op_four ◌&&◌ refl (and_word (search rules) (search rules)) (and_word (search rules) (search rules))
    (and_word (search rules) (search rules)) (and_word (search rules) (search rules))
