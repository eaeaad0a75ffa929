use mathlib.Core.Path.{◌≡◌}
use mathlib.Core.Bool.{not, ◌&&◌}
use Prim.Native.Nat.{ℕ}
use lib.Dec.{eqb}
use lib.ListN.{get_or}
use Rattle.sets.specs.Set.{has, size}
use Rattle.wide.specs.Form.{Form, held}
use Rattle.undo.specs.Back.{word_has}
use Rattle.undo.proofs.unlink_word.Given as goal

abbrev pub invariant-loop-left : goal.invariant-loop-left
invariant-loop-left l =
    Form l.words l.rows
    × ((x y : ℕ)
    → (has (get_or (held l.words l.rows) x 0) y && not (word_has l.left l.from x && eqb l.u y)) ≡ (has (get_or (held l.words l.initial.rows) x 0) y && not (word_has l.s l.from x && eqb l.u y)))

abbrev pub decreases-loop-left : goal.decreases-loop-left
decreases-loop-left l = size 64 l.left
