use mathlib.Core.Path.{◌≡◌}
use mathlib.Core.List.{List}
use Prim.Native.Nat.{ℕ, ◌*◌}
use lib.ListN.{length, take, drop}
use Rattle.wide.specs.Form.{Form, held}
use Rattle.undo.specs.Back.{Restored}
use Rattle.undo.proofs.restore.Given as goal

abbrev pub invariant-loop-pair : goal.invariant-loop-pair
invariant-loop-pair l =
    let rest = l.pair-iterator.iter.rest.now in record {
      form : Form l.words l.rows;
      left : rest ≡ take (length rest) (drop l.at l.trail);
      back : (r : List ℕ) → Restored (64 * l.words) l.trail l.at (length rest) (held l.words l.rows) r → Restored (64 * l.words) l.trail l.at l.more (held l.words l.initial.rows) r;
    }
