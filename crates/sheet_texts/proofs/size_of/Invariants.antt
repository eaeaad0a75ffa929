use Prim.Native.Nat.{◌≤◌, ◌+◌}
use mathlib.Core.Path.{◌≡◌}
use lib.ListN.{length, drop}
use Rattle.sheet_texts.specs.Sheet.{members_of}
use Rattle.sheet_texts.proofs.size_of.Given as goal

abbrev pub invariant-loop-colour : goal.invariant-loop-colour
invariant-loop-colour l =
    (l.size ≤ l.colour-index) × (l.size + length (members_of (drop l.colour-index l.colours) l.colour-index l.g) ≡ length (members_of l.colours 0 l.g))
