use mathlib.Core.Path.{◌≡◌}
use lib.ListN.{drop}
use Rattle.lists.specs.Pattern.{pattern_of, due_of, spot_from}
use Rattle.lists.proofs.spot_along.Given as goal

abbrev pub invariant-loop-i : goal.invariant-loop-i
invariant-loop-i l = spot_from l.i (drop l.i l.s) (due_of l.w l.d) ≡ spot_from 0 l.s (pattern_of l.w)
