use Prim.Native.Nat.{◌≤◌, ◌+◌, ◌-◌, ◌*◌}
use lib.ListN.{length}
use Rattle.mending.proofs.Turns.{Along}
use Rattle.mending.proofs.go_through.Given as goal

abbrev pub invariant-loop-at : goal.invariant-loop-at
invariant-loop-at l =
    (l.at ≤ length l.sheet) × (l.line ≤ l.at + 1) × (l.g.bytes ≤ 16 * l.at) × Along 64 l.list.n l.list.rows l.sheet l.at l.line l.c l.g

abbrev pub decreases-loop-at : goal.decreases-loop-at
decreases-loop-at l = length l.sheet - l.at
