use Prim.Native.Nat.{◌-◌}
use lib.ListN.{length}
use Rattle.placing.proofs.Turns.{Turn}
use Rattle.placing.proofs.+enter.Given as goal

-- the entries that are still to be placed
abbrev pub decreases-enter : goal.decreases-enter
decreases-enter l = length l.rows.now - l.at

-- what holds where group j's turn begins
abbrev pub invariant-loop-j : goal.invariant-loop-j
invariant-loop-j l = Turn 64 l.rows l.at l.m l.initial.groups l.initial.placed l.initial.s l.groups l.placed l.s l.j
