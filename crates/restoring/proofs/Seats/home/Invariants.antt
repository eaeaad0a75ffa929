use Prim.Native.Nat.{ℕ, ◌<◌}
use Rattle.clashes.specs.Divisions.{at}
use Rattle.restoring.specs.Seats.{Clear}
use Rattle.restoring.proofs.Seats.home.Given as goal

abbrev pub invariant-loop-j : goal.invariant-loop-j
invariant-loop-j l = (i : ℕ) → i < l.j → ¬ Clear l.row (at l.self.sets i)
