use mathlib.Core.Path.{◌≡◌}
use mathlib.Core.List.{List}
use Prim.Native.Nat.{ℕ}
use lib.ListN.{length, take}
use Rattle.removing.specs.declared.Goes.{Goes}
use Rattle.restoring.specs.declared.Seats.{Seats}
use Rattle.restoring.proofs.ReturnLaws.{Returns}
use Rattle.restoring.proofs.put_back.Given as goal

-- those who are still to be put back are the first who went
pub record Waiting (rows : List ℕ) (went : List Goes) (gone : ℕ) (seats : Seats) (rest : List Goes) (now : Seats) : Type 0 where
  pub first : rest ≡ take (length rest) went
  pub back : Returns 64 rows went gone seats (length rest) now

abbrev pub invariant-loop-goes : goal.invariant-loop-goes
invariant-loop-goes l = Waiting l.rows l.fn.s.went l.fn.s.gone l.initial.seats l.goes-iterator.iter.rest.now l.seats
