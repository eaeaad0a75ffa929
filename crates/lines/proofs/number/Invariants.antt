use Prim.Native.Nat.{◌<◌, ◌^◌}
use mathlib.Core.Path.{◌≡◌}
use lib.ListN.{drop}
use Rattle.lines.specs.Number.{digits, value}
use Rattle.lines.proofs.number.Given as goal

abbrev pub invariant-loop-b : goal.invariant-loop-b
invariant-loop-b l = (l.v < 10 ^ l.b-index) × (value l.v (drop l.b-index (digits l.s)) ≡ value 0 (digits l.s))
