use Prim.Native.Nat.{◌*◌, ◌≤◌}
use lib.ListN.{length, drop}
use Rattle.lists.specs.Edges.{edges as all, edges_from}
use Rattle.lists.proofs.EdgeLaws.{Counted}
use Rattle.lists.proofs.list_extent.Given as goal

abbrev pub invariant-loop-i : goal.invariant-loop-i
invariant-loop-i l = (l.edges ≤ 64 * l.i) × (l.bytes ≤ 1152 * l.i) × Counted (all l.rows) l.edges l.bytes (edges_from (length l.rows) (drop l.i l.rows) l.i)
