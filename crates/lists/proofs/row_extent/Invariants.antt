use Prim.Native.Nat.{◌+◌, ◌-◌, ◌*◌, ◌≤◌, ◌<◌}
use Rattle.lists.specs.Edges.{row_edges}
use Rattle.lists.proofs.EdgeLaws.{Counted}
use Rattle.lists.proofs.row_extent.Given as goal

abbrev pub invariant-loop-j : goal.invariant-loop-j
invariant-loop-j l = (l.i < l.j) × (l.edges ≤ l.j) × (l.bytes ≤ 18 * l.j) × Counted (row_edges l.row l.i (l.i + 1) (l.n - (l.i + 1))) l.edges l.bytes (row_edges l.row l.i l.j (l.n - l.j))
