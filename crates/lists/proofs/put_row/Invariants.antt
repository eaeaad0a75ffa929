use Prim.Native.Nat.{◌+◌, ◌-◌, ◌<◌}
use Rattle.lines.proofs.Writing.{Left}
use Rattle.lists.specs.Edges.{row_edges}
use Rattle.lists.specs.Write.{edges_text}
use Rattle.lists.proofs.put_row.Given as goal

abbrev pub invariant-loop-j : goal.invariant-loop-j
invariant-loop-j l = (l.i < l.j) × Left l.initial.out l.at (edges_text (row_edges l.row l.i (l.i + 1) (l.n - (l.i + 1)))) l.out l.a (edges_text (row_edges l.row l.i l.j (l.n - l.j)))
