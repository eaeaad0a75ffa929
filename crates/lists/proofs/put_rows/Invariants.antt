use lib.ListN.{length, drop}
use Rattle.lines.proofs.Writing.{Left}
use Rattle.lists.specs.Edges.{edges, edges_from}
use Rattle.lists.specs.Write.{edges_text}
use Rattle.lists.proofs.put_rows.Given as goal

abbrev pub invariant-loop-i : goal.invariant-loop-i
invariant-loop-i l = Left l.initial.out l.at (edges_text (edges l.rows)) l.out l.a (edges_text (edges_from (length l.rows) (drop l.i l.rows) l.i))
