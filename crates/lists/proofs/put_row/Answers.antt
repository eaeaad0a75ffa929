-- `lists::put_row` meets its contract: the lines that are left, put from here, are all of them put at the start (`Left`). Assumes nothing.
use Prim.Native.Nat.{◌+◌, ◌-◌}
use mathlib.Core.Path.{sym, ap, ◌∙◌}
use Rattle.lines.specs.Numeral.{two_line}
use Rattle.lines.proofs.Writing.{Left, left_room, left_put, left_skip, left_none, two_length}
use Rattle.lists.specs.Shape.{e_word}
use Rattle.lists.specs.Edges.{row_edges}
use Rattle.lists.specs.Write.{edges_text}
use Rattle.lists.proofs.EdgeLaws.{edge_line, no_line, row_end}
use native.Mathlib.Omega.{arith}
use Rattle.lists.proofs.put_row.Goals as goal
use Rattle.lists.proofs.put_row.Goals.{Joined-has, then-has, else-has}

stepped : (c : Joined-has) →
    let a = c.args in
    let b = c.loop-j in
    Left a.out.now a.at (edges_text (row_edges a.row a.i (a.i + 1) (a.n - (a.i + 1)))) c.if-has.out c.if-has.a (edges_text (row_edges a.row a.i (b.j + 1) (a.n - (b.j + 1))))
stepped c =
    let a = c.args in
    let b = c.loop-j in
    elim c.if-has.branch [
      | then-has w ↦
          rw (w.out-is, w.a-is)
          (left_put _ _ _ b.out b.a _ b.invariant.1 (two_line e_word (a.i + 1) (b.j + 1)) _
          (edge_line a.row a.i b.j a.n c.loop-j-test.true (sym c.has.ensures ∙ w.if-has.true)) _ _ w.put_two-a.ensures)
      | else-has w ↦
          rw (w.out-is, w.a-is)
          (left_skip _ _ _ b.out b.a _ b.invariant.1 _ (no_line a.row a.i b.j a.n c.loop-j-test.true (sym c.has.ensures ∙ w.if-has.false)))
    ]

pub put_two-a-requires : goal.put_two-a-requires
put_two-a-requires c =
    let a = c.args in
    let b = c.loop-j in
    let r = left_room _ _ _ b.out b.a _ b.invariant.1 (two_line e_word (a.i + 1) (b.j + 1)) _
    (edge_line a.row a.i b.j a.n c.loop-j-test.true
    (sym c.has.ensures ∙ c.if-has.true)) in
    ((omega arith, omega arith), omega (arith, two_length e_word (a.i + 1) (b.j + 1), two_length e_word (b.j + 1) (a.i + 1)))

pub loop-j-preserved : goal.loop-j-preserved
loop-j-preserved c = (omega arith, stepped c)

pub returns : goal.returns
returns c =
    let a = c.args in
    let b = c.loop-j in
    left_none _ _ _ b.out b.a _ b.invariant.1 (ap edges_text (row_end a.row a.i b.j a.n c.loop-j-test.false))
