-- `lists::row_extent` meets its contract: what was counted and what is left make the whole. Assumes nothing.
use Prim.Native.Nat.{◌+◌, ◌-◌, ◌*◌, ◌≤◌}
use mathlib.Core.Path.{sym, ◌∙◌}
use Rattle.lists.specs.Edges.{row_edges}
use Rattle.lists.proofs.EdgeLaws.{Counted, count_yes, count_no, count_none, row_end}
use native.Mathlib.Omega.{arith}
use Rattle.lists.proofs.row_extent.Goals as goal
use Rattle.lists.proofs.row_extent.Goals.{Joined-has, then-has, else-has}

counted : (c : Joined-has) →
    let a = c.args in
    let b = c.loop-j in
    (c.if-has.edges ≤ b.j + 1) × (c.if-has.bytes ≤ 18 * (b.j + 1))
    × Counted (row_edges a.row a.i (a.i + 1) (a.n - (a.i + 1))) c.if-has.edges c.if-has.bytes (row_edges a.row a.i (b.j + 1) (a.n - (b.j + 1)))
counted c =
    let a = c.args in
    let b = c.loop-j in
    elim c.if-has.branch [
      | then-has w ↦ (
        omega arith,
        omega arith,
        count_yes _ b.edges b.bytes a.row a.i b.j a.n c.loop-j-test.true b.invariant.3
            (sym c.has.ensures ∙ w.if-has.true) c.if-has.edges c.if-has.bytes (omega arith) (omega arith),
      )
      | else-has w ↦ (
        omega arith,
        omega arith,
        count_no _ b.edges b.bytes a.row a.i b.j a.n c.loop-j-test.true b.invariant.3
            (sym c.has.ensures ∙ w.if-has.false) c.if-has.edges c.if-has.bytes (omega arith) (omega arith),
      )
    ]

pub loop-j-preserved : goal.loop-j-preserved
loop-j-preserved c = let t = counted c in (omega arith, t.0, t.1, t.2)

pub returns : goal.returns
returns c =
    let a = c.args in
    let b = c.loop-j in
    let z = count_none _ b.edges b.bytes _ (row_end a.row a.i b.j a.n c.loop-j-test.false) b.invariant.3 in
    (z, (omega arith, omega arith))
