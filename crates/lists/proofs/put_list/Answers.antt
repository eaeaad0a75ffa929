-- `lists::put_list` meets its contract: the p line, and then the e lines. Assumes nothing.
use Rattle.lists.proofs.Writes.{head_room, rows_room, list_put}
use native.Mathlib.Omega.{arith}
use Rattle.lists.proofs.put_list.Goals as goal

pub put_two-a-requires : goal.put_two-a-requires
put_two-a-requires c =
    let a = c.args in (
      (omega arith, omega arith),
      head_room a.rows.now a.out.now a.m c.requires.0.1.0
          c.requires.1,
    )

pub put_rows-requires : goal.put_rows-requires
put_rows-requires c =
    let a = c.args in (
      c.requires.0.0,
      rows_room a.rows.now a.out.now a.m
          c.requires.0.1.0 c.requires.1 _ _
          c.put_two-a.ensures,
    )

pub returns : goal.returns
returns c =
    let a = c.args in
    list_put a.rows.now a.out.now a.m c.requires.0.1.0
    c.requires.1 _ _
    c.put_two-a.ensures _ _ c.put_rows.ensures
