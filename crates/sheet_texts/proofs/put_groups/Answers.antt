-- `sheet_texts::put_groups` meets its contract: the groups that are left, put from here, are all of them put at the start (`Left`). Assumes nothing.
use native.Mathlib.Omega.{arith}
use Rattle.lines.proofs.Writing.{left_begin, left_room, left_put, left_skip, left_none}
use Rattle.sheet_texts.specs.Sheet.{group_text}
use Rattle.sheet_texts.proofs.Writes.{groups_more, groups_end, groups_all}
use Rattle.sheet_texts.proofs.put_groups.Goals as goal

pub loop-g-init : goal.loop-g-init
loop-g-init c = left_skip _ _ _ c.args.out.now c.args.at _ (left_begin c.args.out.now c.args.at _ c.requires.1) _ (groups_all c.args.colours.now c.args.k)

pub put_group-a-requires : goal.put_group-a-requires
put_group-a-requires c =
    let a = c.args in
    let b = c.loop-g in (
      c.requires.0,
      left_room a.out.now a.at _ b.out b.a _ b.invariant (group_text a.colours.now b.g) _
          (groups_more a.colours.now b.g a.k c.loop-g-test.true),
    )

pub loop-g-preserved : goal.loop-g-preserved
loop-g-preserved c =
    let a = c.args in
    let b = c.loop-g in
    left_put a.out.now a.at _ b.out b.a _ b.invariant (group_text a.colours.now b.g) _ (groups_more a.colours.now b.g a.k c.loop-g-test.true) _ _ c.put_group-a.ensures

pub shape_of-out : goal.shape_of-out
shape_of-out c = c.loop-g.invariant.same

pub returns : goal.returns
returns c = let a = c.args in let b = c.loop-g in left_none _ _ _ b.out b.a _ b.invariant (groups_end a.colours.now b.g a.k c.loop-g-test.false)
