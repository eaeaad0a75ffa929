-- `sheet_texts::put_members` meets its contract: the lines that are left, put from here, are all of them put at the start (`Left`). Assumes nothing.
use Prim.Native.Nat.{◌+◌}
use mathlib.Core.Path.{ap}
use mathlib.Core.List.{[]}
use lib.ListN.{drop}
use native.Mathlib.Omega.{arith}
use Rattle.lines.specs.Numeral.{one_line}
use Rattle.lines.proofs.Writing.{Left, left_begin, left_room, left_put, left_skip, left_none}
use Rattle.sheet_texts.specs.Sheet.{members_of, member_lines}
use Rattle.sheet_texts.proofs.Members.{member_yes, member_no, member_end}
use Rattle.sheet_texts.proofs.put_members.Goals as goal
use Rattle.sheet_texts.proofs.put_members.Goals.{Joined-from-g, then-from-g, else-from-g}

stepped : (c : Joined-from-g) →
    let a = c.args in
    let b = c.loop-i in
    Left a.out.now a.at (member_lines (members_of a.colours.now 0 a.g)) c.if-from-g.out c.if-from-g.a (member_lines (members_of (drop (b.i + 1) a.colours.now) (b.i + 1) a.g))
stepped c =
    let a = c.args in
    let b = c.loop-i in
    let l = c.loop-i-test.true in
    let x = c.from.ensures in
    elim c.if-from-g.branch [
      | then-from-g w ↦ rw (w.out-is, w.a-is) (left_put _ _ _ b.out b.a _ b.invariant (one_line [] (b.i + 1)) _ (ap member_lines (member_yes a.colours.now b.i a.g _ l x w.if-from-g.true)) _ _ w.put_one-a.ensures)
      | else-from-g w ↦ rw (w.out-is, w.a-is) (left_skip _ _ _ b.out b.a _ b.invariant _ (ap member_lines (member_no a.colours.now b.i a.g _ l x w.if-from-g.false)))
    ]

pub loop-i-init : goal.loop-i-init
loop-i-init c = left_begin c.args.out.now c.args.at _ c.requires.1

pub put_one-a-requires : goal.put_one-a-requires
put_one-a-requires c =
    let a = c.args in
    let b = c.loop-i in (
      omega arith,
      left_room a.out.now a.at _ b.out b.a _ b.invariant (one_line [] (b.i + 1)) _
          (ap member_lines (member_yes a.colours.now b.i a.g _ c.loop-i-test.true c.from.ensures
          c.if-from-g.true)),
    )

pub loop-i-preserved : goal.loop-i-preserved
loop-i-preserved c = stepped c

pub shape_of-out : goal.shape_of-out
shape_of-out c = c.loop-i.invariant.same

pub returns : goal.returns
returns c = let a = c.args in let b = c.loop-i in left_none _ _ _ b.out b.a _ b.invariant (ap member_lines (member_end a.colours.now b.i a.g c.loop-i-test.false))
