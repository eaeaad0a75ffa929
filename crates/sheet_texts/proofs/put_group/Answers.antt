-- `sheet_texts::put_group` meets its contract: its size, and then its members. Assumes nothing.
use mathlib.Core.Path.{◌≡◌, ap, subst}
use Prim.Native.Nat.{ℕ}
use mathlib.Core.List.{List}
use lib.ListN.{length}
use native.Mathlib.Omega.{arith}
use Rattle.lines.specs.Numeral.{one_line, Put}
use Rattle.sheets.specs.Check.{size_word}
use Rattle.sheet_texts.specs.Sheet.{members_of, member_lines}
use Rattle.sheet_texts.proofs.Writes.{head_room, rest_room, both_put}
use Rattle.sheet_texts.proofs.put_group.Goals as goal
use Rattle.sheet_texts.proofs.put_group.Goals.{After-size_of-size}

-- the size's line, as it is defined
sized : (c : After-size_of-size) → let a = c.args in
    one_line size_word c.size_of-size.result ≡ one_line size_word (length (members_of a.colours.now 0 a.g))
sized c = ap (one_line size_word) c.size_of-size.ensures.0

pub put_one-a-requires : goal.put_one-a-requires
put_one-a-requires c =
    let a = c.args in (
      omega (arith, c.size_of-size.ensures.1),
      rw c.size_of-size.ensures.0
          (head_room a.out.now a.at (one_line size_word (length (members_of a.colours.now 0 a.g))) (member_lines (members_of a.colours.now 0 a.g))
          c.requires.1),
    )

pub put_members-requires : goal.put_members-requires
put_members-requires c =
    let a = c.args in (
      c.requires.0,
      rest_room a.out.now a.at
          (one_line size_word (length (members_of a.colours.now 0 a.g))) (member_lines (members_of a.colours.now 0 a.g))
          c.requires.1 _ _
          (subst (λ (x : List ℕ). Put a.out.now a.at x c.put_one-a.new.out c.put_one-a.result)
          (sized (goal.at.put_members-requires c).After-size_of-size) c.put_one-a.ensures),
    )

pub returns : goal.returns
returns c =
    let a = c.args in
    both_put a.out.now a.at (one_line size_word (length (members_of a.colours.now 0 a.g))) (member_lines (members_of a.colours.now 0 a.g))
    c.requires.1 _ _
    (subst (λ (x : List ℕ). Put a.out.now a.at x c.put_one-a.new.out
    c.put_one-a.result) (sized (goal.at.returns c).After-size_of-size)
    c.put_one-a.ensures) _ _ c.put_members.ensures
