-- `sheet_texts::put_sheet` meets its contract: "groups K", and then the groups. Assumes nothing.
use mathlib.Core.Path.{ap, sym, subst}
use Prim.Native.Nat.{ℕ, ◌≤◌, ◌+◌}
use mathlib.Core.List.{List, ◌++◌}
use lib.ListN.{length}
use native.Mathlib.Omega.{arith}
use Rattle.lines.specs.Numeral.{one_line, Put}
use Rattle.sheets.specs.Check.{groups_word}
use Rattle.sheet_texts.specs.Sheet.{groups_text}
use Rattle.sheet_texts.proofs.Writes.{head_room, rest_room, both_put, sheet_is}
use Rattle.sheet_texts.proofs.put_sheet.Goals as goal
use Rattle.sheet_texts.proofs.put_sheet.Goals.{Start}

-- there is room for both pieces
room : (c : Start) → let a = c.args in 0 + length (one_line groups_word a.k ++ groups_text a.colours.now 0 a.k) ≤ length a.out.now
room c = let e = ap length (sheet_is c.args.colours.now c.args.k c.requires.1) in omega (arith, c.requires.3)

pub put_one-a-requires : goal.put_one-a-requires
put_one-a-requires c =
    let a = c.args in (
      omega (arith, c.requires.2),
      head_room a.out.now 0 (one_line groups_word a.k) (groups_text a.colours.now 0 a.k)
          (room (goal.at.put_one-a-requires c).Start),
    )

pub put_groups-requires : goal.put_groups-requires
put_groups-requires c =
    let a = c.args in (
      c.requires.0,
      rest_room a.out.now 0 (one_line groups_word a.k)
          (groups_text a.colours.now 0 a.k) (room (goal.at.put_groups-requires c).Start) _ _ c.put_one-a.ensures,
    )

pub returns : goal.returns
returns c =
    let a = c.args in
    subst (λ (x : List ℕ). Put a.out.now 0 x c.put_groups.new.out c.put_groups.result)
    (sym (sheet_is a.colours.now a.k c.requires.1))
    (both_put a.out.now 0 (one_line groups_word a.k) (groups_text a.colours.now 0 a.k)
    (room (goal.at.returns c).Start) _ _
    c.put_one-a.ensures _ _ c.put_groups.ensures)
