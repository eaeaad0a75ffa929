-- `sheet_texts::compose` meets its contract: every sheet fits the buffer. Assumes nothing.
use Prim.Native.Nat.{◌≤◌}
use lib.ListN.{length}
use native.Mathlib.Omega.{arith}
use Rattle.clashes.specs.Divisions.{groups}
use Rattle.clashes.proofs.DivisionLaws.{groups_fit}
use Rattle.sheet_texts.specs.Sheet.{sheet_text}
use Rattle.sheet_texts.proofs.Lengths.{sheet_most}
use Rattle.sheet_texts.proofs.Writes.{composed}
use Rattle.sheet_texts.proofs.compose.Goals as goal
use Rattle.sheet_texts.proofs.compose.Goals.{Start}

-- at most 64 groups, and a text that fits
fits : (c : Start) → let s = c.args.colours.now in (groups 0 s ≤ 64) × (length (sheet_text s) ≤ 641)
fits c =
    let s = c.args.colours.now in
    let g : groups 0 s ≤ 64 = omega (arith, groups_fit 0 s c.requires.1, c.requires.0) in
    (g, sheet_most s c.requires.1 c.requires.0)

pub put_sheet-length-requires : goal.put_sheet-length-requires
put_sheet-length-requires c = let f = fits (goal.at.put_sheet-length-requires c).Start in (c.requires.0, c.requires.2, omega (arith, c.requires.2), omega (arith, f.1))

pub returns : goal.returns
returns c =
    let f = fits (goal.at.returns c).Start in (
      omega (arith, f.1, c.put_sheet-length.ensures.0),
      omega (arith, c.put_sheet-length.ensures.0),
      composed _
          (sheet_text c.args.colours.now) _ _ c.put_sheet-length.ensures,
    )
