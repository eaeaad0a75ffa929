-- A pair that lies after a place lies after each earlier one.
use Rattle.std.proofs.Common.{ℕ, ◌≤◌, arith}
use Rattle.trials_sheets.specs.Case.{Within}
use Rattle.trials_sheets.specs.declared.Case.{Case}

pub within_earlier : (a b len : ℕ) (c : Case) → a ≤ b → Within b len c → Within a len c
within_earlier a b len c h w = (w.0, omega (arith, w.1), w.2, w.3, w.4)
