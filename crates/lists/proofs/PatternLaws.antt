-- A line that follows what is expected, byte by byte. Assumes nothing.
use Prim.Native.Nat.{ℕ, suc, ◌+◌}
use mathlib.Core.Path.{◌≡◌}
use mathlib.Core.List.{List, [], ◌∷◌}
use mathlib.Core.Bool.{false, cond}
use mathlib.Core.Option.{none, some}
use native.Mathlib.Nat.{add-zero}
use native.Mathlib.Omega.{arith}
use Rattle.lines.specs.Number.{digit}
use Rattle.lists.specs.Expect.{Pieces, next, ends?, reach, fault_at_lem}
use Rattle.lists.specs.Pattern.{spot_from}
use Rattle.lists.specs.declared.Fault.TheVariants.{Unended}

pub spot_on : (i b : ℕ) (l : List ℕ) (g h : Pieces) → next g b ≡ some h → spot_from i (b ∷ l) g ≡ spot_from (i + 1) l h
unfolding spot_from
spot_on i b l g h e = let z : i + suc (reach l h) + 1 ≡ i + 1 + reach l h + 1 = omega arith in rw (e, z)

pub spot_stuck : (i b : ℕ) (l : List ℕ) (g : Pieces) → next g b ≡ none → spot_from i (b ∷ l) g ≡ record { fault = fault_at_lem g (digit b); column = i + 1 }
unfolding spot_from
spot_stuck i b l g e = rw (e, add-zero i)

pub spot_ends : (i : ℕ) (g : Pieces) → spot_from i [] g ≡ record { fault = cond (ends? g) Unended (fault_at_lem g false); column = i + 1 }
unfolding spot_from
spot_ends i g = rw (add-zero i)
