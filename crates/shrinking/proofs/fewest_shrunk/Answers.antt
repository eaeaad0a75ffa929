-- `shrinking::fewest_shrunk` meets its contract. Assumes nothing.
use mathlib.Core.Path.{refl}
use Rattle.shrinking.proofs.fewest_shrunk.Goals as goal

-- the bound is the list's own
pub walk_shrunk-requires : goal.walk_shrunk-requires
walk_shrunk-requires c =
    let v = c.in_ok-bound.ensures in
    record { fact = record { sound = v.verdict; bytes = c.if-colours-rows.false }; bound_value = v.value refl }
