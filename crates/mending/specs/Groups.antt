-- Groups as the code holds them: the first `many` of an array of sets.
--
--   sets_of g : the groups that g holds, as tests
--
-- Assumes nothing.
use Rattle.std.specs.Prelude.{ℕ, List, map, Bool, take}
use Rattle.sets.specs.Set.{has}
use Rattle.mending.specs.declared.groups.Groups.{Groups}

abbrev pub sets_of : Groups → List (ℕ → Bool)
sets_of g = map has (take g.many g.sets)
