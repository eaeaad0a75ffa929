-- Document 02, Ask 8, as a whole: shrink, walk over the shrunk list, put back.
--
--   is_few r                 : r is a removal by the second rule
--   fewest L rs k            : the answer, where rs have gone and the shrunk list has k
--   shrunk_size L n clash    : how many entries the shrunk list has
--   shrunk_clash L n clash   : its clashes
--   whole L n clash c        : the division of the full list that comes of the division c of the shrunk one
--   shrunk_of bound n clash  : the bounded walk over the list that is shrunk by the bound of the full one
--   shrunk_walk bound n clash : the same, with all put back: a described walk over the full list as document 01's two are, with a best division,
--                              nodes and complete graphs
--
-- Assumes nothing.
use Rattle.std.specs.Prelude.{Bool, true, false, cond, List, ℕ, max, length}
use Rattle.std.proofs.Math.Decide.{ℕ_discrete}
use Rattle.sets.specs.Lists.{some?}
use Rattle.clashes.specs.Divisions.{at, division}
use Rattle.graphs.specs.Graph.{Graph, graph}
use Rattle.zykov.specs.Walk.{State, bounded_walk_lem}
use Rattle.shrink.specs.Rules.{Removal, covered, few, everyone, gone, names, among}
use Rattle.shrink.specs.Back.{back, spread}

abbrev pub is_few : Removal → Bool
is_few (covered v u) = false
is_few (few v) = true

-- "The answer is the larger of L and the shrunk k where the second rule was used, else the shrunk k."
abbrev pub fewest : ℕ → List Removal → ℕ → ℕ
fewest L rs k = cond (some? is_few rs) (max L k) k

module _ (L n : ℕ) (clash : ℕ → ℕ → Bool) where
  abbrev pub shrunk_size : ℕ
  shrunk_size = length (names L n clash)

  abbrev pub shrunk_clash : ℕ → ℕ → Bool
  shrunk_clash = among (names L n clash) clash

  -- "Groups are then numbered as always."
  abbrev pub whole : List ℕ → List ℕ
  whole c = division ℕ_discrete n (at (back n clash (everyone n) (gone L n clash) (spread n (names L n clash) c)).group)

  -- "In this mode the count is that of the walk over the shrunk list"
  abbrev pub restored : State → State
  restored s = record { best = whole s.best; nodes = s.nodes; leaves = s.leaves }

abbrev pub shrunk_of : (ℕ → Graph → ℕ) → ℕ → (ℕ → ℕ → Bool) → State
shrunk_of bound n clash = bounded_walk_lem bound (shrunk_size (bound n (graph n clash)) n clash) (shrunk_clash (bound n (graph n clash)) n clash)

abbrev pub shrunk_walk : (ℕ → Graph → ℕ) → ℕ → (ℕ → ℕ → Bool) → State
shrunk_walk bound n clash = restored (bound n (graph n clash)) n clash (shrunk_of bound n clash)
