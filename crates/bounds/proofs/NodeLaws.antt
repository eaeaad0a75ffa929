-- Laws of the two bounds at a held node: what the counts and climbs in words say of them. Assumes nothing.
use mathlib.Core.Path.{◌≡◌, sym, ap, ◌∙◌}
use mathlib.Core.Bool.{false}
use Prim.Native.Nat.{ℕ, ◌≤◌, ◌<◌}
use native.Mathlib.Nat.{le_trans, le_of_eq}
use native.Mathlib.Decide.{dec_lt}
use native.Mathlib.Omega.{arith}
use lib.Dec.{leb}
use borrow.Author.Tests.{le-leb, lt-leb}
use Rattle.sets.specs.Set.{size}
use Rattle.graphs.specs.Graph.{Graph}
use Rattle.graphs.specs.Held.{view, HeldAt}
use Rattle.graphs.specs.declared.Node.{Node}
use Rattle.graphs.proofs.HeldLaws.{held_vertices}
use Rattle.graphs.proofs.LoopLaws.{size_le}
use Rattle.cliques.specs.Clique.{clique}
use Rattle.cliques.specs.Growth.{IsSetOf}
use Rattle.cliques.proofs.WordLaws.{set_of_one}
use Rattle.mycielski.specs.Rounds
use Rattle.mycielski.specs.Words.{Climbs}
use Rattle.bounds.specs.Names.{clique_set, mycielskian, clique_set_is, mycielskian_is}
use Rattle.bounds.proofs.BoundLaws.{mycielskian_vertices}

-- the set that has the clique's members is the named one
pub clique_named : (n : ℕ) (g : Graph) (w : ℕ) → IsSetOf (clique n g) w → w ≡ clique_set n g
clique_named n g w q = set_of_one (clique n g) w q ∙ sym (clique_set_is n g)

module _ {cap : ℕ} (h : Node) (k : HeldAt cap h) where
  abbrev g : Graph
  g = view h

  abbrev n : ℕ
  n = h.n

  -- no bound is above the number of live vertices
  most : mycielskian n g ≤ size cap h.live
  most = le_trans (mycielskian_vertices n g k.good) (le_of_eq (sym (held_vertices h k)))

  -- what could only be reached above the limit is the bound itself
  pub climbs_exact : {enough r : ℕ} → Climbs (Rounds.mycielskian n g) enough r → cap < enough → r ≡ mycielskian n g
  climbs_exact c l = c.exact (omega (arith, c.most, mycielskian_is n g, most, size_le cap h.live)) ∙ sym (mycielskian_is n g)

  pub climbs_reach : (best r : ℕ) → Climbs (Rounds.mycielskian n g) best r → leb best r ≡ leb best (mycielskian n g)
  climbs_reach best r c = go (dec_lt r best)
    where
      go : Dec (r < best) → leb best r ≡ leb best (mycielskian n g)
      go (yes l) = ap (leb best) (c.exact l ∙ sym (mycielskian_is n g))
      go (no l) = le-leb best r (omega arith) ∙ sym (le-leb best (mycielskian n g) (omega (arith, c.most, mycielskian_is n g)))

  pub few_reach : (best : ℕ) → size cap h.live < best → false ≡ leb best (mycielskian n g)
  few_reach best l = sym (lt-leb best (mycielskian n g) (omega (arith, most)))
