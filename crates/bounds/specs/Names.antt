-- The two bounds of document 01 as the crates above know them: by name, and by the laws of proofs/BoundLaws.antt.
--
--   clique_set n g  : the clique of g, as the set of its members (crate cliques, specs/Clique.antt)
--   clique_bound_lem n g : its size
--   mycielskian n g : the Mycielskian bound of g (crate mycielski, specs/Rounds.antt)
--
-- All are shut: no other module can unfold them. The equations below say what they are, but whoever has no sight of the crates `cliques` and
-- `mycielski` (crates.txt says who has) can name neither definition, and so can't look inside. Assumes nothing.
use Rattle.std.specs.Prelude.{◌≡◌, refl, ℕ, length}
use Rattle.graphs.specs.Graph.{Graph}
use Rattle.cliques.specs.Clique.{clique, set_of}
use Rattle.mycielski.specs.Rounds

pub clique_set : ℕ → Graph → ℕ
clique_set n g = set_of (clique n g)

pub clique_bound_lem : ℕ → Graph → ℕ
clique_bound_lem n g = length (clique n g)

pub mycielskian : ℕ → Graph → ℕ
mycielskian n g = Rounds.mycielskian n g

pub clique_set_is : (n : ℕ) (g : Graph) → clique_set n g ≡ set_of (clique n g)
unfolding clique_set
clique_set_is n g = refl

pub clique_is : (n : ℕ) (g : Graph) → clique_bound_lem n g ≡ length (clique n g)
unfolding clique_bound_lem
clique_is n g = refl

pub mycielskian_is : (n : ℕ) (g : Graph) → mycielskian n g ≡ Rounds.mycielskian n g
unfolding mycielskian
mycielskian_is n g = refl
