-- `bounds::clique_of` meets its contract: the root's graph is the list's. Assumes nothing.
use mathlib.Core.Path.{◌∙◌}
use Rattle.bounds.specs.Names.{clique_set}
use Rattle.bounds.proofs.LentLaws.{root_list}
use Rattle.bounds.proofs.NodeLaws.{clique_named}
use Rattle.bounds.proofs.clique_of.Goals as goal

pub clique-requires : goal.clique-requires
clique-requires c = c.root-h.ensures.held

pub returns : goal.returns
returns c =
    clique_named _ _ c.clique.result c.clique.ensures ∙ root_list clique_set _ c.root-h.result c.root-h.ensures
