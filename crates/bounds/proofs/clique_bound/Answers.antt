-- `bounds::clique_bound` meets its contract: the members are as many as the clique bound says. Assumes nothing.
use mathlib.Core.Path.{ap, ◌∙◌}
use Rattle.sets.specs.Set.{size}
use Rattle.clashes.proofs.MatrixLaws.{sound_valid}
use Rattle.graphs.proofs.SplitLaws.{good_graph}
use Rattle.bounds.proofs.BoundLaws.{clique_size}
use Rattle.bounds.proofs.clique_bound.Goals as goal

pub returns : goal.returns
returns c =
    let o = c.in_ok-validity.ensures in
    record {
      verdict = o;
      value = λ v.
          c.size.ensures ∙ ap (size 64) c.clique_of-members.ensures ∙ clique_size _ _ (good_graph _ _ (sound_valid c.args.rows.now o)) 64 o.apart.inside.few;
      members = λ v. c.clique_of-members.ensures;
    }
