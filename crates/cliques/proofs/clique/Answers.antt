-- `cliques::clique` meets its contract: no clique has 65 members. Assumes nothing.
use mathlib.Core.Logic.{inl, inr}
use native.Mathlib.Omega.{arith}
use Rattle.graphs.proofs.LoopLaws.{size_le}
use Rattle.cliques.proofs.clique.Goals as goal

pub returns : goal.returns
returns c =
    elim (c.clique_among.ensures c.args.h c.requires) [
      | inl e ↦ e
      | inr e ↦ absurd (let z : ⊥ = omega (arith, size_le 64 c.clique_among.result) in z)
    ]
