-- `cliques::opened` meets its contract. Assumes nothing.
use mathlib.Core.Path.{subst}
use mathlib.Core.List.{[], ◌∷◌}
use Rattle.graphs.specs.Held.{view, holding}
use Rattle.cliques.specs.Growth.{Grown, in_numbers}
use Rattle.cliques.proofs.WordLaws.{grown_alone}
use Rattle.cliques.proofs.HuntLaws.{near_lives, opened_is}
use Rattle.cliques.proofs.opened.Goals as goal

pub returns : goal.returns
returns g c =
    let b = g.S.Bits in
    let a = c.args in
    let near = b.as_num c.meet-near.result in
    let under = c.below in
    let cut = c.less in
    let m = rw c.row.ensures at c.meet-near.ensures in
    λ n k.
    let h = holding (b.as_num a.live) (b.as_rows a.rows.now) n in
    let lives = near_lives h k a.s near (b.as_num under.result) (b.as_num cut.result) c.requires.t m under.ensures cut.ensures in
    let alone = grown_alone h k a.s (b.as_num c.with.result) near c.requires.t (rw c.none.ensures at c.with.ensures) m in
    let is = opened_is h k a.s near (b.as_num under.result) (b.as_num cut.result) c.requires.t m under.ensures cut.ensures in
    subst (λ v. Grown h.n (view h) v (in_numbers b.as_num c.grow.result)) is (c.grow.ensures (b.as_num a.live) lives n k (a.s ∷ []) alone)
