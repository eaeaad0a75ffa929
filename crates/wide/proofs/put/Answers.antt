-- `wide::put` meets its contract: four words are written, one after the other. Assumes nothing.
use mathlib.Core.Path.{refl, ◌∙◌}
use mathlib.Core.List.{[], ◌∷◌}
use native.Mathlib.Omega.{arith}
use lib.ListN.{length-set}
use Rattle.wide.specs.Words.{num}
use Rattle.wide.proofs.RowLaws.{written_four, rows_put}
use Rattle.wide.proofs.put.Goals as goal

pub bounds-rows-k-2 : goal.bounds-rows-k-2
bounds-rows-k-2 c = simp (length-set) (omega (arith, c.requires.0, c.requires.1))

pub bounds-rows-k-3 : goal.bounds-rows-k-3
bounds-rows-k-3 c = simp (length-set) (omega (arith, c.requires.0, c.requires.1))

pub bounds-rows-k-4 : goal.bounds-rows-k-4
bounds-rows-k-4 c = simp (length-set) (omega (arith, c.requires.0, c.requires.1))

pub returns : goal.returns
unfolding num
returns c =
    let a = c.args in
    let w = written_four a.i a.rows.now a.s.a a.s.b a.s.c a.s.d (omega (arith, c.requires.0, c.requires.1)) in
    (w.long ∙ c.requires.0, rows_put 4 256 a.i a.rows.now (a.s.a ∷ a.s.b ∷ a.s.c ∷ a.s.d ∷ []) _ refl c.requires.1 (omega (arith, c.requires.0)) w)
