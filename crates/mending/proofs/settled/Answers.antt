-- `mending::settled` meets its contract: no entry stands in two groups, and each in one. Assumes nothing.
use mathlib.Core.Path.{subst}
use Prim.Native.Nat.{ℕ}
use mathlib.Core.List.{List}
use mathlib.Core.Bool.{Bool}
use Rattle.clashes.specs.Matrix.{matrix}
use Rattle.mends.specs.Mend.{group_place}
use Rattle.mending.specs.Places.{NumberedOf}
use Rattle.mending.proofs.Answers.{sets_are, sets_apart, sets_all}
use Rattle.mending.proofs.settled.Goals as goal

pub admit_all-requires : goal.admit_all-requires
admit_all-requires c = (c.requires.0, c.requires.3.within, c.requires.3.room)

pub in_order-requires : goal.in_order-requires
in_order-requires c =
    let l = c.args.list.now in (
      c.requires.0.few,
      sets_apart l.n (matrix l.rows) c.requires.1 c.args.g.now c.requires.2 c.args.again c.requires.3 c.admit_all.new.self c.admit_all.ensures,
      sets_all l.n (matrix l.rows) c.requires.1 c.args.g.now c.requires.2 c.args.again c.requires.3 c.admit_all.new.self c.admit_all.ensures,
    )

pub returns : goal.returns
returns c =
    let l = c.args.list.now in
    subst (λ (gs : List (ℕ → Bool)). NumberedOf l.n (group_place gs) c.in_order.result)
    (sets_are l.n (matrix l.rows) c.requires.1 c.args.g.now c.requires.2 c.args.again c.requires.3 c.admit_all.new.self c.admit_all.ensures)
    c.in_order.ensures
