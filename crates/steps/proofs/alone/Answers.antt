-- `steps::alone` meets its contract: the entries below i have their own numbers. Assumes nothing.
use mathlib.Core.Path.{sym, ap, ◌∙◌}
use mathlib.Core.List.{List, ◌++◌}
use Prim.Native.Nat.{ℕ}
use native.Mathlib.Omega.{arith}
use lib.ListN.{drop, length-take}
use lib.Seq.{ext_get_or}
use Rattle.sets.proofs.ListLaws.{length_table, get_d_table}
use Rattle.clashes.specs.Divisions.{alone}
use Rattle.steps.proofs.alone.Goals as goal

pub returns : goal.returns
returns c =
    let n = c.args.n in
    let l = c.loop-i in
    let many = length_table (λ i. i) n in
    ap (λ (s : List ℕ). s ++ drop n c.args.out.now)
    (ext_get_or 0 l.entry-items (alone n) (omega (arith, length-take {A = ℕ} n c.args.out.now, many))
    (λ j b. l.invariant j (omega (arith, length-take {A = ℕ} n c.args.out.now)) ∙ sym (get_d_table (λ i. i) n 0 j (omega (arith, length-take {A = ℕ} n c.args.out.now)))))
