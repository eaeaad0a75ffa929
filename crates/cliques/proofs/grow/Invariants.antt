use Prim.Native.Nat.{ℕ}
use Rattle.sets.specs.Set.{size}
use Rattle.graphs.specs.Held.{HeldAt, holding}
use Rattle.graphs.specs.declared.Node.{Node}
use Rattle.cliques.specs.Growth.{Within, in_numbers}
use Rattle.cliques.proofs.WordLaws.{Turn}
use Rattle.cliques.proofs.grow.Given as goal

abbrev pub invariant-loop-rest : goal.invariant-loop-rest
invariant-loop-rest g l =
    let b = g.S.Bits in
    let before = in_numbers b.as_num (record { set = l.initial.set; near = l.initial.near }) in
    let left = b.as_num l.initial.rest in
    (live : ℕ) (m : Node) → (k : HeldAt b.cap (holding live (b.as_rows l.rows) m)) → Within left before.near → Within before.near live
    → Turn (holding live (b.as_rows l.rows) m) k before left (in_numbers b.as_num (record { set = l.set; near = l.near })) (b.as_num l.rest)

abbrev pub decreases-loop-rest : goal.decreases-loop-rest
decreases-loop-rest g l = let b = g.S.Bits in size b.cap (b.as_num l.rest)
