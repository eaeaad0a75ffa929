-- `undo::colours` meets its contract: the bytes below i are the groups of the entries below i, and next is how many they are. Assumes nothing.
use mathlib.Core.Path.{◌≡◌, sym, subst, subst₂, ◌∙◌}
use mathlib.Core.List.{List}
use Prim.Native.Nat.{ℕ, zero, ◌+◌, ◌<◌}
use native.Mathlib.Omega.{arith}
use lib.ListN.{length, get_or, set, length-take}
use lib.Seq.{get_or-take}
use Rattle.undo.proofs.ColourLaws.{Numbered, numbered_opens, numbered_joins, numbered_all}
use Rattle.undo.proofs.colours.Goals as goal
use Rattle.undo.proofs.colours.Goals.{then-w-i, else-w-i}

pub loop-i-preserved : goal.loop-i-preserved
loop-i-preserved c =
    let p = c.args.names.now in
    let old = c.args.out.now in
    let l = c.loop-i in
    let few : l.i < c.args.n = omega (arith, length-take {A = ℕ} c.args.n p) in
    let inside : l.i < length p = omega (arith, few) in
    let room : l.i < length old = omega (arith, few) in
    let w_is : c.from-w.result ≡ get_or p l.i zero = c.from-w.ensures ∙ get_or-take c.args.n p l.i zero few in
    elim c.if-w-i.branch [
      | then-w-i w ↦
          subst₂ (λ (o : List ℕ) (m : ℕ). Numbered p old o m (l.i + 1)) (sym w.out-is) (sym w.next-is)
          (numbered_opens p old l.out l.next l.i c.requires.forest inside room l.invariant (sym w_is ∙ w.if-w-i.true))
      | else-w-i w ↦
          subst₂ (λ (o : List ℕ) (m : ℕ). Numbered p old o m (l.i + 1)) (sym w.out-is) (sym w.next-is)
          (subst (λ (v : ℕ). Numbered p old (set l.out l.i (get_or l.out v zero)) l.next (l.i + 1)) (sym w_is)
          (numbered_joins p old l.out l.next l.i c.requires.forest inside room l.invariant (λ e. w.if-w-i.false (w_is ∙ e))))
    ]

pub returns : goal.returns
returns c =
    let a = c.args in
    let l = c.loop-i in
    numbered_all a.n a.names.now a.out.now l.out l.next l.i (omega (arith, length-take {A = ℕ} a.n a.names.now)) l.invariant
