-- `graphs::root` meets its contract: the rows are the list's, and the names below n its entries, the others 0. Assumes nothing.
use mathlib.Core.Path.{◌≡◌, refl, ap, ◌∙◌}
use mathlib.Core.Bool.{cond}
use mathlib.Core.List.{List}
use Prim.Native.Nat.{ℕ}
use native.Mathlib.Omega.{arith}
use lib.Dec.{ltb}
use lib.ListN.{length, get_or, get_or-append, length-append, length-drop}
use Rattle.graphs.proofs.HeldLaws.{root_is}
use Rattle.graphs.proofs.LoopLaws.{fill_none}
use Rattle.graphs.proofs.root.Goals as goal

pub loop-i-init : goal.loop-i-init
loop-i-init c = (refl, fill_none (λ k. k) 64)

pub returns : goal.returns
returns c =
    let s = c.requires in
    let few = s.apart.inside.few in
    let copy = c.copy_from_slice.new.self in
    let same = c.copy_from_slice.ensures.after in
    let long = ap (λ (l : List ℕ). length l) same in
    let end : c.loop-i.i ≡ length c.args.rows.now = omega arith in
    root_is 64 c.args.rows.now _ s few refl c.below.ensures
    (λ k b. get_or-append copy _ 0 k (omega (arith, long)) ∙ ap (λ (l : List ℕ). get_or l k 0) same)
    (λ k. c.loop-i.invariant.1 k ∙ ap (λ (m : ℕ). cond (ltb k m) k 0) end)
    (omega (arith, long, few, length-append {A = ℕ}, length-drop {A = ℕ})) c.loop-i.invariant.0
