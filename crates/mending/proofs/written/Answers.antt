-- `mending::written` meets its contract: 19, or the whole output. Assumes nothing.
use mathlib.Core.Path.{◌≡◌, refl, sym, subst}
use Prim.Native.Nat.{ℕ, ◌≤◌, ◌+◌}
use mathlib.Core.List.{List, ◌++◌}
use lib.ListN.{length, take}
use native.Mathlib.Omega.{arith}
use Rattle.sets.specs.Lists.{members}
use Rattle.sets.specs.Set.{has}
use Rattle.clashes.specs.Matrix.{matrix}
use Rattle.lines.specs.Numeral.{Put}
use Rattle.mends.specs.Report.{dropped_text, put_text}
use Rattle.mending.specs.Held.{dropped_of}
use Rattle.mending.proofs.Answers.{colours_long, colours_canon, colours_groups, whole_length, answered_full, answered_written}
use borrow.Author.Rules.{rules}
use Rattle.mending.proofs.written.Goals as goal

pub compose-text-requires : goal.compose-text-requires
compose-text-requires c =
    let o = c.settled-order in (
      omega (arith, c.requires.0.few, colours_long c.args.list.now.n c.requires.0.few o.result _ o.ensures),
      colours_canon c.args.list.now.n c.requires.0.few o.result _ o.ensures,
      colours_groups c.args.list.now.n c.requires.0.few o.result _ o.ensures,
    )

pub puts_len-puts-requires : goal.puts_len-puts-requires
puts_len-puts-requires c =
    let o = c.settled-order in
    let l = colours_long c.args.list.now.n c.requires.0.few o.result _ o.ensures in
    (λ j t. omega (arith, c.again-again.ensures.within j t, l), omega (arith, c.requires.0.few, l))

pub returns-then-out-g : goal.returns-then-out-g
returns-then-out-g c =
    let o = c.settled-order in
    let e = c.again-again in
    let z = whole_length c.args.list.now.n (matrix c.args.list.now.rows) c.args.sheet.now c.requires.2 c.args.g.now c.requires.3 e.result e.ensures o.result o.ensures
    _ _ _ refl c.puts_len-puts.ensures.0 c.compose-text.ensures.1 in
    answered_full c.args.list.now.n (matrix c.args.list.now.rows) c.args.sheet.now c.requires.2 c.args.g.now c.requires.3 e.result e.ensures o.result o.ensures
    c.args.out.now (omega (arith, z, c.if-out-g.true))

pub slice_bounds-bytes-end : goal.slice_bounds-bytes-end
slice_bounds-bytes-end c = let z : length c.compose-text.result.bytes ≡ 768 = search rules in omega (arith, c.compose-text.ensures.0)

pub put_output-whole-requires : goal.put_output-whole-requires
put_output-whole-requires c =
    let o = c.settled-order in
    let e = c.again-again in
    let t = c.compose-text in
    let l = colours_long c.args.list.now.n c.requires.0.few o.result _ o.ensures in
    let z = whole_length c.args.list.now.n (matrix c.args.list.now.rows) c.args.sheet.now c.requires.2 c.args.g.now c.requires.3 e.result e.ensures o.result o.ensures
    _ _ _ refl c.puts_len-puts.ensures.0 t.ensures.1 in
    let d = dropped_text (dropped_of c.args.list.now.n c.args.sheet.now) in
    let p = put_text (take c.args.list.now.n o.result.colours) (members (has e.result) 64) in (
      c.requires.0.few,
      c.requires.2,
      λ j t. omega (arith, e.ensures.within j t, l),
      omega (arith, c.requires.0.few, l),
      subst (λ (x : List ℕ). 0 + length (d ++ (p ++ x)) ≤ length c.args.out.now) (sym t.ensures.2) (omega (arith, z, c.if-out-g.false)),
    )

pub returns : goal.returns
returns c =
    let o = c.settled-order in
    let e = c.again-again in
    let t = c.compose-text in
    let z = whole_length c.args.list.now.n (matrix c.args.list.now.rows) c.args.sheet.now c.requires.2 c.args.g.now c.requires.3 e.result e.ensures o.result o.ensures
    _ _ _ refl c.puts_len-puts.ensures.0 t.ensures.1 in
    let d = dropped_text (dropped_of c.args.list.now.n c.args.sheet.now) in
    let p = put_text (take c.args.list.now.n o.result.colours) (members (has e.result) 64) in
    answered_written c.args.list.now.n (matrix c.args.list.now.rows) c.args.sheet.now c.requires.2 c.args.g.now c.requires.3 e.result e.ensures o.result o.ensures
    c.args.out.now _ _ (omega (arith, z, c.if-out-g.false))
    (subst (λ (x : List ℕ). Put c.args.out.now 0 (d ++ (p ++ x)) c.put_output-whole.new.out c.put_output-whole.result) t.ensures.2
    c.put_output-whole.ensures)
