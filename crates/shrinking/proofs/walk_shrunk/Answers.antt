-- `shrinking::walk_shrunk` meets its contract: what the walk promises of the shrunk rows is made what is promised of the full ones. Assumes nothing.
use mathlib.Core.Path.{◌≡◌, sym, ap, ◌∙◌, subst}
use mathlib.Core.Bool.{cond}
use Prim.Native.Nat.{ℕ, ◌≤◌, max}
use native.Mathlib.Omega.{arith}
use borrow.Author.Rules.{rules}
use lib.ListN.{take, replicate}
use lib.Seq.{length-take-le}
use Rattle.std.specs.Prelude.{Ok, Err}
use Rattle.sets.specs.Set.{size}
use Rattle.bounds.specs.Names.{mycielskian}
use Rattle.bounds.specs.Lent.{of_list}
use Rattle.graphs.proofs.LoopLaws.{size_le}
use Rattle.zykov.specs.Walk.{bounded_walk_lem}
use Rattle.walk.specs.Promise.{Answer, Promised}
use Rattle.shrink.specs.Shrunk.{shrunk_walk}
use Rattle.removing.specs.Words.{Shrank}
use Rattle.shrinking.proofs.CallLaws.{present_entries, shrunk_refused, colours_few, returning, standing, shrunk_accepts}
use Rattle.shrinking.proofs.walk_shrunk.Goals as goal
use Rattle.shrinking.proofs.walk_shrunk.Goals.{After-shrink-s, After-size-m, In_ok-found}

-- the bound is the list's
shrank : (c : After-shrink-s)
    → let a = c.args in Shrank (of_list mycielskian a.rows.now) a.rows.now c.shrink-s.result
shrank c =
    subst (λ (L : ℕ). Shrank L c.args.rows.now c.shrink-s.result) c.requires.bound_value c.shrink-s.ensures

-- no more rows than there are
few : (c : After-size-m) → c.size-m.result ≤ 64
few c = omega (arith, c.size-m.ensures, size_le 64 c.shrink-s.result.present)

-- what the walk over the shrunk rows has promised
walked : (c : In_ok-found)
    → Promised (bounded_walk_lem mycielskian) (take (size 64 c.shrink-s.result.present) c.small_rows-small.result) (replicate 64 0) c.args.budget
    (Ok c.in_ok-found.found) c.fewest.new.colours
walked c =
    subst
    (λ (m : ℕ). Promised (bounded_walk_lem mycielskian) (take m c.small_rows-small.result) (replicate 64 0) c.args.budget (Ok c.in_ok-found.found)
    c.fewest.new.colours)
    c.size-m.ensures c.in_ok-found.ensures

pub small_rows-small-requires : goal.small_rows-small-requires
small_rows-small-requires c =
    present_entries 64 c.args.rows.now c.requires.fact.sound c.shrink-s.result (shrank (goal.at.small_rows-small-requires c).After-shrink-s)

pub slice_bounds-small-end : goal.slice_bounds-small-end
slice_bounds-small-end c = omega (arith, few (goal.at.slice_bounds-small-end c).After-size-m, c.small_rows-small.ensures.long)

pub slice_bounds-fewest-end : goal.slice_bounds-fewest-end
slice_bounds-fewest-end c =
    sym (length-take-le c.size-m.result c.small_rows-small.result
    (omega (arith, few (goal.at.slice_bounds-fewest-end c).After-size-m, c.small_rows-small.ensures.long)))

pub returns-in_err-found : goal.returns-in_err-found
returns-in_err-found c =
    let a = c.args in
    let s = c.shrink-s.result in
    let small = c.small_rows-small in
    let e : c.from_residual.result ≡ Err c.in_err-found.field-0.0 = search rules in
    rw e (shrunk_refused 64 a.rows.now c.requires.fact.sound s (shrank (goal.at.returns-in_err-found c).After-shrink-s) small.result small.ensures
    a.colours.now (replicate 64 0) c.fewest.new.colours a.budget c.requires.fact.bytes (omega (arith, size_le 64 s.present)) c.in_err-found.field-0.0
    (subst (λ (m : ℕ). Promised (bounded_walk_lem mycielskian) (take m small.result) (replicate 64 0) a.budget (Err c.in_err-found.field-0.0)
    c.fewest.new.colours) c.size-m.ensures c.in_err-found.ensures))

pub seated-requires : goal.seated-requires
seated-requires c =
    let a = c.args in
    let small = c.small_rows-small in
    let p = goal.at.seated-requires c in
    colours_few 64 a.rows.now c.requires.fact.sound c.shrink-s.result (shrank p.After-shrink-s) small.result small.ensures a.colours.now
    (replicate 64 0) c.fewest.new.colours a.budget c.requires.fact.bytes c.in_ok-found.found (walked p.In_ok-found)

pub put_back-seats-requires : goal.put_back-seats-requires
put_back-seats-requires c =
    let a = c.args in
    let small = c.small_rows-small in
    let p = goal.at.put_back-seats-requires c in
    returning 64 a.rows.now c.requires.fact.sound c.shrink-s.result (shrank p.After-shrink-s) small.result small.ensures a.colours.now
    (replicate 64 0) c.fewest.new.colours a.budget c.requires.fact.bytes c.in_ok-found.found (walked p.In_ok-found) c.seated.result c.seated.ensures

pub number-requires : goal.number-requires
number-requires c =
    let a = c.args in
    let small = c.small_rows-small in
    let p = goal.at.number-requires c in
    standing 64 a.rows.now c.requires.fact.sound c.shrink-s.result (shrank p.After-shrink-s) small.result small.ensures a.colours.now
    (replicate 64 0) c.fewest.new.colours a.budget c.requires.fact.bytes c.in_ok-found.found (walked p.In_ok-found) c.seated.result c.seated.ensures
    c.put_back-seats.result c.put_back-seats.ensures

pub returns : goal.returns
returns c =
    let a = c.args in
    let small = c.small_rows-small in
    let f = c.in_ok-found.found in
    let p = goal.at.returns c in
    rw c.number.ensures
    (shrunk_accepts 64 a.rows.now c.requires.fact.sound c.shrink-s.result (shrank p.After-shrink-s) small.result small.ensures a.colours.now
    (replicate 64 0) c.fewest.new.colours a.budget c.requires.fact.bytes f (walked p.In_ok-found) c.seated.result c.seated.ensures
    c.put_back-seats.result c.put_back-seats.ensures c.larger.result c.clique_of.result
    (c.larger.ensures ∙ ap (λ (L : ℕ). cond c.shrink-s.result.few (max L f.k) f.k) c.requires.bound_value) c.clique_of.ensures)
