-- `steps::explore` meets its contract: a cycle of one function, with a loop on the separations. Mergings are undone as it goes, separations from the trail
-- where it returns. Assumes nothing.
use mathlib.Core.Path.{◌≡◌, refl, sym, ap, ◌∙◌}
use mathlib.Core.Option.{some}
use Prim.Native.Nat.{ℕ}
use native.Mathlib.Omega.{arith}
use Rattle.wide.specs.declared.Set.{Set}
use Rattle.graphs.specs.Graph.{pair}
use Rattle.graphs.specs.Held.{view, choice_of}
use Rattle.zykov.specs.Walk.{plain}
use Rattle.std.specs.Prelude.{Ok}
use Rattle.steps.specs.Going.{Lent, lending, node_in, counted, Enters}
use Rattle.steps.specs.declared.State.{State}
use Rattle.steps.proofs.Turns.{counted_on, counted_ready, err_is, comes_at, comes_out, comes_leaf, comes_fork}
use Rattle.steps.proofs.Splits.{living}
use Rattle.steps.proofs.Undoing.{form_few, laid_finds, left_best, left_kept, kept_restored}
use Rattle.steps.proofs.Rounds.{round_pair, round_merges, round_enters, round_falls, round_unmerges, round_back}
use Rattle.steps.proofs.+explore.Goals as goal

-- once the node is counted the walk may go on below it
entered_on : {words n : ℕ} {live : Set} {l : Lent} {at : ℕ} {s t : State} → Enters words n live l at s → counted s ≡ Ok t
    → Enters words n live l at t
entered_on e c = record { ready = counted_ready e.ready (counted_on e.ready c); laid = e.laid }

-- ---- the walk is out

pub restore-requires : goal.restore-requires
restore-requires t c = let i = c.loop-entered.invariant in record { form = i.enters.laid.form; more_in_bounds = omega (arith, i.left.few) }

pub returns-in_default : goal.returns-in_default
returns-in_default t c =
    let i = c.loop-entered.invariant in
    let spent = err_is c.counted-next.result c.in_default.not-Ok in
    record {
      comes = i.rest _ _ (comes_at (comes_out (plain c.args.n) i.enters.ready (sym c.counted-next.ensures ∙ spent)) spent);
      kept = kept_restored _ _ _ _ _ i.left _ c.restore.ensures.form_2 c.restore.ensures.restored;
    }

-- ---- the node is complete

pub choose_among-requires : goal.choose_among-requires
choose_among-requires t c =
    let i = c.loop-entered.invariant in
    let h = node_in c.args.words c.args.n c.args.live (lending c.loop-entered.rows c.loop-entered.names c.loop-entered.best c.loop-entered.trail) in
    record { form = i.enters.laid.form; holds_at = (h, i.enters.ready.held) }

pub compared-met-requires : goal.compared-met-requires
compared-met-requires t c =
    let i = c.loop-entered.invariant in
    let d = counted_on i.enters.ready (sym c.counted-next.ensures ∙ c.in-Ok.is) in
    record {
      forest = i.enters.laid.forest;
      n_in_bounds = laid_finds _ _ _ _ _ i.enters.laid i.enters.ready.held;
      leaves_lt_nodes = d.strict;
    }

pub restore-requires-in-None : goal.restore-requires-in-None
restore-requires-in-None t c =
    let i = c.loop-entered.invariant in
    record { form = i.enters.laid.form; more_in_bounds = omega (arith, i.left.few) }

pub returns-in-None : goal.returns-in-None
returns-in-None t c =
    let i = c.loop-entered.invariant in
    let h = node_in c.args.words c.args.n c.args.live (lending c.loop-entered.rows c.loop-entered.names c.loop-entered.best c.loop-entered.trail) in
    let d = counted_on i.enters.ready (sym c.counted-next.ensures ∙ c.in-Ok.is) in
    let f = c.compared-met.ensures in
    record {
      comes = i.rest _ _ (comes_leaf (plain c.args.n) i.enters.ready d refl
          (sym (c.choose_among.ensures h i.enters.ready.held) ∙ ap choice_of c.in-None.is)
          (f.is _ _ (form_few i.enters.laid.form) (counted_ready i.enters.ready d)));
      kept = kept_restored _ _ _ _ _ (left_best _ _ _ _ _ i.left _ f.long) _ c.restore-in-None.ensures.form_2
          c.restore-in-None.ensures.restored;
    }

-- ---- the node is split: the walk goes to the merged graph

pub merge_at-d-requires : goal.merge_at-d-requires
merge_at-d-requires t c =
    let i = c.loop-entered.invariant in
    let h = node_in c.args.words c.args.n c.args.live (lending c.loop-entered.rows c.loop-entered.names c.loop-entered.best c.loop-entered.trail) in
    let e = entered_on i.enters (sym c.counted-next.ensures ∙ c.in-Ok.is) in
    let q : pair c.args.n (view h) ≡ some (c.in-Some.u, c.in-Some.v) = sym (c.choose_among.ensures h i.enters.ready.held) ∙ ap choice_of c.in-Some.is in
    record { form = e.laid.form; names_len = round_merges e q }

pub without-requires : goal.without-requires
without-requires t c =
    let i = c.loop-entered.invariant in
    let h = node_in c.args.words c.args.n c.args.live (lending c.loop-entered.rows c.loop-entered.names c.loop-entered.best c.loop-entered.trail) in
    let e = entered_on i.enters (sym c.counted-next.ensures ∙ c.in-Ok.is) in
    let q : pair c.args.n (view h) ≡ some (c.in-Some.u, c.in-Some.v) = sym (c.choose_among.ensures h i.enters.ready.held) ∙ ap choice_of c.in-Some.is in
    omega (arith, (round_pair e q).1, form_few e.laid.form)

pub explore-below-requires : goal.explore-below-requires
explore-below-requires t c =
    let a = c.args in
    let i = c.loop-entered.invariant in
    let h = node_in c.args.words c.args.n c.args.live (lending c.loop-entered.rows c.loop-entered.names c.loop-entered.best c.loop-entered.trail) in
    let e = entered_on i.enters (sym c.counted-next.ensures ∙ c.in-Ok.is) in
    let q : pair c.args.n (view h) ≡ some (c.in-Some.u, c.in-Some.v) = sym (c.choose_among.ensures h i.enters.ready.held) ∙ ap choice_of c.in-Some.is in
    let p : living (node_in a.words a.n a.live (lending a.rows.now a.names.now a.best.now a.trail.now)) ≡ t = c.decreases in (
      omega (arith, round_falls e q c.merge_at-d.ensures c.without.result c.without.ensures, i.lives),
      round_enters e q c.merge_at-d.ensures c.without.result c.without.ensures,
    )

pub unmerge_at-requires : goal.unmerge_at-requires
unmerge_at-requires t c =
    let i = c.loop-entered.invariant in
    let h = node_in c.args.words c.args.n c.args.live (lending c.loop-entered.rows c.loop-entered.names c.loop-entered.best c.loop-entered.trail) in
    let e = entered_on i.enters (sym c.counted-next.ensures ∙ c.in-Ok.is) in
    let q : pair c.args.n (view h) ≡ some (c.in-Some.u, c.in-Some.v) = sym (c.choose_among.ensures h i.enters.ready.held) ∙ ap choice_of c.in-Some.is in
    record {
      form = c.explore-below.ensures.kept.stays.form;
      names_len = round_unmerges e q c.merge_at-d.ensures c.without.result c.without.ensures plain c.explore-below.ensures;
      fits = (c.merge_at-d.ensures.rows_are.old_fits, c.merge_at-d.ensures.rows_are.near_fits);
    }

-- ---- it has come back from there, and is out

pub restore-requires-in_default-below : goal.restore-requires-in_default-below
restore-requires-in_default-below t c =
    let i = c.loop-entered.invariant in
    let h = node_in c.args.words c.args.n c.args.live (lending c.loop-entered.rows c.loop-entered.names c.loop-entered.best c.loop-entered.trail) in
    let e = entered_on i.enters (sym c.counted-next.ensures ∙ c.in-Ok.is) in
    let q : pair c.args.n (view h) ≡ some (c.in-Some.u, c.in-Some.v) = sym (c.choose_among.ensures h i.enters.ready.held) ∙ ap choice_of c.in-Some.is in
    let k = round_back e q c.merge_at-d.ensures c.without.result c.without.ensures plain c.explore-below.ensures c.unmerge_at.ensures in
    let f = left_kept _ _ _ _ _ i.left _ k.kept in
    record { form = f.stays.form; more_in_bounds = omega (arith, f.few) }

pub returns-in_default-below : goal.returns-in_default-below
returns-in_default-below t c =
    let i = c.loop-entered.invariant in
    let h = node_in c.args.words c.args.n c.args.live (lending c.loop-entered.rows c.loop-entered.names c.loop-entered.best c.loop-entered.trail) in
    let d = counted_on i.enters.ready (sym c.counted-next.ensures ∙ c.in-Ok.is) in
    let e = entered_on i.enters (sym c.counted-next.ensures ∙ c.in-Ok.is) in
    let q : pair c.args.n (view h) ≡ some (c.in-Some.u, c.in-Some.v) = sym (c.choose_among.ensures h i.enters.ready.held) ∙ ap choice_of c.in-Some.is in
    let k = round_back e q c.merge_at-d.ensures c.without.result c.without.ensures plain c.explore-below.ensures c.unmerge_at.ensures in
    let f = left_kept _ _ _ _ _ i.left _ k.kept in
    let spent = err_is c.explore-below.result c.in_default-below.not-Ok in
    record {
      comes = i.rest _ _ (comes_fork (plain c.args.n) i.enters.ready d refl q (comes_at (k.out _ spent) spent));
      kept = kept_restored _ _ _ _ _ f _ c.restore-in_default-below.ensures.form_2 c.restore-in_default-below.ensures.restored;
    }

-- ---- or goes on with the pair separated

pub separate_at-requires : goal.separate_at-requires
separate_at-requires t c =
    let i = c.loop-entered.invariant in
    let h = node_in c.args.words c.args.n c.args.live (lending c.loop-entered.rows c.loop-entered.names c.loop-entered.best c.loop-entered.trail) in
    let e = entered_on i.enters (sym c.counted-next.ensures ∙ c.in-Ok.is) in
    let q : pair c.args.n (view h) ≡ some (c.in-Some.u, c.in-Some.v) = sym (c.choose_among.ensures h i.enters.ready.held) ∙ ap choice_of c.in-Some.is in
    let k = round_back e q c.merge_at-d.ensures c.without.result c.without.ensures plain c.explore-below.ensures c.unmerge_at.ensures in
    record { form = c.unmerge_at.ensures.form; u_bound = k.room }

pub loop-entered-smaller : goal.loop-entered-smaller
loop-entered-smaller t c =
    let i = c.loop-entered.invariant in
    let h = node_in c.args.words c.args.n c.args.live (lending c.loop-entered.rows c.loop-entered.names c.loop-entered.best c.loop-entered.trail) in
    let e = entered_on i.enters (sym c.counted-next.ensures ∙ c.in-Ok.is) in
    let q : pair c.args.n (view h) ≡ some (c.in-Some.u, c.in-Some.v) = sym (c.choose_among.ensures h i.enters.ready.held) ∙ ap choice_of c.in-Some.is in
    let k = round_back e q c.merge_at-d.ensures c.without.result c.without.ensures plain c.explore-below.ensures c.unmerge_at.ensures in
    (k.apart _ c.in-Ok-below.is _ _ c.separate_at.ensures).fewer

pub loop-entered-preserved : goal.loop-entered-preserved
loop-entered-preserved t c =
    let i = c.loop-entered.invariant in
    let h = node_in c.args.words c.args.n c.args.live (lending c.loop-entered.rows c.loop-entered.names c.loop-entered.best c.loop-entered.trail) in
    let d = counted_on i.enters.ready (sym c.counted-next.ensures ∙ c.in-Ok.is) in
    let e = entered_on i.enters (sym c.counted-next.ensures ∙ c.in-Ok.is) in
    let q : pair c.args.n (view h) ≡ some (c.in-Some.u, c.in-Some.v) = sym (c.choose_among.ensures h i.enters.ready.held) ∙ ap choice_of c.in-Some.is in
    let k = round_back e q c.merge_at-d.ensures c.without.result c.without.ensures plain c.explore-below.ensures c.unmerge_at.ensures in
    let p = k.apart _ c.in-Ok-below.is _ _ c.separate_at.ensures in
    record {
      enters = p.enters _ (omega arith);
      lives = p.lives ∙ i.lives;
      rest = λ best r f. i.rest best r (comes_fork (plain c.args.n) i.enters.ready d refl q (p.rest best r f));
      left = p.left _ c.args.at c.loop-entered.more refl i.left;
    }
