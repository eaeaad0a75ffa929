-- `steps::enter` and `steps::split` meet their contracts: a cycle of two functions, whose measures are twice the live vertices, and one more where a node
-- is entered. `split` loops on the separations, each of which leaves fewer pairs open; mergings are undone as it goes, separations by `enter` from the
-- trail. Assumes nothing.
use mathlib.Core.Path.{◌≡◌, refl, sym, ap, ◌∙◌}
use mathlib.Core.Option.{some}
use Rattle.std.specs.Prelude.{Err}
use Prim.Native.Nat.{ℕ, ◌+◌, ◌*◌}
use native.Mathlib.Omega.{arith}
use borrow.Author.Rules.{rules}
use Rattle.graphs.specs.Graph.{pair}
use Rattle.graphs.specs.Held.{view, choice_of}
use Rattle.zykov.specs.Walk.{Rule, bounded}
use Rattle.bounds.specs.Names.{mycielskian}
use Rattle.steps.specs.Going.{lending, node_in}
use Rattle.steps.proofs.Turns.{counted_on, counted_ready, comes_at, comes_out, comes_cut, comes_leaf, comes_fork}
use Rattle.steps.proofs.Splits.{living}
use Rattle.steps.proofs.Undoing.{form_few, laid_finds, left_best, left_kept, kept_all, kept_best, kept_restored}
use Rattle.steps.proofs.Rounds.{round_pair, round_merges, round_enters, round_falls, round_unmerges, round_back}
use Rattle.steps.proofs.+enter_split.Goals as goal

abbrev rule : ℕ → Rule
rule n = bounded n mycielskian

-- ---- enter

pub enter-returns-in_err-entered : goal.enter-returns-in_err-entered
enter-returns-in_err-entered t c =
    let e : c.from_residual.result ≡ Err c.in_err-entered.field-0.0 = search rules in
    record {
      comes = comes_at (comes_out (rule c.args.n) c.requires.ready (sym c.counted.ensures ∙ c.in_err-entered.was)) e;
      kept = kept_all c.args.words _ c.args.at c.requires.laid.form;
    }

pub enter-reaches-requires : goal.enter-reaches-requires
enter-reaches-requires t c =
    let h = node_in c.args.words c.args.n c.args.live (lending c.args.rows.now c.args.names.now c.args.best.now c.args.trail.now) in
    record { form = c.requires.laid.form; holds_at = (h, c.requires.ready.held) }

pub enter-returns-then-reaches : goal.enter-returns-then-reaches
enter-returns-then-reaches t c =
    let h = node_in c.args.words c.args.n c.args.live (lending c.args.rows.now c.args.names.now c.args.best.now c.args.trail.now) in
    let e = counted_on c.requires.ready (sym c.counted.ensures ∙ c.in_ok-entered.was) in
    record {
      comes = comes_cut (rule c.args.n) c.requires.ready e (sym (c.reaches.ensures h c.requires.ready.held) ∙ c.if-reaches.true);
      kept = kept_all c.args.words _ c.args.at c.requires.laid.form;
    }

pub enter-choose_among-requires : goal.enter-choose_among-requires
enter-choose_among-requires t c =
    let h = node_in c.args.words c.args.n c.args.live (lending c.args.rows.now c.args.names.now c.args.best.now c.args.trail.now) in
    record { form = c.requires.laid.form; holds_at = (h, c.requires.ready.held) }

pub enter-improved-requires : goal.enter-improved-requires
enter-improved-requires t c = record { forest = c.requires.laid.forest; n_in_bounds = laid_finds _ _ _ _ _ c.requires.laid c.requires.ready.held }

pub enter-split-end-requires : goal.enter-split-end-requires
enter-split-end-requires t c =
    let h = node_in c.args.words c.args.n c.args.live (lending c.args.rows.now c.args.names.now c.args.best.now c.args.trail.now) in
    let p : living h * 2 + 1 ≡ t = c.decreases in
    let e = counted_on c.requires.ready (sym c.counted.ensures ∙ c.in_ok-entered.was) in (
      omega arith,
      record {
        none_yet = refl;
        enters = record { ready = counted_ready c.requires.ready e; laid = c.requires.laid };
        chosen = sym (c.choose_among.ensures h c.requires.ready.held) ∙ ap choice_of c.in-Some.is;
      },
    )

-- what split has left is restored
pub enter-restore-requires : goal.enter-restore-requires
enter-restore-requires t c = let l = c.split-end.ensures.left in record { form = l.stays.form; more_in_bounds = omega (arith, l.few) }

pub enter-shape_of-best-in-None : goal.enter-shape_of-best-in-None
enter-shape_of-best-in-None t c = c.improved.ensures.long

pub enter-returns-in-None : goal.enter-returns-in-None
enter-returns-in-None t c =
    let h = node_in c.args.words c.args.n c.args.live (lending c.args.rows.now c.args.names.now c.args.best.now c.args.trail.now) in
    let r = c.requires in
    let e = counted_on r.ready (sym c.counted.ensures ∙ c.in_ok-entered.was) in
    let f = c.improved.ensures in
    record {
      comes = comes_leaf (rule c.args.n) r.ready e (sym (c.reaches.ensures h r.ready.held) ∙ c.if-reaches.false)
          (sym (c.choose_among.ensures h r.ready.held) ∙ ap choice_of c.in-None.is)
          (f.is (64 * c.args.words) _ (form_few r.laid.form) (counted_ready r.ready e));
      kept = kept_best c.args.words _ c.args.at _ r.laid.form f.long;
    }

pub enter-returns-in-Some : goal.enter-returns-in-Some
enter-returns-in-Some t c =
    let h = node_in c.args.words c.args.n c.args.live (lending c.args.rows.now c.args.names.now c.args.best.now c.args.trail.now) in
    let r = c.requires in
    let e = counted_on r.ready (sym c.counted.ensures ∙ c.in_ok-entered.was) in
    record {
      comes = comes_fork (rule c.args.n) r.ready e (sym (c.reaches.ensures h r.ready.held) ∙ c.if-reaches.false)
          (sym (c.choose_among.ensures h r.ready.held) ∙ ap choice_of c.in-Some.is) c.split-end.ensures.comes;
      kept = kept_restored c.args.words _ c.args.at _ _ c.split-end.ensures.left _ c.restore.ensures.form_2 c.restore.ensures.restored;
    }

-- ---- split

pub split-merge_at-d-requires : goal.split-merge_at-d-requires
split-merge_at-d-requires t c =
    let i = c.loop-t.invariant in
    record { form = i.enters.laid.form; names_len = round_merges i.enters i.chosen }

pub split-without-requires : goal.split-without-requires
split-without-requires t c = let i = c.loop-t.invariant in omega (arith, (round_pair i.enters i.chosen).1, form_few i.enters.laid.form)

pub split-enter-below-requires : goal.split-enter-below-requires
split-enter-below-requires t c =
    let a = c.args in
    let i = c.loop-t.invariant in
    let p : living (node_in a.words a.n a.live (lending a.rows.now a.names.now a.best.now a.trail.now)) * 2 ≡ t = c.decreases in (
      omega (arith, round_falls i.enters i.chosen c.merge_at-d.ensures c.without.result c.without.ensures, i.lives),
      round_enters i.enters i.chosen c.merge_at-d.ensures c.without.result c.without.ensures,
    )

pub split-unmerge_at-requires : goal.split-unmerge_at-requires
split-unmerge_at-requires t c =
    let i = c.loop-t.invariant in
    record {
      form = c.enter-below.ensures.kept.stays.form;
      names_len = round_unmerges i.enters i.chosen c.merge_at-d.ensures c.without.result c.without.ensures rule c.enter-below.ensures;
      fits = (c.merge_at-d.ensures.rows_are.old_fits, c.merge_at-d.ensures.rows_are.near_fits);
    }

pub split-returns-in_err-t : goal.split-returns-in_err-t
split-returns-in_err-t t c =
    let i = c.loop-t.invariant in
    let k = round_back i.enters i.chosen c.merge_at-d.ensures c.without.result c.without.ensures rule c.enter-below.ensures c.unmerge_at.ensures in
    let e : c.from_residual.result ≡ Err c.in_err-t.field-0.0 = search rules in
    record { comes = comes_at (i.rest _ _ (k.out _ c.in_err-t.was)) e; left = left_kept _ _ _ _ _ i.left _ k.kept }

pub split-separate_at-requires : goal.split-separate_at-requires
split-separate_at-requires t c =
    let i = c.loop-t.invariant in
    let k = round_back i.enters i.chosen c.merge_at-d.ensures c.without.result c.without.ensures rule c.enter-below.ensures c.unmerge_at.ensures in
    record { form = c.unmerge_at.ensures.form; u_bound = k.room }

pub split-returns-in_err-t-2 : goal.split-returns-in_err-t-2
split-returns-in_err-t-2 t c =
    let i = c.loop-t.invariant in
    let k = round_back i.enters i.chosen c.merge_at-d.ensures c.without.result c.without.ensures rule c.enter-below.ensures c.unmerge_at.ensures in
    let p = k.apart _ c.in_ok-t.was _ _ c.separate_at.ensures in
    let e = p.enters (c.args.at + (c.loop-t.more + 1)) (omega arith) in
    let f : c.from_residual-in_err-t-2.result ≡ Err c.in_err-t-2.field-0.0 = search rules in
    record {
      comes = comes_at (i.rest _ _ (p.rest _ _ (comes_out (rule c.args.n) e.ready (sym c.counted.ensures ∙ c.in_err-t-2.was)))) f;
      left = p.left _ c.args.at c.loop-t.more refl i.left;
    }

pub split-reaches-requires : goal.split-reaches-requires
split-reaches-requires t c =
    let i = c.loop-t.invariant in
    let k = round_back i.enters i.chosen c.merge_at-d.ensures c.without.result c.without.ensures rule c.enter-below.ensures c.unmerge_at.ensures in
    let p = k.apart _ c.in_ok-t.was _ _ c.separate_at.ensures in
    let e = p.enters (c.args.at + (c.loop-t.more + 1)) (omega arith) in
    let h = node_in c.args.words c.args.n c.args.live (lending c.separate_at.new.rows c.unmerge_at.new.names c.enter-below.new.best c.separate_at.new.trail) in
    record { form = e.laid.form; holds_at = (h, e.ready.held) }

pub split-returns-then-reaches : goal.split-returns-then-reaches
split-returns-then-reaches t c =
    let i = c.loop-t.invariant in
    let k = round_back i.enters i.chosen c.merge_at-d.ensures c.without.result c.without.ensures rule c.enter-below.ensures c.unmerge_at.ensures in
    let p = k.apart _ c.in_ok-t.was _ _ c.separate_at.ensures in
    let e = p.enters (c.args.at + (c.loop-t.more + 1)) (omega arith) in
    let h = node_in c.args.words c.args.n c.args.live (lending c.separate_at.new.rows c.unmerge_at.new.names c.enter-below.new.best c.separate_at.new.trail) in
    let d = counted_on e.ready (sym c.counted.ensures ∙ c.in_ok-t-2.was) in
    record {
      comes = i.rest _ _ (p.rest _ _ (comes_cut (rule c.args.n) e.ready d (sym (c.reaches.ensures h e.ready.held) ∙ c.if-reaches.true)));
      left = p.left _ c.args.at c.loop-t.more refl i.left;
    }

pub split-choose_among-requires : goal.split-choose_among-requires
split-choose_among-requires t c =
    let i = c.loop-t.invariant in
    let k = round_back i.enters i.chosen c.merge_at-d.ensures c.without.result c.without.ensures rule c.enter-below.ensures c.unmerge_at.ensures in
    let p = k.apart _ c.in_ok-t.was _ _ c.separate_at.ensures in
    let e = p.enters (c.args.at + (c.loop-t.more + 1)) (omega arith) in
    let h = node_in c.args.words c.args.n c.args.live (lending c.separate_at.new.rows c.unmerge_at.new.names c.enter-below.new.best c.separate_at.new.trail) in
    record { form = e.laid.form; holds_at = (h, e.ready.held) }

pub split-improved-requires : goal.split-improved-requires
split-improved-requires t c =
    let i = c.loop-t.invariant in
    let k = round_back i.enters i.chosen c.merge_at-d.ensures c.without.result c.without.ensures rule c.enter-below.ensures c.unmerge_at.ensures in
    let p = k.apart _ c.in_ok-t.was _ _ c.separate_at.ensures in
    let e = p.enters (c.args.at + (c.loop-t.more + 1)) (omega arith) in
    record { forest = e.laid.forest; n_in_bounds = laid_finds _ _ _ _ _ e.laid e.ready.held }

pub split-returns-in-None : goal.split-returns-in-None
split-returns-in-None t c =
    let i = c.loop-t.invariant in
    let k = round_back i.enters i.chosen c.merge_at-d.ensures c.without.result c.without.ensures rule c.enter-below.ensures c.unmerge_at.ensures in
    let p = k.apart _ c.in_ok-t.was _ _ c.separate_at.ensures in
    let e = p.enters (c.args.at + (c.loop-t.more + 1)) (omega arith) in
    let h = node_in c.args.words c.args.n c.args.live (lending c.separate_at.new.rows c.unmerge_at.new.names c.enter-below.new.best c.separate_at.new.trail) in
    let d = counted_on e.ready (sym c.counted.ensures ∙ c.in_ok-t-2.was) in
    let f = c.improved.ensures in
    record {
      comes = i.rest _ _ (p.rest _ _ (comes_leaf (rule c.args.n) e.ready d (sym (c.reaches.ensures h e.ready.held) ∙ c.if-reaches.false)
          (sym (c.choose_among.ensures h e.ready.held) ∙ ap choice_of c.in-None.is)
          (f.is _ _ (form_few e.laid.form) (counted_ready e.ready d))));
      left = left_best _ _ _ _ _ (p.left _ c.args.at c.loop-t.more refl i.left) _ f.long;
    }

pub split-loop-t-smaller : goal.split-loop-t-smaller
split-loop-t-smaller t c =
    let i = c.loop-t.invariant in
    let k = round_back i.enters i.chosen c.merge_at-d.ensures c.without.result c.without.ensures rule c.enter-below.ensures c.unmerge_at.ensures in
    (k.apart _ c.in_ok-t.was _ _ c.separate_at.ensures).fewer

pub split-loop-t-preserved : goal.split-loop-t-preserved
split-loop-t-preserved t c =
    let i = c.loop-t.invariant in
    let k = round_back i.enters i.chosen c.merge_at-d.ensures c.without.result c.without.ensures rule c.enter-below.ensures c.unmerge_at.ensures in
    let p = k.apart _ c.in_ok-t.was _ _ c.separate_at.ensures in
    let e = p.enters (c.args.at + (c.loop-t.more + 1)) (omega arith) in
    let h = node_in c.args.words c.args.n c.args.live (lending c.separate_at.new.rows c.unmerge_at.new.names c.enter-below.new.best c.separate_at.new.trail) in
    let d = counted_on e.ready (sym c.counted.ensures ∙ c.in_ok-t-2.was) in
    let q : pair h.n (view h) ≡ some (c.in-Some.x, c.in-Some.y) = sym (c.choose_among.ensures h e.ready.held) ∙ ap choice_of c.in-Some.is in
    record {
      enters = record { ready = counted_ready e.ready d; laid = e.laid };
      chosen = q;
      lives = p.lives ∙ i.lives;
      rest = λ best r f. i.rest best r (p.rest best r
          (comes_fork (rule c.args.n) e.ready d (sym (c.reaches.ensures h e.ready.held) ∙ c.if-reaches.false) q f));
      left = p.left _ c.args.at c.loop-t.more refl i.left;
    }
