-- `placing::enter` meets its contract: a cycle of one function, with a loop on the groups. Assumes nothing.
use mathlib.Core.Path.{◌≡◌, refl}
use mathlib.Core.List.{List}
use Prim.Native.Nat.{ℕ, ◌+◌, ◌-◌}
use native.Mathlib.Omega.{arith}
use borrow.Author.Rules.{rules}
use lib.ListN.{length}
use Rattle.placing.specs.Going.{Kept, more_of}
use Rattle.std.specs.Prelude.{Err}
use Rattle.placing.proofs.Entering.{one_more, exceeds_at_once, comes_back, comes_full, comes_on, exceeds_on}
use Rattle.placing.proofs.Turns.{Turn, last_turn, set_inside, passed_over, put_ready, turn_spent, turn_done}
use Rattle.placing.proofs.+enter.Goals as goal
use Rattle.placing.proofs.+enter.Goals.{Joined-meet-eq0, then-meet-eq0+in_ok-enter, else-meet-eq0}

-- ---- the node is entered

-- nothing is changed yet
unchanged : (at : ℕ) (sets c : List ℕ) → Kept at sets c sets c
unchanged at sets c = record { sets_same = refl; places_same = refl; places_long = refl }

pub returns-in_err-count : goal.returns-in_err-count
returns-in_err-count t c =
    let e : c.from_residual.result ≡ Err c.in_err-count.field-0.0 = search rules in
    rw e (exceeds_at_once c.requires c.in_err-count.ensures)

pub returns-then-s-m : goal.returns-then-s-m
returns-then-s-m t c = (comes_back c.requires (one_more c.requires.fair c.in_ok-count.ensures) c.if-s-m.true, unchanged _ _ _)

pub returns-then-at-rows : goal.returns-then-at-rows
returns-then-at-rows t c =
    (comes_full c.requires (one_more c.requires.fair c.in_ok-count.ensures) c.if-s-m.false c.if-at-rows.true, unchanged _ _ _)

-- ---- the next entry is put into one group after the other

pub offset_bounds-groups-j : goal.offset_bounds-groups-j
offset_bounds-groups-j t c = let b = set_inside c.loop-j.invariant (omega arith) in omega arith

pub bounds-groups-j : goal.bounds-groups-j
bounds-groups-j t c = set_inside c.loop-j.invariant (omega arith)

pub overflow_cast-placed : goal.overflow_cast-placed
overflow_cast-placed t c = let b = set_inside c.loop-j.invariant (omega arith) in omega arith

pub offset_bounds-groups-j-then-meet-eq0 : goal.offset_bounds-groups-j-then-meet-eq0
offset_bounds-groups-j-then-meet-eq0 t c = let b = set_inside c.loop-j.invariant (omega arith) in omega arith

pub bounds-groups-j-then-meet-eq0 : goal.bounds-groups-j-then-meet-eq0
bounds-groups-j-then-meet-eq0 t c = set_inside c.loop-j.invariant (omega arith)

pub enter-requires : goal.enter-requires
enter-requires t c =
    let u = c.loop-j.invariant in
    let p : length c.args.rows.now - c.args.at ≡ t = c.decreases in
    let b = u.more in
    let e : c.max.result ≡ more_of c.args.m c.loop-j.j = omega (arith, c.max.ensures) in (
      omega arith,
      rw e (put_ready u (omega arith) c.meet.result c.meet.ensures c.if-meet-eq0.true c.with.result c.with.ensures),
    )

pub returns-in_err-enter : goal.returns-in_err-enter
returns-in_err-enter t c =
    let u = c.loop-j.invariant in
    let e : c.from_residual-in_err-enter.result ≡ Err c.in_err-enter.field-0.0 = search rules in
    rw e (exceeds_on c.requires (one_more c.requires.fair c.in_ok-count.ensures) c.if-s-m.false u.more
    (turn_spent u (omega arith) c.meet.result c.meet.ensures c.if-meet-eq0.true c.with.result c.with.ensures c.in_err-enter.ensures))

pub offset_bounds-groups-j-then-meet-eq0-2 : goal.offset_bounds-groups-j-then-meet-eq0-2
offset_bounds-groups-j-then-meet-eq0-2 t c = let b = set_inside c.loop-j.invariant (omega arith) in omega arith

pub bounds-groups-j-then-meet-eq0-2 : goal.bounds-groups-j-then-meet-eq0-2
bounds-groups-j-then-meet-eq0-2 t c = set_inside c.loop-j.invariant (omega arith)

-- the next group's turn
turned : {t : ℕ} (c : Joined-meet-eq0 t)
    → let e = c.if-meet-eq0 in
    Turn 64 c.args.rows.now c.args.at c.args.m c.args.groups.now c.args.placed.now c.count.new.self e.groups e.placed e.s (c.loop-j.j + 1)
turned c =
    let u = c.loop-j.invariant in
    elim c.if-meet-eq0.branch [
      | then-meet-eq0+in_ok-enter w ↦ rw (w.groups-is, w.placed-is, w.s-is) (turn_done u (omega arith) c.meet.result c.meet.ensures w.if-meet-eq0.true
          w.with.result w.with.ensures w.in_ok-enter.ensures.0 w.in_ok-enter.ensures.1)
      | else-meet-eq0 w ↦ rw (w.groups-is, w.placed-is, w.s-is) (passed_over u (omega arith) c.meet.result c.meet.ensures w.if-meet-eq0.false)
    ]

pub loop-j-preserved : goal.loop-j-preserved
loop-j-preserved t c = turned (goal.at.loop-j-preserved t c).Joined-meet-eq0

pub returns-after-meet-eq0 : goal.returns-after-meet-eq0
returns-after-meet-eq0 t c =
    let z = last_turn (turned (goal.at.returns-after-meet-eq0 t c).Joined-meet-eq0) (omega arith) in
    (comes_on c.requires (one_more c.requires.fair c.in_ok-count.ensures) c.if-s-m.false c.loop-j.invariant.more z.0, z.1)
