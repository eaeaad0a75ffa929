-- `lines::place` leaves its loop early only at the text's end, where there is no other place. Assumes nothing.
use mathlib.Core.Path.{◌∙◌}
use native.Mathlib.Omega.{arith}
use Rattle.lines.proofs.Lines.{place_past}
use Rattle.lines.proofs.place.Goals as goal

pub returns-then-s-at : goal.returns-then-s-at
returns-then-s-at c =
    let l = c.loop in
    (l.invariant.1 ∙ place_past c.args.s.now l.counter c.args.k (omega arith) (omega (arith, l.invariant.1)), l.invariant.0)
