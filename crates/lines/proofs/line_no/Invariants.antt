use mathlib.Core.Path.{◌≡◌}
use Rattle.lines.specs.Reader.{after}
use Rattle.lines.proofs.line_no.Given as goal

abbrev pub invariant-loop : goal.invariant-loop
invariant-loop l = l.r ≡ after l.initial.r.text l.counter
