use Rattle.restoring.proofs.TurnLaws.{Filling}
use Rattle.restoring.proofs.small_rows.Given as goal

abbrev pub invariant-loop-small : goal.invariant-loop-small
invariant-loop-small l = Filling 64 l.present l.rows l.small-items l.left l.small-index
