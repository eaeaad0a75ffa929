-- `bounds::mycielskian_at` meets its contract: no bound reaches 65. Assumes nothing.
use native.Mathlib.Omega.{arith}
use Rattle.bounds.proofs.NodeLaws.{climbs_exact}
use Rattle.bounds.proofs.mycielskian_at.Goals as goal

pub returns : goal.returns
returns c = climbs_exact c.args.h c.requires c.bound_up_to.ensures (omega arith)
