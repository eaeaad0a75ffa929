-- `lines::begins` meets its contract: what the library says of `starts_with` is `starts`. Assumes nothing.
use mathlib.Core.Path.{◌∙◌}
use Rattle.lines.proofs.Words.{starts_is}
use Rattle.lines.proofs.begins.Goals as goal

pub returns : goal.returns
returns c = c.starts_with.ensures.value ∙ starts_is c.args.w.now c.args.s.now
