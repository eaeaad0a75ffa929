-- `lines::line_end` meets its contract: a line ends at the first line feed from its start on, or with the text. Assumes nothing.
use mathlib.Core.Path.{sym, ap, ◌∙◌}
use native.Mathlib.Omega.{arith}
use Rattle.std.specs.Prelude.{nat_eq, position}
use Rattle.lines.proofs.Basics.{rest}
use Rattle.lines.proofs.Lines.{feed_found, feed_none, end_le}
use Rattle.lines.proofs.line_end.Goals as goal

pub returns-in-Some : goal.returns-in-Some
returns-in-Some c =
    let a = c.args in
    let e = feed_found a.s.now a.at c.in-Some.i (ap (position (λ b. nat_eq b 10)) (sym (rest a.s.now a.at)) ∙ sym c.feed_in.ensures ∙ c.in-Some.is) in
    (e, end_le a.s.now a.at _ e c.requires)

pub returns-in-None : goal.returns-in-None
returns-in-None c =
    let a = c.args in
    (feed_none a.s.now a.at c.requires (ap (position (λ b. nat_eq b 10)) (sym (rest a.s.now a.at)) ∙ sym c.feed_in.ensures ∙ c.in-None.is), omega arith)
