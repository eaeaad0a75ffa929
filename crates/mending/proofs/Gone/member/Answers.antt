-- `mending::Gone::member` meets its contract: the member is lifted out, kept or dropped. Assumes nothing.
use mathlib.Core.Path.{◌∙◌, sym}
use Rattle.mending.proofs.HeldLaws.{not_false, not_true, membered_lifts, membered_keeps}
use Rattle.mending.proofs.Gone.member.Goals as goal

pub returns-then-admits : goal.returns-then-admits
returns-then-admits c =
    let l = c.args.list.now in
    membered_keeps 64 l.n l.rows c.requires.0 c.args.self.now c.requires.1 c.args.line c.args.u
    (sym c.taken.ensures ∙ c.if-not-taken.false) _ c.with-self.ensures (not_true _ (sym c.admits.ensures ∙ c.if-admits.true)) _ c.with-self-then-admits.ensures

pub returns-else-admits : goal.returns-else-admits
returns-else-admits c =
    let l = c.args.list.now in
    membered_lifts 64 l.n l.rows c.requires.0 c.args.self.now c.requires.1 c.args.line c.args.u
    (sym c.taken.ensures ∙ c.if-not-taken.false) _ c.with-self-else-admits.ensures (not_false _ (sym c.admits.ensures ∙ c.if-admits.false)) _
    c.with-self-else-admits-2.ensures
