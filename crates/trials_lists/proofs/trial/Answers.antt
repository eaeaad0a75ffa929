-- `trials_lists::trial` is safe and ends: an accepted list fits the lent rows. Assumes nothing.
use Rattle.std.proofs.Common.{◌≤◌, length, sym, ◌∙◌, subst, arith}
use Rattle.lists.proofs.Fold.{Bounded, read_fits}
use Rattle.trials_lists.proofs.trial.Goals as goal

pub put_list-requires : goal.put_list-requires
put_list-requires g c =
    let a = c.args in
    let fits : c.in-Ok.n ≤ length a.lent.now =
    subst (Bounded (length a.lent.now)) (sym c.read_list.ensures.answer ∙ c.in-Ok.is) (read_fits a.plain a.text.now (length a.lent.now)) in
    omega (arith, fits)
