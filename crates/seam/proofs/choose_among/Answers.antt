-- `seam::choose_among` meets its contract: by the form of the rows. Assumes nothing.
use mathlib.Core.Path.{◌≡◌}
use Rattle.graphs.specs.Graph.{pair}
use Rattle.graphs.specs.Held.{view, choice_of, HoldsAt, EachAt}
use Rattle.graphs.proofs.HeldLaws.{live_fits}
use Rattle.wide.proofs.FormLaws.{is_one, is_four, narrow, widen, four, from_four}
use Rattle.seam.proofs.choose_among.Goals as goal

pub choose_among-requires : goal.choose_among-requires
choose_among-requires c =
    let a = c.args in
    narrow HoldsAt a.words a.rows.now a.live (is_one c.if-words-eq1.true c.requires.form) (live_fits _ c.requires.holds_at.1) c.requires.holds_at

pub returns-then-words-eq1 : goal.returns-then-words-eq1
returns-then-words-eq1 c =
    let a = c.args in
    widen (λ cap live rows. EachAt cap live rows (λ h. choice_of c.choose_among.result ≡ pair h.n (view h))) a.words a.rows.now a.live
    (is_one c.if-words-eq1.true c.requires.form) (live_fits _ c.requires.holds_at.1) c.choose_among.ensures

pub choose_among-requires-2 : goal.choose_among-requires-2
choose_among-requires-2 c =
    let a = c.args in
    let f = is_four c.if-words-eq1.false c.requires.form in record { rows_len = f.long; holds_at = four HoldsAt a.words a.rows.now a.live f c.requires.holds_at }

pub returns : goal.returns
returns c =
    let a = c.args in
    from_four (λ cap live rows. EachAt cap live rows (λ h. choice_of c.choose_among-2.result ≡ pair h.n (view h))) a.words a.rows.now a.live
    (is_four c.if-words-eq1.false c.requires.form) c.choose_among-2.ensures
