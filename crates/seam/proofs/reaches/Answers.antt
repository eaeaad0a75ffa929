-- `seam::reaches` meets its contract: by the form of the rows. Assumes nothing.
use mathlib.Core.Path.{◌≡◌}
use lib.Dec.{leb}
use Rattle.graphs.specs.Held.{view, HoldsAt, EachAt}
use Rattle.graphs.proofs.HeldLaws.{live_fits}
use Rattle.bounds.specs.Names.{mycielskian}
use Rattle.wide.proofs.FormLaws.{is_one, is_four, narrow, widen, four, from_four}
use Rattle.seam.proofs.reaches.Goals as goal

pub reaches-requires : goal.reaches-requires
reaches-requires c =
    let a = c.args in
    narrow HoldsAt a.words a.rows.now a.live (is_one c.if-words-eq1.true c.requires.form) (live_fits _ c.requires.holds_at.1) c.requires.holds_at

pub returns-then-words-eq1 : goal.returns-then-words-eq1
returns-then-words-eq1 c =
    let a = c.args in
    widen (λ cap live rows. EachAt cap live rows (λ h. c.reaches.result ≡ leb a.best (mycielskian h.n (view h)))) a.words a.rows.now a.live
    (is_one c.if-words-eq1.true c.requires.form) (live_fits _ c.requires.holds_at.1) c.reaches.ensures

pub reaches_wide-requires : goal.reaches_wide-requires
reaches_wide-requires c =
    let a = c.args in
    let f = is_four c.if-words-eq1.false c.requires.form in record { rows_len = f.long; holds_at = four HoldsAt a.words a.rows.now a.live f c.requires.holds_at }

pub returns : goal.returns
returns c =
    let a = c.args in
    from_four (λ cap live rows. EachAt cap live rows (λ h. c.reaches_wide.result ≡ leb a.best (mycielskian h.n (view h)))) a.words a.rows.now a.live
    (is_four c.if-words-eq1.false c.requires.form) c.reaches_wide.ensures
