-- `undo::unlink` meets its contract, word after word. Assumes nothing.
use Rattle.wide.proofs.FormLaws.{not_four}
use Rattle.undo.proofs.LinkLaws.{unlinked_one, unlinked_four}
use borrow.Author.Rules.{rules}
use Rattle.undo.proofs.unlink.Goals as goal

pub returns-then-words-eq4 : goal.returns-then-words-eq4
returns-then-words-eq4 c =
    let s = c.args.s in
    let all = unlinked_four s (search rules) (search rules) (search rules) (search rules) in record { form_2 = c.unlink_word-then-words-eq4-3.ensures.form_2; unlinked = all c.unlink_word.ensures.unlinked_by c.unlink_word-then-words-eq4.ensures.unlinked_by c.unlink_word-then-words-eq4-2.ensures.unlinked_by c.unlink_word-then-words-eq4-3.ensures.unlinked_by }

pub returns-else-words-eq4 : goal.returns-else-words-eq4
returns-else-words-eq4 c = record { form_2 = c.unlink_word.ensures.form_2; unlinked = unlinked_one c.args.s (not_four c.if-words-eq4.false c.requires.form) c.requires.fits c.unlink_word.ensures.unlinked_by }
