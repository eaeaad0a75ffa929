-- `undo::link` meets its contract, word after word. Assumes nothing.
use Rattle.wide.proofs.FormLaws.{not_four}
use Rattle.undo.proofs.LinkLaws.{linked_one, linked_four}
use borrow.Author.Rules.{rules}
use Rattle.undo.proofs.link.Goals as goal

pub returns-then-words-eq4 : goal.returns-then-words-eq4
returns-then-words-eq4 c =
    let s = c.args.s in
    let all = linked_four s (search rules) (search rules) (search rules) (search rules) in record { form_2 = c.link_word-then-words-eq4-3.ensures.form_2; linked = all c.link_word.ensures.linked_by c.link_word-then-words-eq4.ensures.linked_by c.link_word-then-words-eq4-2.ensures.linked_by c.link_word-then-words-eq4-3.ensures.linked_by }

pub returns-else-words-eq4 : goal.returns-else-words-eq4
returns-else-words-eq4 c = record { form_2 = c.link_word.ensures.form_2; linked = linked_one c.args.s (not_four c.if-words-eq4.false c.requires.form) c.requires.fits c.link_word.ensures.linked_by }
