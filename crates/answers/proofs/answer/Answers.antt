-- `answers::answer` meets its contract. Assumes nothing.
use Rattle.answers.proofs.answer.Goals as goal

pub returns : goal.returns
returns c = c.fit.ensures _ c.of_text.ensures
