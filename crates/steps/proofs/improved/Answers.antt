-- `steps::improved` meets its contract. Assumes nothing.
use Rattle.wide.specs.Words.{num}
use Rattle.steps.proofs.Compare.{become_found}
use Rattle.steps.proofs.improved.Goals as goal

pub returns : goal.returns
returns c =
    let k = c.colours in
    let a = c.args in
    record {
      long = k.ensures.long;
      is = λ cap rows few ready. become_found cap 256 few _ a.best.now a.s ready c.size.result c.size.ensures _ (k.ensures.is (num a.live) rows);
    }
