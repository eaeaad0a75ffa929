-- `steps::compared` meets its contract. Assumes nothing.
use mathlib.Core.Path.{refl}
use Rattle.steps.proofs.Compare.{met_ready, compare_kept, compare_better}
use Rattle.steps.proofs.compared.Goals as goal

pub returns-then-size-t : goal.returns-then-size-t
returns-then-size-t c =
    let f = c.improved in
    let z = c.size in
    let strict = c.requires.leaves_lt_nodes in
    record {
      long = f.ensures.long;
      is = λ cap rows few ready.
          compare_better cap 256 few _ c.args.best.now c.args.s ready z.result z.ensures strict c.if-size-t.true _ _
          (f.ensures.is cap rows few (met_ready cap 256 few _ c.args.best.now c.args.s ready z.result z.ensures strict));
    }

pub returns : goal.returns
returns c =
    let z = c.size in
    record {
      long = refl;
      is = λ cap rows few ready. compare_kept cap 256 few _ c.args.best.now c.args.s ready z.result z.ensures c.requires.leaves_lt_nodes c.if-size-t.false;
    }
