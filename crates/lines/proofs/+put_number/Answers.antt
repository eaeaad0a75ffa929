-- `lines::put_number` meets its contract: the number without its last digit, and then that digit. Assumes nothing.
use native.Mathlib.Omega.{arith}
use Rattle.lines.proofs.Writing.{length_more, put_last, put_only}
use Rattle.lines.proofs.+put_number.Goals as goal

pub put_number-e-requires : goal.put_number-e-requires
put_number-e-requires t c = let l = length_more c.args.n c.if-n-ge10.true c.requires.0 in (omega arith, (omega arith, omega arith))

pub bounds-out-e : goal.bounds-out-e
bounds-out-e t c =
    let a = c.args in
    let p = c.put_number-e in
    (put_last a.out.now p.new.out a.at p.result c.figure.result a.n c.if-n-ge10.true c.requires.0 c.requires.1 p.ensures c.figure.ensures).0

pub returns-then-n-ge10 : goal.returns-then-n-ge10
returns-then-n-ge10 t c =
    let a = c.args in
    let p = c.put_number-e in
    (put_last a.out.now p.new.out a.at p.result c.figure.result a.n c.if-n-ge10.true c.requires.0 c.requires.1 p.ensures c.figure.ensures).2

pub bounds-out-at : goal.bounds-out-at
bounds-out-at t c = let a = c.args in (put_only a.out.now a.at c.figure-2.result a.n c.if-n-ge10.false c.requires.1 c.figure-2.ensures).0

pub returns : goal.returns
returns t c = let a = c.args in (put_only a.out.now a.at c.figure-2.result a.n c.if-n-ge10.false c.requires.1 c.figure-2.ensures).2
