-- `lines::number_len` meets its contract. Assumes nothing.
use mathlib.Core.Path.{sym}
use Rattle.lines.proofs.Writing.{length_one, length_2, length_3, length_4, length_5, length_6, length_7}
use native.Mathlib.Omega.{arith}
use Rattle.lines.proofs.number_len.Goals as goal

pub returns-then-n-lt10 : goal.returns-then-n-lt10
returns-then-n-lt10 c = (sym (length_one c.args.n c.if-n-lt10.true), omega arith)

pub returns-then-n-lt100 : goal.returns-then-n-lt100
returns-then-n-lt100 c = (sym (length_2 c.args.n c.if-n-lt10.false c.if-n-lt100.true), omega arith)

pub returns-then-n-lt1000 : goal.returns-then-n-lt1000
returns-then-n-lt1000 c = (sym (length_3 c.args.n c.if-n-lt100.false c.if-n-lt1000.true), omega arith)

pub returns-then-n-lt10000 : goal.returns-then-n-lt10000
returns-then-n-lt10000 c = (sym (length_4 c.args.n c.if-n-lt1000.false c.if-n-lt10000.true), omega arith)

pub returns-then-n-lt100000 : goal.returns-then-n-lt100000
returns-then-n-lt100000 c = (sym (length_5 c.args.n c.if-n-lt10000.false c.if-n-lt100000.true), omega arith)

pub returns-then-n-lt1000000 : goal.returns-then-n-lt1000000
returns-then-n-lt1000000 c = (sym (length_6 c.args.n c.if-n-lt100000.false c.if-n-lt1000000.true), omega arith)

pub returns : goal.returns
returns c = (sym (length_7 c.args.n c.if-n-lt1000000.false c.requires), omega arith)
