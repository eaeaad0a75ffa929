-- `wide::size` meets its contract: the sizes of its words. Assumes nothing.
use native.Mathlib.Omega.{arith}
use borrow.Author.Rules.{rules}
use Rattle.wide.specs.Words.{num}
use Rattle.sets.specs.Set.{has}
use Rattle.sets.proofs.MemberLaws.{count_few}
use Rattle.wide.proofs.WideLaws.{size_four}
use Rattle.wide.proofs.size.Goals as goal

pub overflow_add-result : goal.overflow_add-result
overflow_add-result c = record { fits = let s = c.args.s in omega (arith, count_few (has s.a) 64, count_few (has s.b) 64) }

pub overflow_add-result-2 : goal.overflow_add-result-2
overflow_add-result-2 c =
    let s = c.args.s in
    record { fits = omega (arith, count_few (has s.a) 64, count_few (has s.b) 64, count_few (has s.c) 64) }

pub overflow_add-result-3 : goal.overflow_add-result-3
overflow_add-result-3 c =
    let s = c.args.s in
    record { fits = omega (arith, count_few (has s.a) 64, count_few (has s.b) 64, count_few (has s.c) 64, count_few (has s.d) 64) }

pub returns : goal.returns
unfolding num
returns c =
    let s = c.args.s in
    omega (
      arith,
      c.size.ensures,
      c.size-2.ensures,
      c.size-3.ensures,
      c.size-4.ensures,
      size_four {a = s.a} {b = s.b} {c = s.c} {d = s.d} (search rules) (search rules) (search rules) (search rules),
    )
