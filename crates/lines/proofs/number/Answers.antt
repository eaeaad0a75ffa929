-- `lines::number` meets its contract: the digits at the front, as many as make a number, are read one by one. Assumes nothing.
use mathlib.Core.Path.{refl, sym, ◌∙◌}
use mathlib.Core.Logic.{⊎_elim}
use native.Mathlib.Omega.{arith}
use lib.ListN.{length, get_or}
use Rattle.lines.specs.Number.{digits}
use Rattle.lines.proofs.Numbers.{digits_few, digits_many, digits_count, digit_before, digit_at, digit_read, digits_read, ten_more, ten_cap, number_is, number_not, proper_none, proper_long, proper_zero, proper_zeros, proper_other}
use Rattle.lines.proofs.number.Goals as goal

pub returns-then-k-lt1 : goal.returns-then-k-lt1
returns-then-k-lt1 c =
    let s = c.args.s.now in
    let k = c.digits_of-k.result in
    let e = c.digits_of-k.ensures in
    sym (⊎_elim
    (λ h. number_not s k (digits_count s k (digits_few s k e (omega (arith, h)))) (proper_none k (get_or s 0 0) h))
    (λ h. number_not s (length (digits s)) refl (proper_long (length (digits s)) (get_or s 0 0) (digits_many s k e h.1)))
    c.then-k-lt1.either)

pub returns-then-k-gt1 : goal.returns-then-k-gt1
returns-then-k-gt1 c =
    let s = c.args.s.now in
    let k = c.digits_of-k.result in
    sym (number_not s k (digits_count s k (digits_few c.args.s.now _ c.digits_of-k.ensures c.if-k-gt7.false)) (proper_zeros k (get_or s 0 0) c.if-k-gt7.false c.if-k-gt1.true c.if-s-eq48.true))

pub overflow_mul-v : goal.overflow_mul-v
overflow_mul-v c =
    let l = c.loop-b in
    omega (arith, l.invariant.0, ten_cap l.b-index (omega (arith, digit_before c.args.s.now _ (digits_few c.args.s.now _ c.digits_of-k.ensures c.if-k-gt7.false) l.b-index c.loop-b-test.true)))

pub overflow_sub-b : goal.overflow_sub-b
overflow_sub-b c = (digit_at c.args.s.now _ (digits_few c.args.s.now _ c.digits_of-k.ensures c.if-k-gt7.false) c.loop-b.b-index c.loop-b-test.true).0

pub overflow_add-v : goal.overflow_add-v
overflow_add-v c =
    let l = c.loop-b in
    omega (
      arith,
      l.invariant.0,
      ten_cap l.b-index (omega (arith, digit_before c.args.s.now _ (digits_few c.args.s.now _ c.digits_of-k.ensures c.if-k-gt7.false) l.b-index c.loop-b-test.true)),
      (digit_at c.args.s.now _ (digits_few c.args.s.now _ c.digits_of-k.ensures c.if-k-gt7.false) l.b-index c.loop-b-test.true).1,
      c.from.ensures,
    )

pub loop-b-preserved : goal.loop-b-preserved
loop-b-preserved c =
    let l = c.loop-b in (
      omega (arith, l.invariant.0, ten_more l.b-index, (digit_at c.args.s.now _ (digits_few c.args.s.now _ c.digits_of-k.ensures c.if-k-gt7.false) l.b-index c.loop-b-test.true).1, c.from.ensures),
      rw c.from.ensures (digit_read c.args.s.now _ (digits_few c.args.s.now _ c.digits_of-k.ensures c.if-k-gt7.false) l.b-index c.loop-b-test.true l.v) ∙ l.invariant.1,
    )

pub returns : goal.returns
returns c =
    let s = c.args.s.now in
    let k = c.digits_of-k.result in
    let l = c.loop-b in
    sym (number_is s k l.v (digits_count s k (digits_few c.args.s.now _ c.digits_of-k.ensures c.if-k-gt7.false)) (digits_read s k (digits_few c.args.s.now _ c.digits_of-k.ensures c.if-k-gt7.false) l.b-index l.v c.loop-b-test.false l.invariant.1)
    (⊎_elim (λ h. proper_zero k (get_or s 0 0) c.if-k-lt1.false h.1 h.0) (λ h. proper_other k (get_or s 0 0) c.if-k-lt1.false c.if-k-gt7.false h) c.else-s-eq48.either))
