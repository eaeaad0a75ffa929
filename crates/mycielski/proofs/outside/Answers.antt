-- `mycielski::outside` meets its contract. Assumes nothing.
use mathlib.Core.Path.{subst, sym}
use mathlib.Core.Logic.{inl, inr}
use mathlib.Core.Bool.{not}
use lib.Dec.{T}
use Rattle.sets.specs.Set.{has}
use Rattle.sets.proofs.TestLaws.{and_l, and_t, not_t, T?}
use Rattle.mycielski.proofs.FirstLoops.{once_all}
use Rattle.mycielski.proofs.outside.Goals as goal

pub returns-then-is_empty : goal.returns-then-is_empty
returns-then-is_empty g c =
    let b = g.S.Bits in
    let live = b.as_num c.args.live in
    let members = b.as_num c.args.c in
    let cut = c.less-then-is_empty in
    let all = once_all c.requires c.less.ensures (c.is_empty.ensures.0 c.if-is_empty.true) in record {
      within = λ x t. and_l (has live x) (not (has members x)) (subst T (cut.ensures x) t);
      all = λ x t. elim (T? (has members x)) [
        | yes u ↦ inr (u, all)
        | no u ↦ inl (subst T (sym (cut.ensures x)) (and_t (has live x) (not (has members x)) t (not_t (has members x) u)))
      ];
    }
