-- What the search by placing promises leaves one answer and one state of the lent bytes; it is refused for effort exactly where the described search
-- has more nodes than the budget. Assumes nothing.
use mathlib.Core.Path.{◌≡◌, refl, sym, ap, ap₂, ◌∙◌}
use mathlib.Core.Logic.{◌≢◌}
use mathlib.Core.Bool.{cond}
use mathlib.Core.List.{List, ◌++◌}
use Prim.Native.Nat.{ℕ, ◌≤◌, ◌<◌}
use native.Mathlib.Omega.{arith}
use borrow.Author.Tests.{lt-ltb, le-ltb, le-leb, lt-leb}
use lib.Dec.{ltb}
use lib.ListN.{length, take-append-drop}
use Rattle.std.specs.Prelude.{Result, Ok, Err}
use Rattle.refusals.specs.Table.{accepted}
use Rattle.refusals.specs.declared.Invalid.{Invalid}
use Rattle.refusals.specs.declared.Invalid.TheVariants.{Many, Stray, Itself, OneSided}
use Rattle.refusals.specs.declared.Unsolved.{Unsolved}
use Rattle.refusals.specs.declared.Unsolved.TheVariants.{OfRows, Short, Budget}
use Rattle.clashes.specs.Matrix.{JudgedUpTo}
use Rattle.clashes.specs.Divisions.{groups}
use Rattle.clashes.specs.Room.{OpenUpTo}
use Rattle.clashes.proofs.MatrixLaws.{judged_up_to_is}
use Rattle.placing.specs.Search.{State as Described, size}
use Rattle.placing.specs.Promise.{numbers, searched, PromisedUpTo, answer_up_to, refused, ended, lent}
use Rattle.placing.specs.declared.Placing.{Placing}

module _ (most : ℕ) (rows before : List ℕ) (budget : ℕ) where
  abbrev n : ℕ
  n = length rows

  abbrev w : Described
  w = searched rows

  -- ---- one answer

  abbrev after_4 : Result Placing Unsolved
  after_4 = cond (ltb (length before) n) (Err Short) (ended most rows before budget w)

  judged : (v : Result Unit Invalid) → JudgedUpTo most rows v → answer_up_to most rows before budget ≡ refused v after_4
  judged v j = ap (λ x. refused x after_4) (judged_up_to_is most rows v j)

  opened : OpenUpTo most rows (length before) → answer_up_to most rows before budget ≡ ended most rows before budget w
  opened o = judged (Ok tt) o.sound ∙ ap (λ b. cond b (Err Short) (ended most rows before budget w)) (le-ltb (length before) n o.bytes)

  paid : w.nodes ≤ budget → ended most rows before budget w ≡ Ok (record { k = size w; nodes = w.nodes })
  paid b = ap (λ b. cond b (Ok (record { k = size w; nodes = w.nodes })) (Err (Budget budget))) (le-leb w.nodes budget b)

  spent : budget < w.nodes → ended most rows before budget w ≡ Err (Budget budget)
  spent b = ap (λ b. cond b (Ok (record { k = size w; nodes = w.nodes })) (Err (Budget budget))) (lt-leb w.nodes budget b)

  pub promised_answer : (a : Result Placing Unsolved) (after : List ℕ) → PromisedUpTo most rows before budget a after
      → answer_up_to most rows before budget ≡ a
  promised_answer (Err (OfRows Many)) after p = judged (Err Many) p.0
  promised_answer (Err (OfRows (Stray i))) after p = judged (Err (Stray i)) p.0
  promised_answer (Err (OfRows (Itself i))) after p = judged (Err (Itself i)) p.0
  promised_answer (Err (OfRows (OneSided i))) after p = judged (Err (OneSided i)) p.0
  promised_answer (Err Short) after p =
      judged (Ok tt) p.0.sound ∙ ap (λ b. cond b (Err Short) (ended most rows before budget w)) (lt-ltb (length before) n p.0.bytes)
  promised_answer (Err (Budget m)) after p = opened p.0.opened ∙ spent p.0.more ∙ ap (λ (x : ℕ). Err (Budget x)) (sym p.0.all)
  promised_answer (Ok s) after p =
      opened p.opened ∙ paid (omega (arith, p.count, p.paid)) ∙ (λ i. Ok (record { k = k_is i; nodes = sym p.count i }))
    where
      k_is : size w ≡ s.k
      k_is = ap (groups 0) (sym p.best) ∙ p.many

  -- ---- one state of the lent bytes

  pub promised_lent : (a : Result Placing Unsolved) (after : List ℕ) → PromisedUpTo most rows before budget a after
      → after ≡ lent most rows before budget a
  promised_lent (Err (OfRows Many)) after p = p.1
  promised_lent (Err (OfRows (Stray i))) after p = p.1
  promised_lent (Err (OfRows (Itself i))) after p = p.1
  promised_lent (Err (OfRows (OneSided i))) after p = p.1
  promised_lent (Err Short) after p = p.1
  promised_lent (Err (Budget m)) after p = p.1
  promised_lent (Ok s) after p = sym (take-append-drop n after) ∙ ap₂ (λ (x y : List ℕ). x ++ y) p.best p.kept

  pub refused_kept : (a : Result Placing Unsolved) (after : List ℕ) → PromisedUpTo most rows before budget a after → (numbers a).number ≢ accepted
      → after ≡ before
  refused_kept (Err (OfRows Many)) after p h = p.1
  refused_kept (Err (OfRows (Stray i))) after p h = p.1
  refused_kept (Err (OfRows (Itself i))) after p h = p.1
  refused_kept (Err (OfRows (OneSided i))) after p h = p.1
  refused_kept (Err Short) after p h = p.1
  refused_kept (Err (Budget m)) after p h = p.1
  refused_kept (Ok s) after p h = absurd (h refl)

  pub promised_unique : (a b : Result Placing Unsolved) (after after' : List ℕ) → PromisedUpTo most rows before budget a after → PromisedUpTo most rows before budget b after'
      → (a ≡ b) × (after ≡ after')
  promised_unique a b after after' p q =
      let e : a ≡ b = sym (promised_answer a after p) ∙ promised_answer b after' q in
      (e, promised_lent a after p ∙ ap (lent most rows before budget) e ∙ sym (promised_lent b after' q))

  -- ---- accepted exactly where the budget is enough

  module _ (a : Result Placing Unsolved) (after : List ℕ) (p : PromisedUpTo most rows before budget a after) (o : OpenUpTo most rows (length before)) where
    pub enough_accepted : w.nodes ≤ budget → a ≡ Ok (record { k = size w; nodes = w.nodes })
    enough_accepted b = sym (promised_answer a after p) ∙ opened o ∙ paid b

    pub short_refused : budget < w.nodes → a ≡ Err (Budget budget)
    short_refused b = sym (promised_answer a after p) ∙ opened o ∙ spent b
