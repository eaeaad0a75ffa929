-- THE DEMANDS, for the call that shrinks first: what follows from its promise `PromisedUpTo most (shrunk_walk mycielskian) rows before budget a
-- after` (crate walk, specs/Promise.antt), for every list of up to `most` entries, buffer and budget. The contract of `fewest_shrunk` names it at
-- 64.
--
-- The promise is the walks' own, of another described walk (crate shrink, specs/Shrunk.antt), so whatever crates/walk/proofs/Demands.antt says of
-- any walk holds of it: it is cited here under the names that it has there. P is `free_divisions`. Assumes nothing.
use mathlib.Core.Path.{◌≡◌, sym, ap, ◌∙◌}
use mathlib.Core.List.{List}
use Prim.Native.Nat.{ℕ, suc, ◌*◌, ◌≤◌, max}
use native.Mathlib.Omega.{arith}
use lib.Dec.{T}
use lib.ListN.{length, take}
use Rattle.sets.specs.Set.{size}
use Rattle.clashes.specs.Matrix.{matrix, Valid, SoundUpTo}
use Rattle.clashes.specs.Colouring.{Chromatic}
use Rattle.clashes.specs.Divisions.{groups, Division, clash_free, free_divisions}
use Rattle.clashes.specs.Room.{OpenUpTo}
use Rattle.clashes.proofs.MatrixLaws.{sound_valid}
use Rattle.bounds.specs.Names.{clique_set, mycielskian}
use Rattle.bounds.specs.Lent.{of_list, AllClash}
use Rattle.bounds.proofs.BoundLaws.{mycielskian_chromatic}
use Rattle.zykov.specs.Walk as walks
use Rattle.std.specs.Prelude.{Ok}
use Rattle.walk.specs.Promise.{Answer, PromisedUpTo, answer_up_to}
use Rattle.walk.proofs.Answers.{mycielskian_bound}
use Rattle.walk.proofs.Demands as any
use Rattle.shrink.specs.Rules.{gone}
use Rattle.shrink.specs.Shrunk.{fewest, shrunk_of, shrunk_walk}
use Rattle.shrink.proofs.Demands as laws

module _ (most : ℕ) (rows before : List ℕ) (budget : ℕ) where
  -- One answer, and one state of the lent bytes.
  pub one_answer : (a b : Answer) (after after' : List ℕ) → PromisedUpTo most (shrunk_walk mycielskian) rows before budget a after
      → PromisedUpTo most (shrunk_walk mycielskian) rows before budget b after' → (a ≡ b) × (after ≡ after')
  one_answer = any.one_answer most (shrunk_walk mycielskian) rows before budget

  -- Demand 1, "Refusals as for the walk": the answer is the one that document 01's order gives.
  pub answered : (a : Answer) (after : List ℕ) → PromisedUpTo most (shrunk_walk mycielskian) rows before budget a after
      → a ≡ answer_up_to most (shrunk_walk mycielskian) rows before budget
  answered = any.answered most (shrunk_walk mycielskian) rows before budget

  -- The nodes of a valid list's walk are at most 2 P - 1, P of the full list.
  counted : SoundUpTo most rows → suc (shrunk_walk mycielskian (length rows) (matrix rows)).nodes ≤ 2 * free_divisions (length rows) (matrix rows)
  counted s =
      let v = sound_valid rows s in
      laws.shrunk_count mycielskian mycielskian_bound (length rows) (matrix rows) v (mycielskian_chromatic (length rows) (matrix rows) v)

  module _ (k m l c : ℕ) (after : List ℕ) (p : PromisedUpTo most (shrunk_walk mycielskian) rows before budget (Ok (record { k = k; nodes = m; leaves = l; clique = c })) after) where
    abbrev n : ℕ
    n = length rows

    valid : Valid n (matrix rows)
    valid = sound_valid rows p.opened.sound

    -- "Demand 2 holds for the full list": k is its chromatic number; the first n bytes are a division of its entries into k groups, numbered by
    -- smallest member; no two entries that clash are in one.
    pub is_chromatic : Chromatic n (matrix rows) k
    is_chromatic = any.is_chromatic most (shrunk_walk mycielskian) rows before budget k m l c after p

    pub each_once : Division n (take n after) × (groups 0 (take n after) ≡ k)
    each_once = any.each_once most (shrunk_walk mycielskian) rows before budget k m l c after p

    pub no_clash : T (clash_free n (matrix rows) (take n after))
    no_clash = any.no_clash most (shrunk_walk mycielskian) rows before budget k m l c after p

    -- "The answer is the larger of L and the shrunk k where the second rule was used, else the shrunk k"
    pub answer_is : k ≡ fewest (of_list mycielskian rows) (gone (of_list mycielskian rows) n (matrix rows))
        (walks.size (shrunk_of mycielskian n (matrix rows)))
    answer_is =
        sym p.many ∙ ap (groups 0) p.best
        ∙ laws.shrunk_many mycielskian mycielskian_bound n (matrix rows) valid (mycielskian_chromatic n (matrix rows) valid)

    -- which is the larger of the two in either case: where only the first rule was used, L is no more than the shrunk k
    pub answer_larger : k ≡ max (of_list mycielskian rows) (walks.size (shrunk_of mycielskian n (matrix rows)))
    answer_larger =
        sym p.many ∙ ap (groups 0) p.best
        ∙ laws.shrunk_larger mycielskian mycielskian_bound n (matrix rows) valid (mycielskian_chromatic n (matrix rows) valid)

    -- "In this mode the count is that of the walk over the shrunk list, and stays at most 2P - 1 for the full one."
    pub count_reported : (m ≡ (shrunk_of mycielskian n (matrix rows)).nodes) × (m ≤ budget) × (suc m ≤ 2 * free_divisions n (matrix rows))
    count_reported = (p.count, p.paid, omega (arith, p.count, counted p.opened.sound))

    -- "the clique shown is the full list's"
    pub clique_shown : (c ≡ of_list clique_set rows) × AllClash n (matrix rows) c × (size n c ≤ k)
    clique_shown = any.clique_shown most (shrunk_walk mycielskian) rows before budget k m l c after p

  -- So a budget of 2 P - 1 or more is never refused.
  pub shrunk_ample : (a : Answer) (after : List ℕ) → PromisedUpTo most (shrunk_walk mycielskian) rows before budget a after
      → OpenUpTo most rows (length before)
      → 2 * free_divisions (length rows) (matrix rows) ≤ suc budget → (k m l c : ℕ) × (a ≡ Ok (record { k = k; nodes = m; leaves = l; clique = c }))
  shrunk_ample a after p room b =
      (_, _, _, _, any.accepted_within most (shrunk_walk mycielskian) rows before budget a after p room (omega (arith, counted room.sound)))
