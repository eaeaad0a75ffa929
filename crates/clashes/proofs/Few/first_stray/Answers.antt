-- `clashes::Few::first_stray` meets its contract: a row has more than the bits below n just where one of them is at n or above. Assumes nothing.
use mathlib.Core.Path.{◌≡◌}
use mathlib.Core.Logic.{◌≢◌}
use mathlib.Core.List.{List}
use Prim.Native.Nat.{ℕ, ◌<◌, zero-le}
use lib.ListN.{length, get_or}
use borrow.Author.Tests.{tests}
use Rattle.std.proofs.Common.{rules}
use Rattle.std.specs.List.{AllWithin, HoldsAt}
use Rattle.std.specs.Option.{MatchOption}
use Rattle.std.specs.Prelude.{Option, Some, None}
use Rattle.std.proofs.lemmas.Iterator.{IsFirst-from_position, YieldsList-from_slice}
use Rattle.sets.specs.Set.{IsLess}
use Rattle.clashes.specs.Matrix.{Lowest, HasStray}
use Rattle.clashes.proofs.MatrixLaws.{stray_some, stray_none}
use Rattle.clashes.proofs.Few.first_stray.Goals as goal

-- the lowest row that the test answers true at is the lowest of which P holds
lowest_by : (rows : List ℕ) (P : ℕ → Type 0) (Yes No : ℕ → Type 0) → ((i : ℕ) → Yes (get_or rows i 0) → P i) → ((i : ℕ) → No (get_or rows i 0) → ¬ P i)
    → (r : Option ℕ)
    → MatchOption r (AllWithin No rows 0 (length rows)) (λ i. (i < length rows) × HoldsAt Yes rows i × AllWithin No rows 0 i)
    → Lowest P (length rows) r
lowest_by rows P Yes No at out None h = λ i b. out i (h i 0 zero-le b)
lowest_by rows P Yes No at out (Some i) (b, h, g) = record { below = b; here = at i (h 0); before = λ j l. out j (g j 0 zero-le l) }

pub returns : goal.returns
returns c =
    let rows = c.args.self.rows.now in
    let all = c.below-all in
    let Yes = λ (x : ℕ). (s : ℕ) × IsLess x all.result s × (s ≢ 0) in
    let No = λ (x : ℕ). (s : ℕ) × IsLess x all.result s × (s ≡ 0) in
    lowest_by rows (HasStray rows) Yes No (λ i h. stray_some rows i all.result h.0 all.ensures h.1 h.2) (λ i h. stray_none rows i all.result h.0 all.ensures h.1 h.2)
    c.position.result
    (IsFirst-from_position _ _ c.position.result Yes No c.position.ensures.ran (YieldsList-from_slice rows cc) (λ x q k. search (rules, tests))
    (λ x q k. search (rules, tests)))
