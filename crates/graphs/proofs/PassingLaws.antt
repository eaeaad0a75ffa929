-- Why a row may be passed over in the choice of the pair: a pair's common neighbours are no more than either one's degree, so a vertex whose degree
-- is below what would lead is in no pair that leads. Over any graph, with no words. Assumes nothing.
use mathlib.Core.Path.{◌≡◌}
use mathlib.Core.Bool.{Bool, ◌&&◌}
use mathlib.Core.Option.{Option}
use Prim.Native.Nat.{ℕ, ◌≤◌, ◌<◌}
use native.Mathlib.Omega.{arith}
use Rattle.sets.specs.Lists.{upto, members}
use Rattle.sets.proofs.TestLaws.{and_l, and_r}
use Rattle.sets.proofs.ListLaws.{count_le}
use Rattle.graphs.specs.Graph.{Graph, degree, common}
use Rattle.graphs.proofs.LeadLaws.{after, reach, row_lead, row_stays, after_stays}

module _ (n : ℕ) (g : Graph) where
  pub common_of_first : (x y : ℕ) → common n g (x, y) ≤ degree n g x
  common_of_first x y = count_le (λ w. g.adj x w && g.adj y w) (λ w. g.adj x w) (upto n) (λ w t. and_l (g.adj x w) (g.adj y w) t)

  pub common_of_second : (x y : ℕ) → common n g (x, y) ≤ degree n g y
  common_of_second x y = count_le (λ w. g.adj x w && g.adj y w) (λ w. g.adj y w) (upto n) (λ w t. and_r (g.adj x w) (g.adj y w) t)

  -- the pick so far stays after all pairs of the first vertex x, and after each pair of the second vertex y
  pub passed_over_first : (x : ℕ) (o : Option (ℕ × ℕ)) → degree n g x < reach (common n g) o → (p : ℕ × ℕ → Bool) (m : ℕ) → row_lead (common n g) p m o x ≡ o
  passed_over_first x o few p m = row_stays (common n g) x (members (λ y. p (x, y)) m) o (λ y i. omega (arith, few, common_of_first x y))

  pub passed_over_second : (x y : ℕ) (o : Option (ℕ × ℕ)) → degree n g y < reach (common n g) o → after (common n g) o (x, y) ≡ o
  passed_over_second x y o few = after_stays (common n g) (x, y) o (omega (arith, few, common_of_second x y))
