-- Every row of document 01's table holds of what the walks promise: one computation, and one law that turns a passed test into the row's statement. The
-- cliques that are shown go the same way. Assumes nothing.
use mathlib.Core.Path.{◌≡◌, refl, sym, ap, ap₂, ◌∙◌, subst}
use mathlib.Core.Logic.{◌≢◌}
use mathlib.Core.Bool.{Bool, true, ◌&&◌, cond}
use mathlib.Core.List.{List, [], ◌∷◌}
use Prim.Native.Nat.{ℕ, zero, suc, ◌*◌, ◌≤◌}
use native.Mathlib.Nat.{le_of_eq}
use native.Mathlib.Decide.{ℕ_discrete}
use native.Mathlib.Omega.{arith}
use borrow.Author.Tests.{le-ltb}
use lib.Dec.{T, eqb, eqb→eq}
use lib.ListN.{length, take}
use Rattle.std.specs.Prelude.{Ok, Err}
use Rattle.refusals.specs.declared.Invalid.TheVariants.{Many, Stray, Itself, OneSided}
use Rattle.refusals.specs.declared.Unsolved.TheVariants.{OfRows, Short, Budget}
use Rattle.sets.specs.Lists.{In, every, upto, table as list_of}
use Rattle.sets.proofs.TestLaws.{and_l, and_r, eqb_of, T→true, T→false}
use Rattle.sets.proofs.ListLaws.{every_get, length_table}
use Rattle.clashes.specs.Labels.{member}
use Rattle.clashes.specs.Matrix.{matrix, judge}
use Rattle.clashes.specs.Divisions.{free_divisions}
use Rattle.graphs.specs.Graph.{Graph}
use Rattle.cliques.specs.Clique.{clique}
use Rattle.mycielski.specs.Rounds as rounds
use Rattle.bounds.specs.Names.{mycielskian, clique_set_is, mycielskian_is}
use Rattle.zykov.specs.Tree.{grown, below}
use Rattle.zykov.specs.Walk.{State, walk}
use Rattle.walk.specs.Promise.{Answer, numbers, Promised, refused, walked, answer_up_to}
use Rattle.walk.proofs.PromiseLaws.{promised_answer}
use Rattle.figures.specs.Table.{Figures, figures_of, Row, table, cliques, walk_of, same, same_list, passes, picks, Confirmed, Shows}

-- ---- the computation

all_pass : T (every passes table)
unfolding passes walk grown below upto member clique rounds.mycielskian ℕ_discrete
all_pass = tt

-- ---- the law

same_is : (v w : Figures) → T (same v w) → v ≡ w
same_is v w t = λ i. record {
  number = eqb→eq v.number w.number (and_l (eqb v.number w.number) _ t) i;
  k = eqb→eq v.k w.k (and_l (eqb v.k w.k) _ (and_r (eqb v.number w.number) _ t)) i;
  nodes = eqb→eq v.nodes w.nodes (and_l (eqb v.nodes w.nodes) _ (and_r (eqb v.k w.k) _ (and_r (eqb v.number w.number) _ t))) i;
  leaves =
      eqb→eq v.leaves w.leaves
      (and_l (eqb v.leaves w.leaves) (eqb v.row w.row) (and_r (eqb v.nodes w.nodes) _ (and_r (eqb v.k w.k) _ (and_r (eqb v.number w.number) _ t)))) i;
  row =
      eqb→eq v.row w.row
      (and_r (eqb v.leaves w.leaves) (eqb v.row w.row) (and_r (eqb v.nodes w.nodes) _ (and_r (eqb v.k w.k) _ (and_r (eqb v.number w.number) _ t)))) i;
}

list_is : (l m : List ℕ) → T (same_list l m) → l ≡ m
list_is [] [] t = refl
list_is [] (y ∷ m) t = absurd t
list_is (x ∷ l) [] t = absurd t
list_is (x ∷ l) (y ∷ m) t = ap₂ (λ (a : ℕ) (k : List ℕ). a ∷ k) (eqb→eq x y (and_l (eqb x y) (same_list l m) t)) (list_is l m (and_r (eqb x y) (same_list l m) t))

-- a described walk over the bound's definition is the one over its name
named : (r : Row) → walk_of rounds.mycielskian r ≡ walk_of mycielskian r
named r = ap (λ (b : ℕ → Graph → ℕ). walk_of b r) (λ i n g. sym (mycielskian_is n g) i)

module _ (w : ℕ → (ℕ → ℕ → Bool) → State) (rows before other : List ℕ) (budget : ℕ) where
  -- the answer does not depend on the buffer, where that is long enough
  answer_any : length rows ≤ length before → length rows ≤ length other → answer_up_to 64 w rows before budget ≡ answer_up_to 64 w rows other budget
  answer_any b c =
      ap
      (λ t. refused (judge rows)
      (cond t (Err Short) (walked 64 w rows before budget (w (length rows) (matrix rows)))))
      (le-ltb (length before) (length rows) b ∙ sym (le-ltb (length other) (length rows) c))

-- where the number is 0 the answer is an accepted one
colours_of : (w : ℕ → (ℕ → ℕ → Bool) → State) (rows before after : List ℕ) (budget : ℕ) (a : Answer) → (numbers a).number ≡ zero
    → Promised w rows before budget a after → take (length rows) after ≡ (w (length rows) (matrix rows)).best
colours_of w rows before after budget (Ok f) e p = p.best
colours_of w rows before after budget (Err (OfRows Many)) e p = absurd (omega arith)
colours_of w rows before after budget (Err (OfRows (Stray i))) e p = absurd (omega arith)
colours_of w rows before after budget (Err (OfRows (Itself i))) e p = absurd (omega arith)
colours_of w rows before after budget (Err (OfRows (OneSided i))) e p = absurd (omega arith)
colours_of w rows before after budget (Err Short) e p = absurd (omega arith)
colours_of w rows before after budget (Err (Budget m)) e p = absurd (omega arith)

module _ (r : Row) (t : T (passes r)) where
  abbrev n : ℕ
  n = length r.rows

  abbrev zeros : List ℕ
  zeros = list_of (λ i. zero) n

  abbrev numbers? : Bool
  numbers? = same (figures_of (numbers (answer_up_to 64 (walk_of rounds.mycielskian r) r.rows zeros r.budget))) r.want

  abbrev colours? : Bool
  colours? = cond (eqb r.want.number zero) (same_list (walk_of rounds.mycielskian r n (matrix r.rows)).best r.colours) true

  abbrev twice? : Bool
  twice? = cond (eqb r.twice zero) true (eqb (suc r.twice) (2 * free_divisions n (matrix r.rows)))

  parts : T (numbers? && (colours? && twice?))
  unfolding passes
  parts = t

  numbers_hold : (before after : List ℕ) (a : Answer) → n ≤ length before → Promised (walk_of mycielskian r) r.rows before r.budget a after → figures_of (numbers a) ≡ r.want
  numbers_hold before after a b p =
      ap (λ (a : Answer). figures_of (numbers a))
      (sym (promised_answer 64 (walk_of mycielskian r) r.rows before r.budget a after p)
      ∙ answer_any (walk_of mycielskian r) r.rows before zeros r.budget b (le_of_eq (sym (length_table (λ i. zero) n)))
      ∙ ap (λ w. answer_up_to 64 w r.rows zeros r.budget) (sym (named r)))
      ∙ same_is _ r.want (and_l numbers? (colours? && twice?) parts)

  colours_hold : T colours? → r.want.number ≡ zero → (walk_of rounds.mycielskian r n (matrix r.rows)).best ≡ r.colours
  colours_hold c e =
      list_is (walk_of rounds.mycielskian r n (matrix r.rows)).best r.colours
      (subst (λ b. T (cond b (same_list (walk_of rounds.mycielskian r n (matrix r.rows)).best r.colours) true)) (T→true (eqb r.want.number zero) (eqb_of r.want.number zero e)) c)

  twice_holds : T twice? → r.twice ≢ zero → suc r.twice ≡ 2 * free_divisions n (matrix r.rows)
  twice_holds c q =
      eqb→eq (suc r.twice) (2 * free_divisions n (matrix r.rows))
      (subst (λ b. T (cond b true (eqb (suc r.twice) (2 * free_divisions n (matrix r.rows))))) (T→false (eqb r.twice zero) (λ u. q (eqb→eq r.twice zero u))) c)

  holds : Confirmed r
  holds = record {
    numbers_are = numbers_hold;
    colours_are = λ before after a b p e.
        colours_of (walk_of mycielskian r) r.rows before after r.budget a (ap (λ (v : Figures). v.number) (numbers_hold before after a b p) ∙ e) p
        ∙ ap (λ w. (w n (matrix r.rows)).best) (sym (named r)) ∙ colours_hold (and_l colours? twice? (and_r numbers? (colours? && twice?) parts)) e;
    twice_is = twice_holds (and_r colours? twice? (and_r numbers? (colours? && twice?) parts));
  }

pub figures : (r : Row) → In r table → Confirmed r
figures r i = holds r (every_get passes table all_pass r i)

-- ---- the cliques

all_picked : T (every picks cliques)
unfolding picks clique upto
all_picked = tt

pub cliques_shown : (p : List ℕ × ℕ) → In p cliques → Shows p
unfolding picks
cliques_shown p i walk before after budget f q = q.shown ∙ clique_set_is _ _ ∙ eqb→eq _ p.1 (every_get picks cliques all_picked p i)
