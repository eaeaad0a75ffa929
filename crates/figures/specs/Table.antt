-- Document 01, "Small lists and their figures": the starred rows, all in one table, and the test that a row passes.
--
--   Figures, figures_of v : the numbers that the paper's table has, and those of v
--   Row            : a list, which walk takes it, its budget, the numbers of its answer, 2 P - 1 (0 where the paper gives none), and its colours
--   bare, at_row, after_nodes : the numbers of a refusal, as the paper prints them: alone, with a row, with nodes
--   bounded, spent, refused, plain : a row of each kind
--   table          : the rows
--   cliques        : beside the table, lists with the clique that the paper's rule picks, as a set
--   walk_of bound r : the described walk that takes r
--   passes r       : the answer for r, computed, is the one in the table
--   Confirmed r    : whoever promises as the walks do gives that answer, and writes those colours
--   picks p        : the clique of p's list, computed, is p's
--   Shows p        : whoever promises as the walks do shows it
--
-- `figures` and `cliques_shown` of proofs/Figures.antt: every row of the table holds, and every clique is shown. Assumes nothing.
use Rattle.std.specs.Prelude.{◌≡◌, ◌≢◌, Bool, true, false, ◌&&◌, cond, List, [], ◌∷◌, ℕ, zero, suc, ◌*◌, ◌≤◌, eqb, length, take, Ok}
use Rattle.sets.specs.Lists.{table as list_of}
use Rattle.clashes.specs.Matrix.{matrix}
use Rattle.clashes.specs.Divisions.{free_divisions}
use Rattle.graphs.specs.Graph.{Graph, graph}
use Rattle.cliques.specs.Clique.{clique, set_of}
use Rattle.mycielski.specs.Rounds as rounds
use Rattle.bounds.specs.Names.{mycielskian}
use Rattle.zykov.specs.Walk.{State, bounded_walk_lem, plain_walk_lem}
use Rattle.walk.specs.Promise.{Answer, Numbers, numbers, Promised, answer_up_to}
use Rattle.walk.specs.declared.found.Fewest.{Fewest}

pub record Figures : Type 0 where
  pub number : ℕ
  pub k : ℕ
  pub nodes : ℕ
  pub leaves : ℕ
  pub row : ℕ

abbrev pub figures_of : Numbers → Figures
figures_of v = record { number = v.number; k = v.k; nodes = v.nodes; leaves = v.leaves; row = v.row }

pub record Row : Type 0 where
  pub rows : List ℕ
  pub is_plain : Bool
  pub budget : ℕ
  pub want : Figures
  pub twice : ℕ
  pub colours : List ℕ

-- the paper's own numbers, so that the table of refusals is held to them
abbrev pub bare : ℕ → Figures
bare r = record { number = r; k = 0; nodes = 0; leaves = 0; row = 0 }

abbrev pub at_row : ℕ → ℕ → Figures
at_row r i = record { number = r; k = 0; nodes = 0; leaves = 0; row = i }

abbrev pub after_nodes : ℕ → ℕ → Figures
after_nodes r m = record { number = r; k = 0; nodes = m; leaves = 0; row = 0 }

-- a list that the bounded walk accepts, with an ample budget: k, nodes, 2 P - 1, colours
abbrev pub bounded : List ℕ → ℕ → ℕ → ℕ → List ℕ → Row
bounded rows k m t c =
    record { rows = rows; is_plain = false; budget = 1000; want = record { number = 0; k = k; nodes = m; leaves = 0; row = 0 }; twice = t; colours = c }

-- the plain walk: and its complete graphs
abbrev pub plain : List ℕ → ℕ → ℕ → ℕ → ℕ → List ℕ → Row
plain rows k m l t c =
    record { rows = rows; is_plain = true; budget = 1000; want = record { number = 0; k = k; nodes = m; leaves = l; row = 0 }; twice = t; colours = c }

-- a budget, and what comes of it
abbrev pub spent : List ℕ → ℕ → Figures → List ℕ → Row
spent rows b v c = record { rows = rows; is_plain = false; budget = b; want = v; twice = zero; colours = c }

abbrev pub refused : List ℕ → Figures → Row
refused rows v = record { rows = rows; is_plain = false; budget = 1000; want = v; twice = zero; colours = [] }

abbrev pub five_cycle : List ℕ
five_cycle = 18 ∷ 5 ∷ 10 ∷ 20 ∷ 9 ∷ []

abbrev pub table : List Row
table =
    bounded [] 0 1 1 []
    ∷ bounded (0 ∷ []) 1 1 1 (0 ∷ [])
    ∷ bounded (0 ∷ 0 ∷ []) 1 3 3 (0 ∷ 0 ∷ [])
    ∷ bounded (2 ∷ 1 ∷ []) 2 1 1 (0 ∷ 1 ∷ [])
    ∷ bounded (0 ∷ 0 ∷ 0 ∷ []) 1 5 9 (0 ∷ 0 ∷ 0 ∷ [])
    ∷ bounded (2 ∷ 5 ∷ 2 ∷ []) 2 3 3 (0 ∷ 1 ∷ 0 ∷ [])
    ∷ bounded (10 ∷ 5 ∷ 10 ∷ 5 ∷ []) 2 5 7 (0 ∷ 1 ∷ 0 ∷ 1 ∷ [])
    ∷ bounded five_cycle 3 5 21 (0 ∷ 1 ∷ 0 ∷ 1 ∷ 2 ∷ [])
    ∷ spent five_cycle 4 (after_nodes 6 4) []
    ∷ spent five_cycle 5 (record { number = 0; k = 3; nodes = 5; leaves = 0; row = 0 }) (0 ∷ 1 ∷ 0 ∷ 1 ∷ 2 ∷ [])
    ∷ spent [] 0 (after_nodes 6 0) []
    ∷ refused (2 ∷ []) (at_row 2 0)
    ∷ refused (1 ∷ []) (at_row 3 0)
    ∷ refused (2 ∷ 0 ∷ []) (at_row 4 0)
    ∷ refused (list_of (λ i. zero) 65) (bare 1)
    ∷ plain five_cycle 3 21 11 21 (0 ∷ 1 ∷ 0 ∷ 1 ∷ 2 ∷ [])
    ∷ []

-- of a tie the earliest opened, even where k is larger, as the five-cycle's is; the last one is opened second, by 2, and gets 1 in the second pass
abbrev pub cliques : List (List ℕ × ℕ)
cliques =
    ([], 0)
    ∷ (0 ∷ [], 1)
    ∷ (0 ∷ 0 ∷ [], 1)
    ∷ (2 ∷ 1 ∷ [], 3)
    ∷ (2 ∷ 5 ∷ 2 ∷ [], 3)
    ∷ (five_cycle, 3)
    ∷ (2 ∷ 13 ∷ 10 ∷ 6 ∷ [], 14)
    ∷ []

abbrev pub walk_of : (ℕ → Graph → ℕ) → Row → ℕ → (ℕ → ℕ → Bool) → State
walk_of bound r = cond r.is_plain plain_walk_lem (bounded_walk_lem bound)

-- ---- the test

abbrev pub same : Figures → Figures → Bool
same v w =
    eqb v.number w.number && (eqb v.k w.k && (eqb v.nodes w.nodes && (eqb v.leaves w.leaves && eqb v.row w.row)))

abbrev pub same_list : List ℕ → List ℕ → Bool
same_list [] [] = true
same_list [] (y ∷ m) = false
same_list (x ∷ l) [] = false
same_list (x ∷ l) (y ∷ m) = eqb x y && same_list l m

-- with a buffer of n zeros
unfoldable pub passes : Row → Bool
passes r =
    same (figures_of (numbers (answer_up_to 64 (walk_of rounds.mycielskian r) r.rows (list_of (λ i. zero) (length r.rows)) r.budget))) r.want
    && (cond (eqb r.want.number zero) (same_list (walk_of rounds.mycielskian r (length r.rows) (matrix r.rows)).best r.colours) true
    && cond (eqb r.twice zero) true (eqb (suc r.twice) (2 * free_divisions (length r.rows) (matrix r.rows))))

unfoldable pub picks : List ℕ × ℕ → Bool
picks p = eqb (set_of (clique (length p.0) (graph (length p.0) (matrix p.0)))) p.1

-- ---- what it means

pub record Confirmed (r : Row) : Type 0 where
  pub numbers_are : (before after : List ℕ) (a : Answer) → length r.rows ≤ length before
      → Promised (walk_of mycielskian r) r.rows before r.budget a after → figures_of (numbers a) ≡ r.want
  pub colours_are : (before after : List ℕ) (a : Answer) → length r.rows ≤ length before
      → Promised (walk_of mycielskian r) r.rows before r.budget a after → r.want.number ≡ zero → take (length r.rows) after ≡ r.colours
  pub twice_is : r.twice ≢ zero → suc r.twice ≡ 2 * free_divisions (length r.rows) (matrix r.rows)

abbrev pub Shows : List ℕ × ℕ → Type 0
Shows p =
    (walk : ℕ → (ℕ → ℕ → Bool) → State) (before after : List ℕ) (budget : ℕ) (f : Fewest)
    → Promised walk p.0 before budget (Ok f) after → f.clique ≡ p.1
