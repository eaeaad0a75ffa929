-- The column that a refusal names is at most one past its line, and so at most one more than the text has bytes; and a fault of shape names one.
--
--   Placed n a : the column that the answer a names is at most n, and at least 1 where it refuses for a fault of shape
--   Lies n f   : so is the answer of what was found
--   widest t   : the length of the longest of the lines t
--
-- Assumes nothing.
use Prim.Native.Nat.{ℕ, suc, ◌+◌, ◌≤◌, max, zero-le}
use mathlib.Core.Path.{◌≡◌, subst}
use mathlib.Core.List.{List, [], ◌∷◌}
use mathlib.Core.Bool.{Bool, true, false, ◌&&◌}
use native.Mathlib.Omega.{arith}
use lib.Dec.{T, leb, eqb}
use lib.ListN.{length}
use Rattle.std.specs.Prelude.{Option, None, Some, Result, Ok, Err}
use Rattle.clashes.specs.Matrix.{matrix}
use Rattle.lines.specs.Text.{Text, done, unended, ended, put, feed, lines_of}
use Rattle.lines.proofs.Basics.{cond_cases}
use Rattle.lists.specs.Shape.{shape_of}
use Rattle.lists.specs.Expect.{of_shape, spot_of}
use Rattle.lists.specs.Read.{no_rows_up_to, inside, edge_of, step_up_to, join, after, read_from_up_to, start, read_up_to, answer_in}
use Rattle.lists.specs.declared.Shape.{Shape}
use Rattle.lists.specs.declared.Shape.TheVariants.{Comment, P, E}
use Rattle.lists.specs.declared.Head.{Head}
use Rattle.lists.specs.declared.Unread.{Unread}
use Rattle.lists.specs.declared.Gathered.{Gathered}
use Rattle.lists.specs.declared.Spot.{Spot}
use Rattle.lists.specs.declared.Step.{Step}
use Rattle.lists.specs.declared.Step.TheVariants.{Go, Edge}
use Rattle.lists.proofs.Columns.{spot_astray}

abbrev Placed : ℕ → Result ℕ Unread → Type 0
Placed n (Ok m) = Unit {0}
Placed n (Err u) = (u.column ≤ n) × (T (of_shape u.why) → 1 ≤ u.column)

abbrev Lies : ℕ → Result Gathered Unread → Type 0
Lies n f = Placed n (answer_in f)

abbrev widest : Text → ℕ
widest done = 0
widest (unended l) = length l
widest (ended l t) = max (length l) (widest t)

-- ---- a line

abbrev Narrow : ℕ → Result Step Spot → Type 0
Narrow n (Err p) = (p.column ≤ n) × (T (of_shape p.fault) → 1 ≤ p.column)
Narrow n (Ok st) = Unit {0}

edge_narrow : (n : ℕ) (h : Head) (u v : ℕ) → Narrow n (edge_of h u v)
edge_narrow n h u v =
    cond_cases (Narrow n) (inside h.n u) _ _
    (λ _. cond_cases (Narrow n) (inside h.n v) _ _ (λ _. cond_cases (Narrow n) (eqb u v) _ _ (λ _. (zero-le, λ x. absurd x)) (λ _. tt)) (λ _. (zero-le, λ x. absurd x)))
    (λ _. (zero-le, λ x. absurd x))

module _ (most : ℕ) where
  step_narrow : (n : ℕ) (h : Option Head) (room : ℕ) (p : Spot) (s : Option Shape) → (1 ≤ p.column) × (p.column ≤ n) → Narrow n (step_up_to most h room p s)
  step_narrow n h room p None a = (a.1, λ _. a.0)
  step_narrow n h room p (Some Comment) a = tt
  step_narrow n (Some h) room p (Some (P i j)) a = (zero-le, λ x. absurd x)
  step_narrow n None room p (Some (P i j)) a =
      cond_cases (Narrow n) (leb i most) _ _ (λ _. cond_cases (Narrow n) (leb i room) _ _ (λ _. tt) (λ _. (zero-le, λ x. absurd x)))
      (λ _. (zero-le, λ x. absurd x))
  step_narrow n (Some h) room p (Some (E u v)) a = edge_narrow n h u v
  step_narrow n None room p (Some (E u v)) a = (zero-le, λ x. absurd x)

  -- ---- the lines

  placed_more : (m n : ℕ) (f : Result Gathered Unread) → m ≤ n → Lies m f → Lies n f
  placed_more m n (Ok g) h x = tt
  placed_more m n (Err u) h x = (omega (arith, x.0), x.1)

  from_placed : (plain : Bool) (t : Text) (room k : ℕ) (h : Option Head) (g : List ℕ) → Lies (widest t + 1) (read_from_up_to plain most t room k h g)
  from_placed plain done room k None g = (zero-le, λ x. absurd x)
  from_placed plain done room k (Some h) g = cond_cases (Lies 1) (eqb h.count h.m) _ _ (λ _. tt) (λ _. (zero-le, λ x. absurd x))
  from_placed plain (unended l) room k h g = let w = (spot_astray l).within in (w.1, λ _. w.0)
  from_placed plain (ended l t) room k h g =
      go (step_up_to most h room (spot_of l) (shape_of l)) (step_narrow (length l + 1) h room (spot_of l) (shape_of l) (spot_astray l).within)
      (from_placed plain t room (k + 1))
    where
      go : (st : Result Step Spot) → Narrow (length l + 1) st → ((x : Option Head) (y : List ℕ) → Lies (widest t + 1) (read_from_up_to plain most t room (k + 1) x y))
          → Lies (max (length l) (widest t) + 1) (after plain st g k (read_from_up_to plain most t room (k + 1)))
      go (Err p) d r = (omega (arith, d.0), d.1)
      go (Ok (Go x)) d r = placed_more (widest t + 1) (max (length l) (widest t) + 1) (read_from_up_to plain most t room (k + 1) x g) (omega arith) (r x g)
      go (Ok (Edge x i j)) d r =
          cond_cases (Lies (max (length l) (widest t) + 1)) (plain && matrix g i j) _ _ (λ _. (zero-le, λ x. absurd x))
          (λ _. placed_more (widest t + 1) (max (length l) (widest t) + 1) (read_from_up_to plain most t room (k + 1) (Some x) (join g i j)) (omega arith)
          (r (Some x) (join g i j)))

widest_put : (b : ℕ) (t : Text) → widest (put b t) ≤ suc (widest t)
widest_put b done = omega arith
widest_put b (unended l) = omega arith
widest_put b (ended l t) = omega arith

widest_le : (s : List ℕ) → widest (lines_of s) ≤ length s
widest_le [] = zero-le
widest_le (b ∷ s) = go (eqb b 10) (widest_le s)
  where
    go : (y : Bool) → widest (lines_of s) ≤ length s → widest (feed y b (lines_of s)) ≤ suc (length s)
    go true r = omega arith
    go false r = omega (arith, widest_put b (lines_of s))

-- ---- the law

pub read_column : (plain : Bool) (most longest : ℕ) (s : List ℕ) (room : ℕ) (u : Unread)
    → answer_in (read_up_to plain most longest s room) ≡ Err u
    → (u.column ≤ length s + 1) × (T (of_shape u.why) → 1 ≤ u.column)
read_column plain most longest s room u e =
    subst (Placed (length s + 1)) e (cond_cases (Lies (length s + 1)) (leb (length s) longest) _ _
    (λ _. placed_more most (widest (lines_of s) + 1) (length s + 1) (read_from_up_to plain most (lines_of s) room 1 start (no_rows_up_to most))
    (omega (arith, widest_le s))
    (from_placed most plain (lines_of s) room 1 start (no_rows_up_to most)))
    (λ _. (zero-le, λ x. absurd x)))
