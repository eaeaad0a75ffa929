-- What falls: merging leaves one live vertex fewer, and both merging and separating leave fewer gaps. Assumes nothing.
use mathlib.Core.Path.{◌≡◌, sym, ap, ◌∙◌, subst, subst₂}
use mathlib.Core.Logic.{◌≢◌}
use mathlib.Core.Bool.{Bool, true, false}
use Prim.Native.Nat.{ℕ, zero, suc, ◌+◌, ◌*◌, ◌≤◌, ◌<◌, max, zero-le}
use native.Mathlib.Omega.{arith}
use lib.Dec.{T, ltb, ltb→lt}
use lib.ListN.{length}
use Rattle.sets.specs.Lists.{bit, count, table, upto, cross}
use Rattle.sets.proofs.TestLaws.{and_l, T-ext}
use Rattle.sets.proofs.ListLaws.{count_append, count_lt}
use Rattle.sets.proofs.MemberLaws.{count_out, count_agree, members_count}
use Rattle.graphs.specs.Graph.{Graph, live, vertices, gap, missing}
use Rattle.graphs.specs.Good.{Live, Good, Chosen, Merged, Parted}
use Rattle.graphs.proofs.PairLaws.{In-cross, length_cross, count_length}
use Rattle.graphs.proofs.GraphLaws.{live_of, of_live, gap_chosen, chosen_gap, to_other}
use Rattle.graphs.proofs.SplitLaws.{merged_live, live_merged, parted_live, live_parted}

-- at most n * n pairs are missing
pub missing_le : (n : ℕ) (g : Graph) → missing n g ≤ n * n
missing_le n g = omega (arith, count_length (gap n g) (cross n n), length_cross n n)

-- nor more than there are pairs of entries, n (n - 1) / 2
module _ (n : ℕ) (g : Graph) where
  -- of a row, only the places after x
  row_gaps : (x m : ℕ) (f : ℕ → ℕ) (i : ℕ) → ((j : ℕ) → f j ≡ i + j) → count (gap n g) (table (λ y. (x, f y)) m) + max (suc x) i ≤ max (suc x) (i + m)
  row_gaps x zero f i h = omega arith
  row_gaps x (suc m) f i h =
      go (gap n g (x, f zero)) (λ t. ltb→lt x (f zero) (and_l (ltb x (f zero)) _ t)) (row_gaps x m (λ j. f (suc j)) (suc i) (λ j. omega (arith, h (suc j))))
    where
      go : (b : Bool) → (T b → x < f zero) → count (gap n g) (table (λ y. (x, f (suc y))) m) + max (suc x) (suc i) ≤ max (suc x) (suc i + m)
          → bit b + count (gap n g) (table (λ y. (x, f (suc y))) m) + max (suc x) i ≤ max (suc x) (i + suc m)
      go true l r = omega (arith, l tt, h zero)
      go false l r = omega (arith, r)

  rows_gaps : (k : ℕ) → k ≤ n → 2 * count (gap n g) (cross k n) + k * k + k ≤ 2 * (k * n)
  rows_gaps zero h = zero-le
  rows_gaps (suc k) h =
      omega (arith, rows_gaps k (omega arith), row_gaps k n (λ y. y) 0 (λ j. omega arith), count_append (gap n g) (cross k n) (table (λ y. (k, y)) n))

  pub missing_half : 2 * missing n g + n ≤ n * n
  missing_half = omega (arith, rows_gaps n (omega arith))

-- a graph in which every gap was one before, and the chosen pair is none, misses fewer
fewer : (n : ℕ) (g m : Graph) (u v : ℕ) → Chosen n g u v → ((x y : ℕ) → Chosen n m x y → Chosen n g x y) → ¬ Chosen n m u v → missing n m < missing n g
fewer n g m u v p h q =
    count_lt (gap n m) (gap n g) (cross n n) (λ w t. chosen_gap n g w.0 w.1 (h w.0 w.1 (gap_chosen n m w.0 w.1 t)))
    (u, v) (In-cross n n u v p.live_u.below p.live_v.below) (λ t. q (gap_chosen n m u v t)) (chosen_gap n g u v p)

module _ (n : ℕ) (g m : Graph) (u v : ℕ) (k : Good n g) (p : Chosen n g u v) (e : Merged n g m u v) where
  pub merged_fewer : missing n m < missing n g
  merged_fewer = fewer n g m u v p keep (λ o. (live_merged n g m u v k p e v o.live_v).1 (λ i. v))
    where
      keep : (x y : ℕ) → Chosen n m x y → Chosen n g x y
      keep x y o =
          let a = live_merged n g m u v k p e x o.live_u in
          let b = live_merged n g m u v k p e y o.live_v in
          record {
            live_u = a.0;
            live_v = b.0;
            less = o.less;
            free = λ t. o.free (subst₂ (λ i j. T (m.adj i j)) (to_other u v x a.1) (to_other u v y b.1) (e.fwd x y t));
          }

  -- the live vertices are those before, without v
  merged_test : (x : ℕ) → x ≢ v → live n m x ≡ live n g x
  merged_test x q =
      T-ext (live n m x) (live n g x) (λ t. of_live n g x (live_merged n g m u v k p e x (live_of n m x t)).0)
      (λ t. of_live n m x (subst (Live n m) (to_other u v x q) (merged_live n g m u v k p e x (live_of n g x t))))

  pub merged_count : suc (count (live n m) (upto n)) ≡ count (live n g) (upto n)
  merged_count =
      count_out n (live n g) (live n m) v p.live_v.below (of_live n g v p.live_v)
      (λ t. (live_merged n g m u v k p e v (live_of n m v t)).1 (λ i. v)) merged_test

  pub merged_vertices : suc (length (vertices n m)) ≡ length (vertices n g)
  merged_vertices = ap suc (members_count (live n m) n) ∙ merged_count ∙ sym (members_count (live n g) n)

module _ (n : ℕ) (g s : Graph) (u v : ℕ) (k : Good n g) (p : Chosen n g u v) (e : Parted n g s u v) where
  pub parted_fewer : missing n s < missing n g
  parted_fewer = fewer n g s u v p keep (λ o. o.free e.here)
    where
      keep : (x y : ℕ) → Chosen n s x y → Chosen n g x y
      keep x y o = record {
        live_u = live_parted n g s u v k p e x o.live_u;
        live_v = live_parted n g s u v k p e y o.live_v;
        less = o.less;
        free = λ t. o.free (e.fwd x y t);
      }

  -- separating keeps the live vertices
  pub parted_count : count (live n s) (upto n) ≡ count (live n g) (upto n)
  parted_count =
      count_agree n (live n s) (live n g)
      (λ x b. T-ext (live n s x) (live n g x) (λ t. of_live n g x (live_parted n g s u v k p e x (live_of n s x t)))
      (λ t. of_live n s x (parted_live n g s u v k p e x (live_of n g x t))))

  pub parted_vertices : length (vertices n s) ≡ length (vertices n g)
  parted_vertices = members_count (live n s) n ∙ parted_count ∙ sym (members_count (live n g) n)
