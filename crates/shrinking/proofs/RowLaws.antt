-- Laws of rows that hold a list: the rows of a valid list are sound, and the walk over them is the walk over the list. Assumes nothing.
use mathlib.Core.Path.{◌≡◌, sym, ap, ◌∙◌, subst}
use mathlib.Core.Bool.{Bool, ◌&&◌}
use mathlib.Core.List.{List}
use Prim.Native.Nat.{ℕ, ◌≤◌, ◌<◌}
use native.Mathlib.Omega.{arith}
use borrow.Author.Tests.{lt-ltb}
use lib.Dec.{T, ltb, ltb→lt, lt→ltb}
use lib.ListN.{length}
use Rattle.sets.proofs.TestLaws.{and_l, and_r, and_t}
use Rattle.clashes.specs.Matrix.{matrix, Valid, SoundUpTo}
use Rattle.graphs.specs.Graph.{Graph}
use Rattle.zykov.specs.Walk.{bounded_walk_lem}
use Rattle.shrink.proofs.Agree.{walk_agree}

module _ (n : ℕ) (clash : ℕ → ℕ → Bool) (rows : List ℕ) (long : length rows ≡ n)
    (is : (x y : ℕ) → x < n → matrix rows x y ≡ (ltb y n && clash x y)) where
  low : (i : ℕ) → i < length rows → i < n
  low i b = omega (arith, long)

  row_clash : (x y : ℕ) → x < n → T (matrix rows x y) → (y < n) × T (clash x y)
  row_clash x y a t = let u = subst T (is x y a) t in (ltb→lt y n (and_l (ltb y n) (clash x y) u), and_r (ltb y n) (clash x y) u)

  pub rows_sound : (most : ℕ) → n ≤ most → Valid n clash → SoundUpTo most rows
  rows_sound most few v = record {
    apart = record {
      inside = record {
        few = omega (arith, long);
        no_stray = λ i b h. let c = row_clash i h.0 (low i b) h.2 in let z : ⊥ = omega (arith, c.0, h.1, long) in z;
      };
      no_itself = λ i b t. v.no_self i (low i b) (row_clash i i (low i b) t).1;
    };
    no_one_sided = λ i b h.
        let c = row_clash i h.0 (low i b) h.2 in
        h.3 (subst T (sym (is h.0 i c.0)) (and_t (ltb i n) (clash h.0 i) (lt→ltb i n (low i b))
        (v.both_ways i h.0 (low i b) c.0 c.1)));
  }

  pub rows_walk : (bound : ℕ → Graph → ℕ) → bounded_walk_lem bound (length rows) (matrix rows) ≡ bounded_walk_lem bound n clash
  rows_walk bound =
      ap (λ (m : ℕ). bounded_walk_lem bound m (matrix rows)) long
      ∙ walk_agree n (matrix rows) clash (λ x y a b. is x y a ∙ ap (λ (t : Bool). t && clash x y) (lt-ltb y n b)) bound
