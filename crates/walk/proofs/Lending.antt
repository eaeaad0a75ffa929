-- What the calls at one word lend to a walk: 64 rows, names and bytes of zeros, and a trail with a place for each pair of 64 entries. Assumes nothing.
use mathlib.Core.Path.{refl, sym, subst}
use mathlib.Core.Logic.{inl}
use mathlib.Core.List.{List}
use Rattle.std.specs.Prelude.{Result}
use Prim.Native.Nat.{ℕ, zero, suc, ◌+◌, ◌*◌, ◌≤◌}
use native.Mathlib.Omega.{arith}
use native.Mathlib.Nat.{mul-le-mul_right}
use lib.ListN.{length, replicate, length-replicate}
use Rattle.wide.specs.Words.{rows_of}
use Rattle.wide.proofs.WideLaws.{rows_one}
use Rattle.clashes.specs.Matrix.{Sound}
use Rattle.zykov.specs.Walk.{Rule}
use Rattle.steps.specs.Going.{lending, Lends, WalkedTelling}
use Rattle.steps.specs.declared.State.{State}

-- n (n - 1) / 2 is at most 2,016
pairs_few : (n : ℕ) → n ≤ 64 → n * n ≤ 2 * 2016 + n
pairs_few zero h = omega arith
pairs_few (suc m) h = let k : m ≤ 63 = omega arith in let q = mul-le-mul_right m k in omega (arith, q)

module _ (rows : List ℕ) where
  pub lends_one : Sound rows → Lends 1 (length rows) rows (lending (replicate 64 zero) (replicate 64 zero) (replicate 64 zero) (replicate 2016 zero))
  lends_one s = record {
    sound = subst Sound (sym (rows_one rows (length rows) refl)) s;
    long = omega arith;
    form = inl (record { words_one = refl; long = length-replicate {A = ℕ} 64 zero });
    unnamed = refl;
    bytes = omega (arith, s.apart.inside.few, length-replicate {A = ℕ} 64 zero);
    room = omega (arith, pairs_few (length rows) s.apart.inside.few, length-replicate {A = ℕ} 2016 zero);
  }

  -- rows of one word are the list itself
  pub walked_one : (R : Rule) (m : ℕ) (best : List ℕ) (r : Result State State) → WalkedTelling R (length rows) (rows_of 1 (length rows) rows) m best r → WalkedTelling R
      (length rows) rows m best r
  walked_one R m best r w = subst (λ (l : List ℕ). WalkedTelling R (length rows) l m best r) (rows_one rows (length rows) refl) w
