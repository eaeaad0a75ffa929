-- Laws of the greatest count, found slice by slice from the highest. Assumes nothing.
use mathlib.Core.Path.{◌≡◌, refl, sym, ap, ◌∙◌, subst}
use mathlib.Core.Logic.{◌≢◌}
use mathlib.Core.Bool.{Bool, true, false}
use Prim.Native.Nat.{ℕ, zero, ◌+◌, ◌*◌, ◌≤◌}
use native.Mathlib.Omega.{arith}
use lib.Dec.{T}
use Rattle.sets.specs.Lists.{bit}
use Rattle.sets.specs.Set.{has, IsMeet}
use Rattle.sets.proofs.TestLaws.{and_l, and_r, and_t, bit_one, bit_zero, T?}
use Rattle.sets.proofs.SetLaws.{has_none, some_member}
use Rattle.counts.specs.Counts.{value, Most, IsMost}
use Rattle.counts.specs.Steps.{Leads, Ahead}
use Rattle.counts.specs.declared.Counts.{Counts}

pub ahead_all : (apart gap : ℕ) → Ahead (λ v. zero) apart gap apart
ahead_all apart gap = record {
  top = 0;
  leads = record { within = λ v t. t; same = λ v t. refl; behind = λ v t q. absurd (q t); some = λ q. q };
}

module _ (f : ℕ → ℕ) (apart slice weight both m : ℕ) (a : Ahead f apart (2 * weight) m) (is : IsMeet m slice both) where
  abbrev l : Leads f apart (2 * weight) a.top m
  l = a.leads

  -- with the weight for those in the slice
  abbrev more : ℕ → ℕ
  more v = f v + weight * bit (has slice v)

  more_few : (v : ℕ) → more v ≤ f v + weight
  more_few v = go (has slice v)
    where
      go : (b : Bool) → f v + weight * bit b ≤ f v + weight
      go true = omega arith
      go false = omega arith

  in_slice : (v : ℕ) → T (has slice v) → more v ≡ f v + weight
  in_slice v t = omega (arith, ap (λ (k : ℕ). weight * k) (bit_one (has slice v) t))

  not_in : (v : ℕ) → ¬ T (has slice v) → more v ≡ f v
  not_in v q = omega (arith, ap (λ (k : ℕ). weight * k) (bit_zero (has slice v) q))

  pub ahead_slice : both ≢ 0 → Ahead (λ v. f v + weight * bit (has slice v)) apart weight both
  ahead_slice q = record {
    top = a.top + weight;
    leads = record {
      within = λ v t. l.within v (and_l (has m v) (has slice v) (subst T (is v) t));
      same = λ v t.
          let u = subst T (is v) t in
          omega (arith, l.same v (and_l (has m v) (has slice v) u), in_slice v (and_r (has m v) (has slice v) u));
      behind = λ v t out. late v t out (T? (has m v));
      some = λ p. q;
    };
  }
    where
      late : (v : ℕ) → T (has apart v) → ¬ T (has both v) → Dec (T (has m v)) → more v + weight ≤ a.top + weight
      late v t out (yes u) = omega (arith, l.same v u, not_in v (λ s. out (subst T (sym (is v)) (and_t (has m v) (has slice v) u s))))
      late v t out (no u) = omega (arith, l.behind v t u, more_few v)

-- who leads by all slices has most
module _ (c : Counts) (f : ℕ → ℕ) (apart m : ℕ) (e : (v : ℕ) → f v ≡ value c v) (a : Ahead f apart 1 m) where
  top_all : (v : ℕ) → T (has apart v) → value c v ≤ a.top
  top_all v t = go (T? (has m v))
    where
      go : Dec (T (has m v)) → value c v ≤ a.top
      go (yes u) = omega (arith, e v, a.leads.same v u)
      go (no u) = omega (arith, e v, a.leads.behind v t u)

  -- where anyone is in apart, someone is in m
  leader : (v : ℕ) → Most c apart v → Dec (T (has m v)) → T (has m v)
  leader v h (yes u) = u
  leader v h (no u) =
      let w = some_member m (a.leads.some (λ z. subst T (ap (λ (s : ℕ). has s v) z ∙ has_none v) h.member)) in
      absurd (omega (
        arith,
        e v,
        e w.0,
        a.leads.same w.0 w.1,
        a.leads.behind v h.member u,
        h.greatest w.0 (a.leads.within w.0 w.1),
      ))

  pub ahead_most : IsMost c apart m
  ahead_most = record {
    most = λ v t. record {
      member = a.leads.within v t;
      greatest = λ w u. omega (arith, top_all w u, e v, a.leads.same v t);
    };
    all = λ v h. leader v h (T? (has m v));
    some = a.leads.some;
  }
