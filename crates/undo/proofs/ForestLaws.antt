-- Names as a forest: each entry points to the one that it was merged into. Assumes nothing.
use mathlib.Core.Path.{◌≡◌, refl, sym, ap, ◌∙◌}
use mathlib.Core.Logic.{◌≢◌}
use mathlib.Core.Bool.{Bool, cond}
use mathlib.Core.List.{List}
use Prim.Native.Nat.{ℕ, zero, suc, ◌≤◌, ◌<◌}
use native.Mathlib.Decide.{ℕ_discrete, dec_lt}
use native.Mathlib.Omega.{arith}
use lib.ListN.{length, get_or, set, length-set, get_or-eq_default}
use lib.Seq.{get_or-set_same, get_or-set_other, ext_get_or, set-set, set-get_or}
use borrow.Author.Tests.{eq-eqb}
use Rattle.sets.proofs.ListLaws.{length_table, get_d_table}
use Rattle.graphs.specs.Graph.{to}
use Rattle.graphs.specs.Acts.{Renamed}
use Rattle.graphs.proofs.GraphLaws.{to_other}
use Rattle.undo.specs.Forest.{chase, Forest, called}

-- a root stays
stay : (p : List ℕ) (k i : ℕ) → get_or p i zero ≡ i → chase p k i ≡ i
unfolding chase
stay p zero i e = refl
stay p (suc k) i e = ap (chase p k) e ∙ stay p k i e

module _ (p : List ℕ) (f : Forest p) where
  -- i steps from i are enough
  enough : (k i : ℕ) → i ≤ k → chase p (suc k) i ≡ chase p k i
  unfolding chase
  enough zero i h = let e : get_or p i zero ≡ i = omega (arith, f.falls i) in e
  enough (suc k) i h = go (dec_lt k (get_or p i zero)) (enough k (get_or p i zero))
    where
      go : Dec (k < get_or p i zero) → (get_or p i zero ≤ k → chase p (suc k) (get_or p i zero) ≡ chase p k (get_or p i zero))
          → chase p (suc k) (get_or p i zero) ≡ chase p k (get_or p i zero)
      go (yes b) g =
          let e : get_or p i zero ≡ i = omega (arith, f.falls i) in
          ap (chase p (suc k)) e ∙ stay p (suc k) i e ∙ sym (ap (chase p k) e ∙ stay p k i e)
      go (no q) g = g (omega arith)

  below : (k i : ℕ) → chase p k i ≤ i
  unfolding chase
  below zero i = omega arith
  below (suc k) i = let a = below k (get_or p i zero) in omega (arith, f.falls i)

  one_step : (k i : ℕ) → chase p (suc k) i ≡ chase p k (get_or p i zero)
  unfolding chase
  one_step k i = refl

  pub called_long : length (called p) ≡ length p
  unfolding called
  called_long = length_table (chase p (length p)) (length p)

  pub called_at : (i : ℕ) → i < length p → get_or (called p) i zero ≡ chase p (length p) i
  unfolding called
  called_at i h = get_d_table (chase p (length p)) (length p) zero i h

  -- an entry has its name's root
  next : (i : ℕ) → i < length p → chase p (length p) (get_or p i zero) ≡ chase p (length p) i
  next i h = sym (one_step (length p) i) ∙ enough (length p) i (omega arith)

  pub called_next : (i : ℕ) → i < length p → get_or (called p) (get_or p i zero) zero ≡ get_or (called p) i zero
  called_next i h = called_at (get_or p i zero) (omega (arith, f.falls i)) ∙ next i h ∙ sym (called_at i h)

  pub called_falls : (i : ℕ) → i < length p → get_or (called p) i zero ≤ i
  called_falls i h = omega (arith, called_at i h, below (length p) i)

  -- who stands for itself is a root, and a root stands for itself
  pub called_root : (i : ℕ) → i < length p → get_or (called p) i zero ≡ i → get_or p i zero ≡ i
  called_root i h e = omega (arith, e, called_at i h, next i h, below (length p) (get_or p i zero), f.falls i)

  pub root_called : (i : ℕ) → i < length p → get_or p i zero ≡ i → get_or (called p) i zero ≡ i
  root_called i h e = called_at i h ∙ stay p (length p) i e

  -- names that are roots already
  pub called_settled : ((i : ℕ) → i < length p → get_or p (get_or p i zero) zero ≡ get_or p i zero) → called p ≡ p
  called_settled g =
      ext_get_or zero (called p) p called_long
      (λ i b. let h : i < length p = omega (arith, called_long) in
      sym (called_next i h) ∙ root_called (get_or p i zero) (omega (arith, f.falls i)) (g i h))

module _ (p : List ℕ) (f : Forest p) (u v : ℕ) (b : u < v) (few : v < length p) (root-u : get_or p u zero ≡ u) (root-v : get_or p v zero ≡ v) where
  abbrev new : List ℕ
  new = set p v u

  at_v : get_or new v zero ≡ u
  at_v = get_or-set_same p v u zero few

  other : (i : ℕ) → i ≢ v → get_or new i zero ≡ get_or p i zero
  other i q = get_or-set_other p v i u zero q

  pub forest_merged : Forest new
  forest_merged = record { falls = λ i. go i (ℕ_discrete i v) }
    where
      go : (i : ℕ) → Dec (i ≡ v) → get_or new i zero ≤ i
      go i (yes e) = let z : get_or new i zero ≡ u = ap (λ (j : ℕ). get_or new j zero) e ∙ at_v in omega arith
      go i (no q) = let z = f.falls i in let w = other i q in omega arith

  to_v : to u v v ≡ u
  to_v = ap (λ (t : Bool). cond t u v) (eq-eqb v v refl)

  chased : (k i : ℕ) → i ≤ k → chase new k i ≡ to u v (chase p k i)
  unfolding chase
  chased zero i h = sym (to_other u v i (λ e. absurd (let z : ⊥ = omega arith in z)))
  chased (suc k) i h = go (ℕ_discrete i v) (dec_lt k (get_or p i zero)) (chased k (get_or p i zero))
    where
      go : Dec (i ≡ v) → Dec (k < get_or p i zero) → (get_or p i zero ≤ k → chase new k (get_or p i zero) ≡ to u v (chase p k (get_or p i zero)))
          → chase new k (get_or new i zero) ≡ to u v (chase p k (get_or p i zero))
      go (yes e) d g =
          ap (chase new k) (ap (λ (j : ℕ). get_or new j zero) e ∙ at_v) ∙ stay new k u (other u (λ z. absurd (let y : ⊥ = omega arith in y)) ∙ root-u)
          ∙ sym (ap (to u v) (ap (chase p k) (ap (λ (j : ℕ). get_or p j zero) e ∙ root-v) ∙ stay p k v root-v) ∙ to_v)
      go (no q) (yes c) g =
          let e : get_or p i zero ≡ i = omega (arith, f.falls i) in
          ap (chase new k) (other i q ∙ e) ∙ stay new k i (other i q ∙ e) ∙ sym (ap (to u v) (ap (chase p k) e ∙ stay p k i e) ∙ to_other u v i q)
      go (no q) (no c) g = ap (chase new k) (other i q) ∙ g (omega arith)

  -- v points to u: all that led to v lead to u
  pub renamed_is : Renamed (called p) u v (called new)
  renamed_is = record { long = called_long new forest_merged ∙ length-set p v u ∙ sym (called_long p f); is = λ i. go i (dec_lt i (length p)) }
    where
      long : length new ≡ length p
      long = length-set p v u

      go : (i : ℕ) → Dec (i < length p) → get_or (called new) i zero ≡ to u v (get_or (called p) i zero)
      go i (yes h) =
          called_at new forest_merged i (omega (arith, long)) ∙ ap (λ (k : ℕ). chase new k i) long ∙ chased (length p) i (omega arith)
          ∙ ap (to u v) (sym (called_at p f i h))
      go i (no q) =
          get_or-eq_default (called new) zero (omega (arith, called_long new forest_merged, long))
          ∙ sym (ap (to u v) (get_or-eq_default (called p) zero (omega (arith, called_long p f))) ∙ to_other u v zero (λ e. absurd (let z : ⊥ = omega arith in z)))

  -- v points to itself again
  pub names_back : set new v v ≡ p
  names_back = set-set p v u v ∙ ap (set p v) (sym root-v) ∙ set-get_or p v zero
