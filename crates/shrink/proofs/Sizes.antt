-- Laws of how many labels a labelling has: no more than a list that has them all. Assumes nothing.
use mathlib.Core.Path.{◌≡◌, sym, subst}
use mathlib.Core.Logic.{◌⊎◌, inl, inr}
use mathlib.Core.HLevel.{Discrete}
use mathlib.Core.List.{List, []}
use Prim.Native.Nat.{ℕ, ◌≤◌, ◌<◌}
use lib.ListN.{length}
use Rattle.sets.specs.Lists.{In, table}
use Rattle.sets.proofs.ListLaws.{no_dup_le, In-table, table-In}
use Rattle.clashes.specs.Labels.{distinct}
use Rattle.clashes.specs.Colouring.{cardinality}
use Rattle.clashes.proofs.NumberLaws.{distinct_new, distinct_cases, distinct_no_dup}

module _ {A : Type 0} (same : Discrete A) where
  -- labels that are all in l
  pub cardinality_list : (n : ℕ) (f : ℕ → A) (l : List A) → ((i : ℕ) → i < n → In (f i) l) → cardinality same n f ≤ length l
  cardinality_list n f l h =
      no_dup_le (distinct same [] (table f n)) l (distinct_no_dup same [] (table f n) tt) (λ x i. go x (distinct_cases same [] (table f n) x i))
    where
      go : (x : A) → In x [] ⊎ In x (table f n) → In x l
      go x (inl b) = absurd b
      go x (inr j) = let t = table-In f n x j in subst (λ z. In z l) (sym t.2) (h t.0 t.1)

  -- labels that are all labels of g
  pub cardinality_le : (n m : ℕ) (f g : ℕ → A) → ((i : ℕ) → i < n → (j : ℕ) × (j < m) × (f i ≡ g j)) → cardinality same n f ≤ cardinality same m g
  cardinality_le n m f g h =
      cardinality_list n f (distinct same [] (table g m))
      (λ i b. let t = h i b in distinct_new same [] (table g m) (f i) (subst (λ z. In z (table g m)) (sym t.2) (In-table g m t.0 t.1)))
