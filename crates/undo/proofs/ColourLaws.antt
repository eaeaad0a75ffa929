-- Laws of the loop that numbers the groups of a forest: an entry takes its number from the one it points to. Assumes nothing.
use mathlib.Core.Path.{◌≡◌, sym, ap, ◌∙◌}
use mathlib.Core.Logic.{◌≢◌}
use mathlib.Core.List.{List, [], ◌∷◌, ◌++◌}
use Prim.Native.Nat.{ℕ, zero, suc, ◌+◌, ◌-◌, ◌≤◌, ◌<◌}
use native.Mathlib.Numerals.{add-one}
use native.Mathlib.Omega.{arith}
use lib.ListN.{length, get_or, set, take, drop, length-set, length-drop}
use lib.Seq.{take-suc-set, get_or-take, get_or-drop, get_or-set_other, ext_get_or}
use Rattle.clashes.specs.Divisions.{at, groups}
use Rattle.graphs.proofs.GroupingLaws.{part, part_opens, part_joins, groups_opens, groups_joins}
use Rattle.undo.specs.Forest.{Forest, called, Coloured}
use Rattle.undo.proofs.ForestLaws.{called_next, called_falls, root_called}

abbrev root : List ℕ → ℕ → ℕ
root p i = get_or (called p) i zero

-- the bytes below i are the groups of the entries below i, and next is how many they are; the others are as they were
pub record Numbered (p old out : List ℕ) (next i : ℕ) : Type 0 where
  pub long : length out ≡ length old
  pub few : next ≤ i
  pub many : next ≡ groups 0 (part (λ k. get_or (called p) k zero) i)
  pub is : take i out ≡ part (λ k. get_or (called p) k zero) i
  pub rest : (j : ℕ) → i ≤ j → get_or out j zero ≡ get_or old j zero

module _ (p old out : List ℕ) (next i : ℕ) (f : Forest p) (inside : i < length p) (room : i < length old) (d : Numbered p old out next i) where
  here : i < length out
  here = omega (arith, d.long)

  later : (x j : ℕ) → i + 1 ≤ j → get_or (set out i x) j zero ≡ get_or old j zero
  later x j h = get_or-set_other out i j x zero (λ e. absurd (let z : ⊥ = omega arith in z)) ∙ d.rest j (omega arith)

  -- i stands for itself: the root of no entry before it is i
  pub numbered_opens : get_or p i zero ≡ i → Numbered p old (set out i next) (next + 1) (i + 1)
  numbered_opens e = record {
    long = length-set out i next ∙ d.long;
    few = omega (arith, d.few);
    many = add-one next ∙ ap suc d.many ∙ sym (groups_opens (root p) i new) ∙ ap (λ (j : ℕ). groups 0 (part (root p) j)) (sym (add-one i));
    is = ap (λ (j : ℕ). take j (set out i next)) (add-one i) ∙ take-suc-set out i next here
        ∙ ap (λ (l : List ℕ). l ++ next ∷ []) d.is ∙ ap (λ (m : ℕ). part (root p) i ++ m ∷ []) d.many ∙ sym (part_opens (root p) i new)
        ∙ ap (part (root p)) (sym (add-one i));
    rest = later next;
  }
    where
      new : (j : ℕ) → j < i → root p j ≢ root p i
      new j c q = let z : ⊥ = omega (arith, q, called_falls p f j (omega arith), root_called p f i inside e) in z

  -- i points to an entry before it, and has its root
  pub numbered_joins : (get_or p i zero ≡ i → ⊥) → Numbered p old (set out i (get_or out (get_or p i zero) zero)) next (i + 1)
  numbered_joins q = record {
    long = length-set out i (get_or out w zero) ∙ d.long;
    few = omega (arith, d.few);
    many = d.many ∙ sym (groups_joins (root p) i w before same) ∙ ap (λ (j : ℕ). groups 0 (part (root p) j)) (sym (add-one i));
    is = ap (λ (j : ℕ). take j (set out i (get_or out w zero))) (add-one i) ∙ take-suc-set out i (get_or out w zero) here
        ∙ ap (λ (m : ℕ). take i out ++ m ∷ []) (sym (get_or-take i out w zero before)) ∙ ap (λ (l : List ℕ). l ++ at l w ∷ []) d.is
        ∙ sym (part_joins (root p) i w before same) ∙ ap (part (root p)) (sym (add-one i));
    rest = later (get_or out w zero);
  }
    where
      w : ℕ
      w = get_or p i zero

      before : w < i
      before = omega (arith, f.falls i, q)

      same : root p w ≡ root p i
      same = called_next p f i inside

-- all are numbered
pub numbered_all : (n : ℕ) (p old out : List ℕ) (next i : ℕ) → i ≡ n → Numbered p old out next i → Coloured n p old out
numbered_all n p old out next i e d = record {
  long = d.long;
  is = λ live rows. ap (λ (m : ℕ). take m out) (sym e) ∙ d.is ∙ ap (part (root p)) e;
  rest = ext_get_or zero (drop n out) (drop n old) (length-drop n out ∙ ap (λ (k : ℕ). k - n) d.long ∙ sym (length-drop n old))
      (λ j b. get_or-drop n out j zero ∙ d.rest (n + j) (omega arith) ∙ sym (get_or-drop n old j zero));
}
