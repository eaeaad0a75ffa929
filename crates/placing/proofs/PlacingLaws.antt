-- Laws of placings: one entry more, and which groups it can be put into. Assumes nothing.
use mathlib.Core.Path.{◌≡◌, sym, ap, ◌∙◌, subst}
use mathlib.Core.Logic.{◌≢◌}
use mathlib.Core.Bool.{Bool, not, ◌&&◌}
use mathlib.Core.List.{List, [], ◌∷◌, ◌++◌}
use Prim.Native.Nat.{ℕ, suc, ◌+◌, ◌≤◌, ◌<◌}
use native.Mathlib.Decide.{dec_lt}
use native.Mathlib.Omega.{arith}
use lib.Dec.{T, eqb, eqb→eq, not_T, T_not}
use lib.ListN.{length, length-append}
use Rattle.sets.specs.Lists.{In, keep, members}
use Rattle.sets.proofs.TestLaws.{and_l, and_r, and_t, T→true, eqb_of, all_get, all_make}
use Rattle.sets.proofs.MemberLaws.{In-members, members-In}
use Rattle.clashes.specs.Matrix.{Valid}
use Rattle.clashes.specs.Colouring.{Proper}
use Rattle.clashes.specs.Divisions.{at, Canon, groups}
use Rattle.clashes.proofs.ColouringLaws.{canon_below}
use Rattle.placing.specs.Search.{admits, choices, put}
use Rattle.placing.proofs.CanonLaws.{canon_append, canon_behind, at_front, at_next}

pub put_length : (c : List ℕ) (j : ℕ) → length (put c j) ≡ suc (length c)
put_length c j = omega (arith, length-append c (j ∷ []))

-- ---- a group admits the next entry just where the entry clashes with none of the group

module _ (clash : ℕ → ℕ → Bool) (c : List ℕ) (j : ℕ) where
  pub admits_make : ((y : ℕ) → y < length c → T (clash (length c) y) → at c y ≢ j) → T (admits clash c j)
  admits_make h =
      all_make (length c) (λ y. not (clash (length c) y && eqb (at c y) j))
      (λ y b. not_T (clash (length c) y && eqb (at c y) j)
      (λ t. h y b (and_l (clash (length c) y) (eqb (at c y) j) t) (eqb→eq (at c y) j (and_r (clash (length c) y) (eqb (at c y) j) t))))

  pub admits_get : T (admits clash c j) → (y : ℕ) → y < length c → T (clash (length c) y) → at c y ≢ j
  admits_get t y b u e =
      T_not (clash (length c) y && eqb (at c y) j) (all_get (length c) (λ y. not (clash (length c) y && eqb (at c y) j)) t y b)
      (and_t (clash (length c) y) (eqb (at c y) j) u (eqb_of (at c y) j e))

-- a new group admits every entry
new_admits : (clash : ℕ → ℕ → Bool) (c : List ℕ) → T (admits clash c (groups 0 c))
new_admits clash c = admits_make clash c (groups 0 c) (λ y b u e. let z : ⊥ = omega (arith, canon_below 0 c y b) in z)

-- so the choices are the numbers up to the new group's that admit the next entry, in their order
pub choices_are : (clash : ℕ → ℕ → Bool) (c : List ℕ) → choices clash c ≡ members (admits clash c) (suc (groups 0 c))
choices_are clash c =
    ap (λ (b : Bool). members (admits clash c) (groups 0 c) ++ keep b (groups 0 c)) (sym (T→true (admits clash c (groups 0 c)) (new_admits clash c)))

-- ---- a node of the search: the entries below length c are placed without clash, and `left` are still to be placed

module _ (n : ℕ) (clash : ℕ → ℕ → Bool) (valid : Valid n clash) where
  pub record Node (left : ℕ) (c : List ℕ) : Type 0 where
    pub numbered : Canon 0 c
    pub long : length c + left ≡ n
    pub free : Proper (length c) clash (at c)

  -- what the next entry is put into: a group or the next number, and it admits the entry
  pub chosen : (c : List ℕ) (j : ℕ) → In j (choices clash c) → (j ≤ groups 0 c) × T (admits clash c j)
  chosen c j i = let m = In-members (admits clash c) (suc (groups 0 c)) j (subst (In j) (choices_are clash c) i) in (omega arith, m.1)

  -- each placing of the next entry is a node
  pub put_node : (left : ℕ) (c : List ℕ) (j : ℕ) → Node (suc left) c → In j (choices clash c) → Node left (put c j)
  put_node left c j d i = record {
    numbered = canon_append 0 c (j ∷ []) d.numbered ((chosen c j i).0, tt);
    long = omega (arith, put_length c j, d.long);
    free = free;
  }
    where
      apart : (y : ℕ) → y < length c → T (clash (length c) y) → at c y ≢ j
      apart = admits_get clash c j (chosen c j i).1

      free : Proper (length (put c j)) clash (at (put c j))
      free x y a b u e = go (dec_lt x (length c)) (dec_lt y (length c))
        where
          last : (i : ℕ) → i < length (put c j) → ¬ (i < length c) → i ≡ length c
          last i l q = omega (arith, put_length c j)

          is_j : (i : ℕ) → i ≡ length c → at (put c j) i ≡ j
          is_j i q = ap (λ (k : ℕ). at (put c j) k) q ∙ at_next c [] j

          go : Dec (x < length c) → Dec (y < length c) → ⊥
          go (yes p) (yes q) = d.free x y p q u (sym (at_front c (j ∷ []) x p) ∙ e ∙ at_front c (j ∷ []) y q)
          go (yes p) (no q) =
              let f = last y b q in
              apart x p (subst (λ (k : ℕ). T (clash k x)) f (valid.both_ways x y (omega (arith, d.long)) (omega (arith, d.long)) u))
              (sym (at_front c (j ∷ []) x p) ∙ e ∙ is_j y f)
          go (no p) (yes q) =
              let f = last x a p in
              apart y q (subst (λ (k : ℕ). T (clash k y)) f u) (sym (at_front c (j ∷ []) y q) ∙ sym e ∙ is_j x f)
          go (no p) (no q) =
              valid.no_self x (omega (arith, last x a p, d.long)) (subst (λ (k : ℕ). T (clash x k)) (last y b q ∙ sym (last x a p)) u)

  -- a clash-free division goes on from c by one of the choices
  pub choice : (c : List ℕ) (j : ℕ) (e : List ℕ) → length (c ++ j ∷ e) ≡ n → Canon 0 (c ++ j ∷ e) → Proper n clash (at (c ++ j ∷ e))
      → In j (choices clash c)
  choice c j e l g f =
      subst (In j) (sym (choices_are clash c)) (members-In (admits clash c) (suc (groups 0 c)) j (omega (arith, (canon_behind 0 c (j ∷ e) g).0)) ok)
    where
      ok : T (admits clash c j)
      ok =
          admits_make clash c j
          (λ y b u q. f (length c) y (omega (arith, length-append c (j ∷ e))) (omega (arith, length-append c (j ∷ e))) u
          (at_next c e j ∙ sym q ∙ sym (at_front c (j ∷ e) y b)))
