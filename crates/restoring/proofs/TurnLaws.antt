-- Laws of going through a set's members, lowest first, with a count: places, and the shrunk list's rows. Assumes nothing.
use mathlib.Core.Path.{◌≡◌, refl, sym, ap, ap₂, ◌∙◌, subst}
use mathlib.Core.Bool.{Bool, true, false, not, ◌&&◌, ◌||◌}
use mathlib.Core.List.{List, ◌++◌}
use Prim.Native.Nat.{ℕ, ◌+◌, ◌≤◌, ◌<◌}
use native.Mathlib.Numerals.{add-one}
use native.Mathlib.Decide.{ℕ_discrete, dec_lt}
use native.Mathlib.Omega.{arith}
use borrow.Author.Tests.{lt-ltb, le-ltb, eq-eqb, ne_eqb}
use lib.Dec.{T, eqb, ltb}
use lib.ListN.{length, get_or, set, drop, length-set, get_or-append}
use lib.Seq.{drop-cons, get_or-drop, get_or-set_same, get_or-set_other}
use Rattle.sets.specs.Lists.{members}
use Rattle.sets.specs.Set.{has, size, IsWith, IsWithout, IsMeet, IsLowest}
use Rattle.sets.proofs.TestLaws.{and_l, and_r, and_true, or_false, T→true}
use Rattle.sets.proofs.MemberLaws.{members_count, members_no_dup, In-members, members-In}
use Rattle.sets.proofs.SetLaws.{has_none, size_without, without_is, members_cons}
use Rattle.clashes.specs.Labels.{place}
use Rattle.clashes.specs.Matrix.{matrix}
use Rattle.clashes.specs.Divisions.{at}
use Rattle.clashes.proofs.NumberLaws.{place_in, place_at}
use Rattle.graphs.proofs.LoopLaws.{without_kept, kept_without}
use Rattle.shrink.specs.Rules.{among}
use Rattle.shrink.proofs.Places.{at-In, place_of}
use Rattle.restoring.specs.Rows.{names, Placed, Packed, Small}
use Rattle.removing.proofs.ShareLaws.{size_nobody}

module _ (cap s : ℕ) where
  abbrev l : List ℕ
  l = names cap s

  pub names_long : length l ≡ size cap s
  names_long = members_count (has s) cap

  -- ---- places

  pub name_in : (j : ℕ) → j < size cap s → (at l j < cap) × T (has s (at l j))
  name_in j b = In-members (has s) cap (at l j) (at-In l j (omega (arith, names_long)))

  pub name_place : (j : ℕ) → j < size cap s → place ℕ_discrete (at l j) l ≡ j
  name_place j b = place_of l (members_no_dup (has s) cap) j (omega (arith, names_long))

  module _ (w : ℕ) (b : w < cap) (h : T (has s w)) where
    pub place_below : place ℕ_discrete w l < size cap s
    place_below = omega (arith, place_in ℕ_discrete w l (members-In (has s) cap w b h), names_long)

    pub place_name : at l (place ℕ_discrete w l) ≡ w
    place_name = place_at ℕ_discrete w 0 l (members-In (has s) cap w b h)

  -- ---- i members have been gone through, and those of `left` have not

  pub record Turned (left i : ℕ) : Type 0 where
    pub within : (x : ℕ) → T (has left x) → T (has s x)
    pub rest : members (has left) cap ≡ drop i l
    pub most : i + size cap left ≡ size cap s

  pub turned_start : Turned s 0
  turned_start = record { within = λ x t. t; rest = refl; most = omega arith }

  -- somebody is left while fewer than all are gone through, and then nobody
  pub turned_some : (left i : ℕ) → Turned left i → i < size cap s → left ≡ 0 → ⊥
  turned_some left i t b e = omega (arith, t.most, size_nobody cap left e)

  pub turned_nobody : (left i : ℕ) → Turned left i → size cap s ≤ i → (x : ℕ) → x < cap → ¬ T (has left x)
  turned_nobody left i t b x c h = omega (arith, t.most, size_without cap left x _ c h (without_is left x))

  module _ (left i w : ℕ) (t : Turned left i) (low : IsLowest cap left w) where
    here : T (has s w)
    here = t.within w low.member

    pub turn_few : i < size cap s
    turn_few = omega (arith, t.most, size_without cap left w _ low.below low.member (without_is left w))

    inside : i < length l
    inside = omega (arith, turn_few, names_long)

    pub turn_at : at l i ≡ w
    turn_at =
        ap (λ (k : ℕ). at l k) (omega arith) ∙ sym (get_or-drop i l 0 0) ∙ ap (λ (m : List ℕ). at m 0) (sym t.rest)
        ∙ ap (λ (m : List ℕ). at m 0) (members_cons cap left w _ low (without_is left w))

    pub turn_place : place ℕ_discrete w l ≡ i
    turn_place = ap (λ (x : ℕ). place ℕ_discrete x l) (sym turn_at) ∙ name_place i turn_few

    module _ (left' : ℕ) (r : IsWithout left w left') where
      pub turned_next : Turned left' (i + 1)
      turned_next = record {
        within = λ x u. t.within x (without_kept left w left' x r u).0;
        rest =
            ap (drop 1) (sym (members_cons cap left w left' low r) ∙ t.rest ∙ drop-cons l i 0 inside)
            ∙ ap (λ (k : ℕ). drop k l) (sym (add-one i));
        most = omega (arith, t.most, size_without cap left w left' low.below low.member r);
      }

  -- ---- the places, noted

  pub record Placing (out : List ℕ) (left i : ℕ) : Type 0 where
    pub long : length out ≡ cap
    pub turned : Turned left i
    pub placed : (x : ℕ) → x < cap → T (has s x) → ¬ T (has left x) → at out x ≡ place ℕ_discrete x l

  pub placing_next : (out : List ℕ) (left i w left' : ℕ) → Placing out left i → IsLowest cap left w → IsWithout left w left'
      → Placing (set out w i) left' (i + 1)
  placing_next out left i w left' k low r = record {
    long = length-set out w i ∙ k.long;
    turned = turned_next left i w k.turned low left' r;
    placed = λ x b h q. go x b h q (ℕ_discrete x w);
  }
    where
      go : (x : ℕ) → x < cap → T (has s x) → ¬ T (has left' x) → Dec (x ≡ w) → at (set out w i) x ≡ place ℕ_discrete x l
      go x b h q (yes e) =
          ap (at (set out w i)) e ∙ get_or-set_same out w i 0 (omega (arith, k.long, low.below))
          ∙ sym (turn_place left i w k.turned low) ∙ ap (λ (y : ℕ). place ℕ_discrete y l) (sym e)
      go x b h q (no d) = get_or-set_other out w x i 0 d ∙ k.placed x b h (λ t. q (kept_without left w left' x r t d))

  pub placing_end : (out : List ℕ) (left i : ℕ) → Placing out left i → size cap s ≤ i → Placed cap s out
  placing_end out left i k e x b h = k.placed x b h (turned_nobody left i k.turned e x b)

  -- ---- one row: the places of those who are gone through

  module _ (row : ℕ) where
    pub record Packing (out left : ℕ) : Type 0 where
      pub within : (x : ℕ) → T (has left x) → T (has row x) × T (has s x)
      pub is : (j : ℕ) → has out j ≡ (ltb j (size cap s) && (has row (at l j) && not (has left (at l j))))

    pub packing_start : (left : ℕ) → IsMeet row s left → Packing 0 left
    packing_start left m = record {
      within = λ x t. let u = subst T (m x) t in (and_l (has row x) (has s x) u, and_r (has row x) (has s x) u);
      is = λ j. has_none j ∙ go j (dec_lt j (size cap s));
    }
      where
        never : (a b : Bool) → b ≡ true → false ≡ (a && not (a && b))
        never true true e = refl
        never false b e = refl
        never true false e = e

        go : (j : ℕ) → Dec (j < size cap s) → false ≡ (ltb j (size cap s) && (has row (at l j) && not (has left (at l j))))
        go j (yes b) =
            never (has row (at l j)) (has s (at l j)) (T→true (has s (at l j)) (name_in j b).1)
            ∙ ap₂ (λ (t u : Bool). t && (has row (at l j) && not u)) (sym (lt-ltb j (size cap s) b)) (sym (m (at l j)))
        go j (no q) = ap (λ (t : Bool). t && (has row (at l j) && not (has left (at l j)))) (sym (le-ltb j (size cap s) (omega arith)))

    pub packing_next : (out left w left' out' i : ℕ) → Packing out left → IsLowest cap left w → IsWithout left w left' → i ≡ place ℕ_discrete w l
        → IsWith out i out' → Packing out' left'
    packing_next out left w left' out' i k low r e a = record {
      within = λ x t. k.within x (without_kept left w left' x r t).0;
      is = λ j. a j ∙ ap (λ (t : Bool). t || eqb i j) (k.is j) ∙ go j (dec_lt j (size cap s)) (ℕ_discrete i j);
    }
      where
        both : T (has row w) × T (has s w)
        both = k.within w low.member

        i_below : i < size cap s
        i_below = omega (arith, place_below w low.below both.1)

        go : (j : ℕ) → Dec (j < size cap s) → Dec (i ≡ j)
            → ((ltb j (size cap s) && (has row (at l j) && not (has left (at l j)))) || eqb i j)
            ≡ (ltb j (size cap s) && (has row (at l j) && not (has left' (at l j))))
        go j (yes b) (yes q) = on_w (at l j) (ap (at l) (sym q ∙ e) ∙ place_name w low.below both.1)
          where
            -- j is w's place
            on_w : (y : ℕ) → y ≡ w → ((ltb j (size cap s) && (has row y && not (has left y))) || eqb i j)
                ≡ (ltb j (size cap s) && (has row y && not (has left' y)))
            on_w y z = rw z
                (ap₂ (λ (t u : Bool). (t && (has row w && not (has left w))) || u) (lt-ltb j (size cap s) b) (eq-eqb i j q)
                ∙ or_true (has row w && not (has left w))
                ∙ sym (ap₂ (λ (t u : Bool). t && (u && not (has left' w))) (lt-ltb j (size cap s) b) (T→true (has row w) both.0) ∙ ap not gone))
              where
                or_true : (t : Bool) → (t || true) ≡ true
                or_true true = refl
                or_true false = refl

                gone : has left' w ≡ false
                gone = r w ∙ ap (λ (t : Bool). has left w && not t) (eq-eqb w w refl) ∙ and_false (has left w)
                  where
                    and_false : (t : Bool) → (t && false) ≡ false
                    and_false true = refl
                    and_false false = refl
        go j (yes b) (no q) =
            ap (λ (t : Bool). (ltb j (size cap s) && (has row (at l j) && not (has left (at l j)))) || t) (ne_eqb i j q)
            ∙ or_false (ltb j (size cap s) && (has row (at l j) && not (has left (at l j))))
            ∙ ap (λ (t : Bool). ltb j (size cap s) && (has row (at l j) && not t)) (sym stays)
          where
            stays : has left' (at l j) ≡ has left (at l j)
            stays =
                r (at l j)
                ∙ ap (λ (t : Bool). has left (at l j) && not t)
                (ne_eqb w (at l j) (λ z. q (e ∙ ap (λ (y : ℕ). place ℕ_discrete y l) z ∙ name_place j b)))
                ∙ and_true (has left (at l j))
        go j (no c) d =
            ap₂ (λ (t u : Bool). (t && (has row (at l j) && not (has left (at l j)))) || u) (le-ltb j (size cap s) (omega arith))
            (ne_eqb i j (λ z. let y : ⊥ = omega (arith, i_below) in y))
            ∙ sym (ap (λ (t : Bool). t && (has row (at l j) && not (has left' (at l j)))) (le-ltb j (size cap s) (omega arith)))

    pub packing_end : (out left : ℕ) → Packing out left → left ≡ 0 → Packed cap row s out
    packing_end out left k e j =
        k.is j
        ∙ ap (λ (t : Bool). ltb j (size cap s) && (has row (at l j) && not t)) (ap (λ (m : ℕ). has m (at l j)) e ∙ has_none (at l j))
        ∙ ap (λ (t : Bool). ltb j (size cap s) && t) (and_true (has row (at l j)))

  -- ---- all rows

  module _ (rows : List ℕ) where
    pub record Filling (out : List ℕ) (left i : ℕ) : Type 0 where
      pub turned : Turned left i
      pub is : (x j : ℕ) → x < i → matrix out x j ≡ (ltb j (size cap s) && among l (matrix rows) x j)

    pub filling_start : (out : List ℕ) → Filling out s 0
    filling_start out = record { turned = turned_start; is = λ x j b. absurd (let z : ⊥ = omega arith in z) }

    pub filling_next : (out : List ℕ) (left i w left' r : ℕ) → Filling out left i → IsLowest cap left w → IsWithout left w left'
        → Packed cap (get_or rows w 0) s r
        → i < length out → Filling (set out i r) left' (i + 1)
    filling_next out left i w left' r k low out-w p room = record {
      turned = turned_next left i w k.turned low left' out-w;
      is = λ x j b. go x j b (ℕ_discrete x i);
    }
      where
        go : (x j : ℕ) → x < i + 1 → Dec (x ≡ i) → matrix (set out i r) x j ≡ (ltb j (size cap s) && among l (matrix rows) x j)
        go x j b (yes e) =
            ap (λ (y : ℕ). has y j) (ap (λ (z : ℕ). get_or (set out i r) z 0) e ∙ get_or-set_same out i r 0 room) ∙ p j
            ∙ ap (λ (y : ℕ). ltb j (size cap s) && matrix rows y (at l j)) (sym (turn_at left i w k.turned low) ∙ ap (at l) (sym e))
        go x j b (no q) = ap (λ (y : ℕ). has y j) (get_or-set_other out i x r 0 q) ∙ k.is x j (omega arith)

    -- behind the rows that are filled in stands whatever stands
    pub filling_end : (out behind : List ℕ) (left i : ℕ) → Filling out left i → size cap s ≤ i → length (out ++ behind) ≡ cap → size cap s ≤ length out
        → Small cap rows s (out ++ behind)
    filling_end out behind left i k b e f = record {
      long = e;
      is = λ x j c. ap (λ (y : ℕ). has y j) (get_or-append out behind 0 x (omega arith)) ∙ k.is x j (omega arith);
    }
