-- Laws of groups as sets: somebody joins a group, the lowest group that admits somebody, those who stayed are seated, groups are numbered. Assumes
-- nothing.
use mathlib.Core.Path.{◌≡◌, refl, sym, ap, ap₂, ◌∙◌, subst, subst₂}
use mathlib.Core.Logic.{◌≢◌}
use mathlib.Core.Bool.{Bool, true, false, not, ◌&&◌, ◌||◌}
use mathlib.Core.List.{List, [], ◌∷◌, ◌++◌, append_assoc}
use Prim.Native.Nat.{ℕ, zero, suc, ◌+◌, ◌^◌, ◌≤◌, ◌<◌}
use native.Mathlib.Numerals.{add-one}
use native.Mathlib.Decide.{ℕ_discrete, dec_lt}
use native.Mathlib.Omega.{arith}
use borrow.Author.Tests.{ne_eqb}
use lib.Dec.{T, eqb, ltb, eqb→eq, ltb→lt, lt→ltb, T_not, not_T}
use lib.ListN.{length, get_or, set, drop, replicate, length-set, length-append, length-drop, get_or-replicate, get_or-append}
use lib.Seq.{drop-cons, set_at, get_or-set_same, get_or-set_other}
use Rattle.sets.specs.Set.{has, size, IsWith, IsWithout, IsLowest}
use Rattle.sets.proofs.TestLaws.{and_l, and_r, and_t, and_true, or_false, eqb_of, T?, T→true, T→false, all_get, all_make}
use Rattle.sets.proofs.MemberLaws.{lowest_is, lowest_none}
use Rattle.sets.proofs.SetLaws.{has_none, has_beyond}
use Rattle.clashes.specs.Labels.{place}
use Rattle.clashes.specs.Matrix.{matrix, FirstRow}
use Rattle.clashes.specs.Divisions.{at, groups}
use Rattle.clashes.proofs.DivisionLaws.{division_length}
use Rattle.graphs.proofs.GroupingLaws.{part, part_opens, part_joins, groups_opens, groups_joins}
use Rattle.graphs.proofs.LoopLaws.{kept_without, without_kept}
use Rattle.shrink.specs.Rules.{or_else}
use Rattle.shrink.specs.Back.{Seating, admits, home}
use Rattle.restoring.specs.Rows.{names}
use Rattle.restoring.specs.Seats.{Sets, Clear, Joined, Spread}
use Rattle.restoring.specs.declared.Seats.{Seats}
use Rattle.restoring.proofs.TurnLaws.{Turned, turned_start, turned_next, turned_nobody, turn_place}

-- ---- w, who was absent, joins group j

module _ (cap : ℕ) (p p' : ℕ → Bool) (group sets : List ℕ) (w j r : ℕ) where
  pub sets_into : Sets cap p group sets → w < length group → j < length sets → IsWith (at sets j) w r → ¬ T (p w) → T (p' w)
      → ((x : ℕ) → x ≢ w → p' x ≡ p x)
      → Sets cap p' (set group w j) (set sets j r)
  sets_into is b c a absent here same i x d = go (ℕ_discrete x w) (ℕ_discrete i j)
    where
      at_w : (y : ℕ) → y ≡ w → at (set group w j) y ≡ j
      at_w y e = ap (at (set group w j)) e ∙ get_or-set_same group w j 0 b

      in_j : (y : ℕ) → at (set sets j r) j ≡ r
      in_j y = get_or-set_same sets j r 0 c

      go : Dec (x ≡ w) → Dec (i ≡ j) → has (at (set sets j r) i) x ≡ (p' x && eqb (at (set group w j) x) i)
      go (yes e) (yes f) =
          T→true (has (at (set sets j r) i) x) (subst T (sym (ap (λ (y : ℕ). has y x) (ap (at (set sets j r)) f ∙ in_j 0) ∙ a x))
          (or_right (has (at sets j) x) (eqb w x) (eqb_of w x (sym e))))
          ∙ sym (T→true (p' x && eqb (at (set group w j) x) i)
          (and_t (p' x) (eqb (at (set group w j) x) i) (subst (λ (y : ℕ). T (p' y)) (sym e) here)
          (eqb_of (at (set group w j) x) i (at_w x e ∙ sym f))))
        where
          or_right : (s t : Bool) → T t → T (s || t)
          or_right true t h = tt
          or_right false t h = h
      go (yes e) (no f) =
          ap (λ (y : ℕ). has y x) (get_or-set_other sets j i r 0 f)
          ∙ T→false (has (at sets i) x) (λ t. absent (subst (λ (y : ℕ). T (p y)) e (and_l (p x) (eqb (at group x) i) (subst T (is i x d) t))))
          ∙ sym (T→false (p' x && eqb (at (set group w j) x) i)
          (λ t. f (sym (eqb→eq (at (set group w j) x) i (and_r (p' x) (eqb (at (set group w j) x) i) t)) ∙ at_w x e)))
      go (no e) (yes f) =
          ap (λ (y : ℕ). has y x) (ap (at (set sets j r)) f ∙ in_j 0) ∙ a x
          ∙ ap (λ (t : Bool). has (at sets j) x || t) (ne_eqb w x (λ z. e (sym z))) ∙ or_false (has (at sets j) x)
          ∙ ap (λ (y : ℕ). has (at sets y) x) (sym f) ∙ is i x d ∙ unmoved
        where
          unmoved : (p x && eqb (at group x) i) ≡ (p' x && eqb (at (set group w j) x) i)
          unmoved = ap₂ (λ (t : Bool) (y : ℕ). t && eqb y i) (sym (same x e)) (sym (get_or-set_other group w x j 0 e))
      go (no e) (no f) =
          ap (λ (y : ℕ). has y x) (get_or-set_other sets j i r 0 f) ∙ is i x d
          ∙ ap₂ (λ (t : Bool) (y : ℕ). t && eqb y i) (sym (same x e)) (sym (get_or-set_other group w x j 0 e))

module _ (cap : ℕ) (p p' : ℕ → Bool) (w j : ℕ) (h r : Seats) (joins : Joined w j h r) where
  pub sets_joined : Sets cap p h.group h.sets → w < length h.group → j < length h.sets → ¬ T (p w) → T (p' w) → ((x : ℕ) → x ≢ w → p' x ≡ p x)
      → Sets cap p' r.group r.sets
  sets_joined is b c absent here same =
      subst₂ (λ (g s : List ℕ). Sets cap p' g s) (sym joins.group) (sym joins.sets)
      (sets_into cap p p' h.group h.sets w j (at r.sets j) is b c joins.wider absent here same)

  pub group_long : length r.group ≡ length h.group
  group_long = ap length joins.group ∙ length-set h.group w j

  pub sets_long : length r.sets ≡ length h.sets
  sets_long = ap length joins.sets ∙ length-set h.sets j (at r.sets j)

-- nobody is in an empty group
pub sets_none : (cap : ℕ) (p : ℕ → Bool) (group : List ℕ) → ((x : ℕ) → ¬ T (p x)) → Sets cap p group (replicate cap zero)
sets_none cap p group f i x b =
    ap (λ (y : ℕ). has y x) (get_or-replicate cap i zero 0 b) ∙ has_none x
    ∙ sym (T→false (p x && eqb (at group x) i) (λ t. f x (and_l (p x) (eqb (at group x) i) t)))

-- ---- the lowest group that admits v

module _ (cap : ℕ) (rows : List ℕ) (p : ℕ → Bool) (s : Seating) (sets : List ℕ) (v : ℕ) (entries : (x : ℕ) → T (p x) → x < length rows)
    (is : Sets cap p s.group sets) where
  abbrev n : ℕ
  n = length rows

  foe : ℕ → ℕ → Bool
  foe j x = p x && (matrix rows v x && eqb (at s.group x) j)

  clear_admits : (j : ℕ) → j < cap → Clear (get_or rows v 0) (at sets j) → T (admits n (matrix rows) p s v j)
  unfolding foe
  clear_admits j b f =
      all_make n (λ x. not (foe j x)) (λ x c. not_T (foe j x) (λ t.
      let u = and_r (p x) (matrix rows v x && eqb (at s.group x) j) t in
      f x (and_l (matrix rows v x) (eqb (at s.group x) j) u)
      (subst T (sym (is j x b)) (and_t (p x) (eqb (at s.group x) j) (and_l (p x) (matrix rows v x && eqb (at s.group x) j) t)
      (and_r (matrix rows v x) (eqb (at s.group x) j) u)))))

  admits_clear : (j : ℕ) → j < cap → T (admits n (matrix rows) p s v j) → Clear (get_or rows v 0) (at sets j)
  unfolding foe
  admits_clear j b t x a c =
      let u = subst T (is j x b) c in
      let h = and_l (p x) (eqb (at s.group x) j) u in
      T_not (foe j x) (all_get n (λ x. not (foe j x)) t x (entries x h))
      (and_t (p x) (matrix rows v x && eqb (at s.group x) j) h
      (and_t (matrix rows v x) (eqb (at s.group x) j) a (and_r (p x) (eqb (at s.group x) j) u)))

  pub home_is : (j : ℕ) → s.many ≤ cap → FirstRow (λ i. Clear (get_or rows v 0) (at sets i)) s.many j → j ≡ home n (matrix rows) p s v
  home_is j b f = go (dec_lt j s.many)
    where
      go : Dec (j < s.many) → j ≡ home n (matrix rows) p s v
      go (yes c) =
          ap (or_else s.many) (sym (lowest_is (admits n (matrix rows) p s v) s.many j c (clear_admits j (omega arith) (f.here c))
          (λ i d t. f.earlier i d (admits_clear i (omega arith) t))))
      go (no q) =
          let e : j ≡ s.many = omega (arith, f.most) in
          e ∙ ap (or_else s.many) (sym (lowest_none (admits n (matrix rows) p s v) s.many
          (λ i d t. f.earlier i (omega arith) (admits_clear i (omega arith) t))))

-- ---- those who stayed are seated as c says

module _ (cap s : ℕ) (c : List ℕ) (many : ℕ) where
  -- who of s is not left
  abbrev done : ℕ → ℕ → Bool
  done left x = has s x && not (has left x)

  pub record Sitting (h : Seats) (left i : ℕ) : Type 0 where
    pub many_is : h.many ≡ many
    pub long_group : length h.group ≡ cap
    pub long_sets : length h.sets ≡ cap
    pub turned : Turned cap s left i
    pub same : (x : ℕ) → x < cap → T (has s x) → ¬ T (has left x) → at h.group x ≡ at c (place ℕ_discrete x (names cap s))
    pub held : Sets cap (done left) h.group h.sets

  pub sitting_start : (group : List ℕ) → length group ≡ cap → length (replicate cap zero) ≡ cap
      → Sitting (record { many = many; group = group; sets = replicate cap zero }) s 0
  sitting_start group a b = record {
    many_is = refl;
    long_group = a;
    long_sets = b;
    turned = turned_start cap s;
    same = λ x d h q. absurd (q h);
    held = sets_none cap (done s) group (λ x t. T_not (has s x) (and_r (has s x) (not (has s x)) t) (and_l (has s x) (not (has s x)) t));
  }

  pub sitting_next : (h r : Seats) (left i w left' : ℕ) → Sitting h left i → IsLowest cap left w → IsWithout left w left' → at c i < cap
      → Joined w (at c i) h r → Sitting r left' (i + 1)
  sitting_next h r left i w left' k low out b joins = record {
    many_is = joins.many ∙ k.many_is;
    long_group = group_long cap (done left) (done left') w (at c i) h r joins ∙ k.long_group;
    long_sets = sets_long cap (done left) (done left') w (at c i) h r joins ∙ k.long_sets;
    turned = turned_next cap s left i w k.turned low left' out;
    same = λ x d t q. ap (λ (g : List ℕ). at g x) joins.group ∙ go x d t q (ℕ_discrete x w);
    held = sets_joined cap (done left) (done left') w (at c i) h r joins k.held room (omega (arith, k.long_sets))
        (λ t. T_not (has left w) (and_r (has s w) (not (has left w)) t) low.member)
        (and_t (has s w) (not (has left' w)) (k.turned.within w low.member)
        (not_T (has left' w) (λ t. (without_kept left w left' w out t).1 refl)))
        (λ x q. ap (λ (t : Bool). has s x && not t) (out x ∙ ap (λ (t : Bool). has left x && not t) (ne_eqb w x (λ e. q (sym e)))
        ∙ and_true (has left x)));
  }
    where
      room : w < length h.group
      room = omega (arith, k.long_group, low.below)

      go : (x : ℕ) → x < cap → T (has s x) → ¬ T (has left' x) → Dec (x ≡ w)
          → at (set h.group w (at c i)) x ≡ at c (place ℕ_discrete x (names cap s))
      go x d t q (yes e) =
          ap (at (set h.group w (at c i))) e ∙ get_or-set_same h.group w (at c i) 0 room
          ∙ ap (at c) (sym (turn_place cap s left i w k.turned low) ∙ ap (λ (y : ℕ). place ℕ_discrete y (names cap s)) (sym e))
      go x d t q (no e) = get_or-set_other h.group w x (at c i) 0 e ∙ k.same x d t (λ z. q (kept_without left w left' x out z e))

  pub sitting_end : (h : Seats) (left i : ℕ) → Sitting h left i → size cap s ≤ i → s < 2 ^ cap → Spread cap s c many h
  sitting_end h left i k e small = record {
    many_is = k.many_is;
    long_group = k.long_group;
    long_sets = k.long_sets;
    group = λ x b t. k.same x b t (turned_nobody cap s left i k.turned e x b);
    sets = λ j x b. k.held j x b ∙ ap (λ (t : Bool). t && eqb (at h.group x) j) (all_done x (T? (has left x)) (dec_lt x cap));
  }
    where
      all_done : (x : ℕ) → Dec (T (has left x)) → Dec (x < cap) → done left x ≡ has s x
      all_done x (yes t) (yes b) = absurd (turned_nobody cap s left i k.turned e x b t)
      all_done x (yes t) (no q) = absurd (subst T (has_beyond cap s x small (omega arith)) (k.turned.within x t))
      all_done x (no q) b = ap (λ (t : Bool). has s x && not t) (T→false (has left x) q) ∙ and_true (has s x)

-- ---- the groups are numbered by smallest member

-- the bytes below i are the groups of the entries below i, and next is how many they are; the others are as before
pub record Numbering (group before colours : List ℕ) (next i : ℕ) : Type 0 where
  pub few : next ≤ i
  pub many : next ≡ groups 0 (part (at group) i)
  pub is : colours ≡ part (at group) i ++ drop i before

module _ (group before : List ℕ) where
  module _ (colours : List ℕ) (next i : ℕ) (k : Numbering group before colours next i) where
    -- one more is written
    write : (x : ℕ) → i < length before → set colours i x ≡ (part (at group) i ++ x ∷ []) ++ drop (i + 1) before
    write x b =
        ap (λ (l : List ℕ). set l i x) (k.is ∙ ap (λ (l : List ℕ). part (at group) i ++ l) (drop-cons before i 0 b))
        ∙ set_at (part (at group) i) (at before i) (drop (suc i) before) x i (division_length ℕ_discrete i (at group))
        ∙ ap (λ (m : ℕ). part (at group) i ++ x ∷ drop m before) (sym (add-one i))
        ∙ sym (append_assoc (part (at group) i) (x ∷ []) (drop (i + 1) before))

module _ (cap n : ℕ) (group sets : List ℕ) (held : Sets cap (λ x. ltb x n) group sets) where
  module _ (i : ℕ) (below : at group i < cap) where
    member : (x : ℕ) → T (has (at sets (at group i)) x) → (x < n) × (at group x ≡ at group i)
    member x t =
        let u = subst T (held (at group i) x below) t in (
          ltb→lt x n (and_l (ltb x n) (eqb (at group x) (at group i)) u),
          eqb→eq (at group x) (at group i) (and_r (ltb x n) (eqb (at group x) (at group i)) u),
        )

    of_group : (x : ℕ) → x < n → at group x ≡ at group i → T (has (at sets (at group i)) x)
    of_group x c e =
        subst T (sym (held (at group i) x below)) (and_t (ltb x n) (eqb (at group x) (at group i)) (lt→ltb x n c)
        (eqb_of (at group x) (at group i) e))

  pub own_group : (i : ℕ) → i < n → at group i < cap → T (has (at sets (at group i)) i)
  own_group i b below = of_group i below i b refl

  pub smallest : (i w : ℕ) → i < n → at group i < cap → IsLowest cap (at sets (at group i)) w → w ≤ i
  smallest i w b below low = go (dec_lt i w)
    where
      go : Dec (i < w) → w ≤ i
      go (yes c) = absurd (low.least i c (own_group i b below))
      go (no q) = omega arith

  module _ (before colours : List ℕ) (next i w : ℕ) (k : Numbering group before colours next i) (b : i < n) (room : i < length before)
      (below : at group i < cap)
      (low : IsLowest cap (at sets (at group i)) w) where
    pub numbering_opens : w ≡ i → Numbering group before (set colours i next) (next + 1) (i + 1)
    numbering_opens e = record {
      few = omega (arith, k.few);
      many = add-one next ∙ ap suc k.many ∙ sym (groups_opens (at group) i new) ∙ ap (λ (m : ℕ). groups 0 (part (at group) m)) (sym (add-one i));
      is = write group before colours next i k next room
          ∙ ap (λ (l : List ℕ). l ++ drop (i + 1) before)
          (ap (λ (m : ℕ). part (at group) i ++ m ∷ []) k.many ∙ sym (part_opens (at group) i new) ∙ ap (part (at group)) (sym (add-one i)));
    }
      where
        new : (j : ℕ) → j < i → at group j ≢ at group i
        new j c q = low.least j (omega arith) (of_group i below j (omega arith) q)

    pub numbering_joins : (w ≡ i → ⊥) → Numbering group before (set colours i (get_or colours w 0)) next (i + 1)
    numbering_joins q = record {
      few = omega (arith, k.few);
      many = k.many ∙ sym (groups_joins (at group) i w before_i same) ∙ ap (λ (m : ℕ). groups 0 (part (at group) m)) (sym (add-one i));
      is = write group before colours next i k (get_or colours w 0) room
          ∙ ap (λ (l : List ℕ). l ++ drop (i + 1) before)
          (ap (λ (m : ℕ). part (at group) i ++ m ∷ []) taken ∙ sym (part_joins (at group) i w before_i same)
          ∙ ap (part (at group)) (sym (add-one i)));
    }
      where
        before_i : w < i
        before_i = omega (arith, smallest i w b below low, q)

        same : at group w ≡ at group i
        same = (member i below w low.member).1

        taken : get_or colours w 0 ≡ at (part (at group) i) w
        taken =
            ap (λ (l : List ℕ). get_or l w 0) k.is ∙ get_or-append (part (at group) i) (drop i before) 0 w
            (omega (arith, division_length ℕ_discrete i (at group), before_i))
