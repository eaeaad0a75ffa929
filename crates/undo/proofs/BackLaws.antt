-- Rows that are changed and changed back are the rows, number by number. Assumes nothing.
use mathlib.Core.Path.{◌≡◌, refl, sym, ap, ◌∙◌, subst, subst₂}
use mathlib.Core.Logic.{◌≢◌, ◌⊎◌, inl, inr}
use mathlib.Core.Bool.{Bool, true, false, not, ◌&&◌, ◌||◌, cond}
use mathlib.Core.List.{List}
use Prim.Native.Nat.{ℕ, zero, ◌<◌}
use native.Mathlib.Decide.{ℕ_discrete}
use native.Mathlib.Omega.{arith}
use lib.Dec.{T, eqb, eqb→eq}
use lib.ListN.{length, get_or, set, length-set}
use lib.Seq.{get_or-set_same, get_or-set_other, ext_get_or}
use borrow.Author.Tests.{ne_eqb}
use Rattle.sets.specs.Set.{has, IsWith, IsJoin, IsMeet, IsLess}
use Rattle.sets.proofs.TestLaws.{and_l, and_r, and_t, or_false, or_assoc, or_cases, t_not, eqb_same, eqb_turn}
use Rattle.sets.proofs.SetLaws.{same_members}
use Rattle.wide.specs.Form.{Fits, Marked, Unmarked}
use Rattle.wide.proofs.FormLaws.{meet_fits, less_fits}
use Rattle.graphs.specs.Held.{view, node, holding}
use Rattle.graphs.specs.Acts.{PairAt, SeparatedAt, Linked}
use Rattle.graphs.specs.declared.Node.{Node}
use Rattle.graphs.proofs.HeldLaws.{live_held, merged_is, separated_is}
use Rattle.graphs.proofs.SplitLaws.{chosen_differ}
use Rattle.undo.specs.Back.{Unlinked, Undone, Merges, hit, Cut, Separates}

-- ---- rows with the same bits are the same

pub rows_same : (a b : List ℕ) → length a ≡ length b → ((x y : ℕ) → has (get_or a x zero) y ≡ has (get_or b x zero) y) → a ≡ b
rows_same a b e f = ext_get_or zero a b e (λ i h. same_members (get_or a i zero) (get_or b i zero) (f i))

-- what is undone in the same way is the same
pub undone_same : (rows : List ℕ) (u old near : ℕ) (a b : List ℕ) → Undone rows u old near a → Undone rows u old near b → a ≡ b
undone_same rows u old near a b p q = rows_same a b (p.long ∙ sym q.long) (λ x y. p.is x y ∙ sym (q.is x y))

-- the old row is put back
pub undone_is : (rows mid : List ℕ) (u old near : ℕ) → u < length rows → Unlinked rows u near mid → Undone rows u old near (set mid u old)
undone_is rows mid u old near b l = record { long = length-set mid u old ∙ l.long; is = λ x y. go x y (ℕ_discrete x u) }
  where
    go : (x y : ℕ) → Dec (x ≡ u) → has (get_or (set mid u old) x zero) y ≡ cond (eqb x u) (has old y) (has (get_or rows x zero) y && not (has near x && eqb u y))
    go x y (yes e) = rw (e, get_or-set_same mid u old zero (omega (arith, l.long)), eqb_same u)
    go x y (no q) = rw (get_or-set_other mid u x old zero q, ne_eqb x u q) (l.is x y)

-- ---- what is added and was not there can be taken away

added_back : (a b : Bool) → (T b → ¬ T a) → a ≡ ((a || b) && not b)
added_back true true f = absurd (f tt tt)
added_back true false f = refl
added_back false true f = refl
added_back false false f = refl

module _ {cap : ℕ} (h : Node) (u v : ℕ) (p : PairAt cap h u v) where
  abbrev row : ℕ → ℕ
  row x = get_or h.rows x zero

  lu : T (has h.live u)
  lu = live_held h p.held u p.chosen.live_u

  lv : T (has h.live v)
  lv = live_held h p.held v p.chosen.live_v

  -- edges of live vertices go both ways
  turned : (x y : ℕ) → T (has h.live x) → T (has h.live y) → T (has (row x) y) → T (has (row y) x)
  turned x y a b t =
      let e = p.held.good.symm x y (and_t (has h.live x) (has h.live y && has (row x) y) a (and_t (has h.live y) (has (row x) y) b t)) in
      and_r (has h.live x) (has (row y) x) (and_r (has h.live y) (has h.live x && has (row y) x) e)

  free_uv : ¬ T (has (row u) v)
  free_uv t = p.chosen.free (and_t (has h.live u) (has h.live v && has (row u) v) lu (and_t (has h.live v) (has (row u) v) lv t))

  -- neither had the other for a neighbour
  free : (x y : ℕ) → T (hit u v x y) → ¬ T (has (row x) y)
  free x y t k = go (or_cases (eqb x u && eqb y v) (eqb x v && eqb y u) t)
    where
      at : (s w : ℕ) → T (eqb x s && eqb y w) → T (has (row s) w)
      at s w e =
          subst (λ (z : ℕ). T (has (row z) w)) (eqb→eq x s (and_l (eqb x s) (eqb y w) e))
          (subst (λ (z : ℕ). T (has (row x) z)) (eqb→eq y w (and_r (eqb x s) (eqb y w) e)) k)

      go : T (eqb x u && eqb y v) ⊎ T (eqb x v && eqb y u) → ⊥
      go (inl e) = free_uv (at u v e)
      go (inr e) = free_uv (turned v u lv lu (at v u e))

  -- who gets u for a neighbour had it not
  module _ (beside near : ℕ) (is-beside : IsMeet (row v) h.live beside) (is-near : IsLess beside (row u) near) where
    near_free : (x : ℕ) → T (has near x) → ¬ T (has (row x) u)
    near_free x t k =
        let s = subst T (is-near x) t in
        let lx = and_r (has (row v) x) (has h.live x) (subst T (is-beside x) (and_l (has beside x) (not (has (row u) x)) s)) in
        t_not (has (row u) x) (and_r (has beside x) (not (has (row u) x)) s) (turned x u lx lu k)

    pub merged_back : (linked : List ℕ) (joined : ℕ) → Linked h.rows u near linked → Undone (set linked u joined) u (row u) near h.rows
    merged_back linked joined l = record { long = sym (length-set linked u joined ∙ l.long); is = λ x y. go x y (ℕ_discrete x u) }
      where
        go : (x y : ℕ) → Dec (x ≡ u) → has (row x) y ≡ cond (eqb x u) (has (row u) y) (has (get_or (set linked u joined) x zero) y && not (has near x && eqb u y))
        go x y (yes e) = rw (e, eqb_same u)
        go x y (no q) =
            rw (ne_eqb x u q, get_or-set_other linked u x joined zero q, l.is x y)
            (added_back (has (row x) y) (has near x && eqb u y)
            (λ t k. near_free x (and_l (has near x) (eqb u y) t) (subst (λ (z : ℕ). T (has (row x) z)) (sym (eqb→eq u y (and_r (has near x) (eqb u y) t))) k)))

-- u's row becomes the two rows joined, and near get u for a neighbour
module _ (cap live : ℕ) (rows linked r : List ℕ) (u v old other beside near joined : ℕ) (is-old : old ≡ get_or rows u zero) (is-other : other ≡ get_or rows v zero)
    (is-beside : IsMeet other live beside) (is-near : IsLess beside old near) (is-linked : Linked rows u near linked) (is-joined : IsJoin old other joined)
    (is-rows : r ≡ set linked u joined) where
  at_v : IsMeet (get_or rows v zero) live beside
  at_v = subst (λ (k : ℕ). IsMeet k live beside) is-other is-beside

  at_u : IsLess beside (get_or rows u zero) near
  at_u = subst (λ (k : ℕ). IsLess beside k near) is-old is-near

  both_rows : IsJoin (get_or rows u zero) (get_or rows v zero) joined
  both_rows = subst₂ (λ (k l : ℕ). IsJoin k l joined) is-old is-other is-joined

  pub merges_is : Fits cap old → Fits cap other → Merges cap live rows u v r old near
  merges_is f g = record {
    is = λ m left names p without renamed.
        merged_is (holding live rows m) (node m.n left r names) u v p beside near linked joined refl at_v at_u is-linked both_rows is-rows renamed without;
    back = λ m p.
        subst₂ (λ (l : List ℕ) (k : ℕ). Undone l u k near rows) (sym is-rows) (sym is-old)
        (merged_back (holding live rows m) u v p beside near at_v at_u linked joined is-linked);
    old_fits = f;
    near_fits = less_fits cap beside old near (meet_fits cap other live beside g is-beside) is-near;
  }

-- ---- one edge, added and taken away

-- both places of the edge of u and v
places : (u v x y : ℕ) → (eqb u x && eqb v y || eqb v x && eqb u y) ≡ hit u v x y
places u v x y = rw (eqb_turn u x, eqb_turn v y, eqb_turn v x, eqb_turn u y)

pub cut_is : (rows mid r : List ℕ) (u v : ℕ) → Unmarked rows u v mid → Unmarked mid v u r → Cut rows u v r
cut_is rows mid r u v a b = record {
  long = b.long ∙ a.long;
  is = λ x y.
      b.is x y ∙ ap (λ (t : Bool). t && not (eqb v x && eqb u y)) (a.is x y) ∙ neither (has (get_or rows x zero) y) (eqb u x && eqb v y) (eqb v x && eqb u y)
      ∙ ap (λ (t : Bool). has (get_or rows x zero) y && not t) (places u v x y);
}
  where
    neither : (a b c : Bool) → ((a && not b) && not c) ≡ (a && not (b || c))
    neither true true c = refl
    neither true false c = refl
    neither false b c = refl

-- a marked row, as the number that it has become
module _ (rows r : List ℕ) (x u : ℕ) (m : Marked rows x u r) where
  one_row : (a : ℕ) → a ≢ x → get_or r a zero ≡ get_or rows a zero
  one_row a q = same_members (get_or r a zero) (get_or rows a zero) (λ b. m.is a b ∙ rw (ne_eqb x a (λ e. q (sym e))) (or_false (has (get_or rows a zero) b)))

  marked_row : IsWith (get_or rows x zero) u (get_or r x zero)
  marked_row b = m.is x b ∙ ap (λ (t : Bool). has (get_or rows x zero) b || (t && eqb u b)) (eqb_same x)

  marked_set : x < length rows → r ≡ set rows x (get_or r x zero)
  marked_set l = ext_get_or zero r (set rows x (get_or r x zero)) (m.long ∙ sym (length-set rows x (get_or r x zero))) (λ a b. go a (ℕ_discrete a x))
    where
      go : (a : ℕ) → Dec (a ≡ x) → get_or r a zero ≡ get_or (set rows x (get_or r x zero)) a zero
      go a (yes e) = rw (e, get_or-set_same rows x (get_or r x zero) zero l)
      go a (no q) = one_row a q ∙ sym (get_or-set_other rows x a (get_or r x zero) zero q)

module _ (cap : ℕ) (rows mid r : List ℕ) (u v : ℕ) (a : Marked rows u v mid) (b : Marked mid v u r) where
  parted : SeparatedAt cap rows u v r
  parted m p =
      separated_is (holding m.live rows m) (holding m.live r m) u v p (get_or mid u zero) (get_or r v zero) refl (marked_row rows mid u v a)
      (subst (λ (k : ℕ). IsWith k u (get_or r v zero)) (one_row rows mid u v a v (λ e. differ (sym e))) (marked_row mid r v u b))
      (marked_set mid r v u b (omega (arith, a.long, inside))
      ∙ ap (λ l. set l v (get_or r v zero)) (marked_set rows mid u v a (omega (arith, inside, p.chosen.less)))) refl refl
    where
      differ : u ≢ v
      differ = chosen_differ m.n (view (holding m.live rows m)) u v p.chosen

      inside : v < length rows
      inside = omega (arith, p.held.rows_long, p.chosen.live_v.below, p.held.few)

  pub separates_is : Separates cap rows u v r
  separates_is = record {
    is = parted;
    back = λ m p. record {
      long = sym (b.long ∙ a.long);
      is = λ x y.
          added_back (has (get_or rows x zero) y) (hit u v x y) (free (holding m.live rows m) u v p x y)
          ∙ ap (λ (t : Bool). t && not (hit u v x y)) (sym (more x y));
    };
  }
    where
      more : (x y : ℕ) → has (get_or r x zero) y ≡ (has (get_or rows x zero) y || hit u v x y)
      more x y =
          b.is x y ∙ ap (λ (t : Bool). t || (eqb v x && eqb u y)) (a.is x y)
          ∙ sym (or_assoc (has (get_or rows x zero) y) (eqb u x && eqb v y) (eqb v x && eqb u y)) ∙ ap (λ (t : Bool). has (get_or rows x zero) y || t) (places u v x y)
