-- The first round in words, where H is a set of vertices with every edge: S(v) is told by the vertices that lack one member, and two. Assumes nothing.
use mathlib.Core.Path.{◌≡◌, refl, sym, ap, ap₂, ◌∙◌, subst}
use mathlib.Core.Logic.{inl, inr, ◌≢◌}
use mathlib.Core.Bool.{Bool, true, false, not, ◌&&◌, ◌||◌}
use mathlib.Core.List.{List, [], ◌∷◌}
use Prim.Native.Nat.{ℕ, zero, suc, ◌+◌, ◌≤◌, ◌<◌}
use native.Mathlib.Nat.{le_trans, le_of_eq}
use native.Mathlib.Decide.{ℕ_discrete, dec_lt}
use native.Mathlib.Omega.{arith}
use lib.Dec.{T, eqb, leb, leb→le, le→leb}
use lib.ListN.{length, get_or}
use borrow.Author.Tests.{le-leb, lt-leb}
use Rattle.sets.specs.Lists.{In, NoDup, bit, count, all, any, upto, members}
use Rattle.sets.specs.Set.{has, IsWithout, IsMeet, IsJoin, IsLess, IsLowest}
use Rattle.sets.proofs.TestLaws.{and_l, and_r, and_t, not_t, t_not, T?, T-ext, all_get, all_make, any_get}
use Rattle.sets.proofs.ListLaws.{no_dup_le}
use Rattle.sets.proofs.MemberLaws.{members_count, members_none, In-members, members-In, members_no_dup}
use Rattle.sets.proofs.SetLaws.{has_none, same_members}
use Rattle.graphs.specs.Graph.{Graph, live}
use Rattle.graphs.specs.Held.{view, HeldAt}
use Rattle.graphs.specs.declared.Node.{Node}
use Rattle.graphs.proofs.PairLaws.{of_ne, ne_of}
use Rattle.graphs.proofs.HeldLaws.{live_below, live_fits}
use Rattle.cliques.specs.Growth.{Within}
use Rattle.cliques.proofs.WordLaws.{near_row}
use Rattle.mycielski.specs.Rounds.{Part, every_edge, of_s, offers, of_w_lem}
use Rattle.mycielski.specs.Words.{misses, LacksAt, Outside}
use Rattle.mycielski.specs.declared.Lack.{Lack}
use Rattle.mycielski.proofs.DoneLaws.{imp_get, imp_make, done, done_none, done_all, within_again, done_more, count_more}
use Rattle.mycielski.proofs.WitnessLoops.{live_among}

-- ---- counts against numbers and lists

-- at least one more: so many already, or one fewer and this one
pub leb_next : (j m : ℕ) (b : Bool) → (leb (suc j) m || (leb j m && b)) ≡ leb (suc j) (m + bit b)
leb_next j m false = none (leb (suc j) m) (leb j m) ∙ ap (leb (suc j)) (let e : m ≡ m + 0 = omega arith in e)
  where
    none : (a b : Bool) → (a || (b && false)) ≡ a
    none true b = refl
    none false true = refl
    none false false = refl
leb_next j m true = go (dec_lt m j)
  where
    go : Dec (m < j) → (leb (suc j) m || (leb j m && true)) ≡ leb (suc j) (m + 1)
    go (yes l) = rw (lt-leb (suc j) m (omega arith), lt-leb j m l) (sym (lt-leb (suc j) (m + 1) (omega arith)))
    go (no l) = rw (le-leb j m (omega arith)) (all (leb (suc j) m) ∙ sym (le-leb (suc j) (m + 1) (omega arith)))
      where
        all : (a : Bool) → (a || (true && true)) ≡ true
        all true = refl
        all false = refl

count_atleast : (cap : ℕ) (p : ℕ → Bool) (ks : List ℕ) → NoDup ks → ((x : ℕ) → In x ks → (x < cap) × T (p x)) → length ks ≤ count p (upto cap)
count_atleast cap p ks d f = le_trans (no_dup_le ks (members p cap) d (λ x i. members-In p cap x (f x i).0 (f x i).1)) (le_of_eq (members_count p cap))

count_atmost : (cap : ℕ) (p : ℕ → Bool) (ks : List ℕ) → ((x : ℕ) → x < cap → T (p x) → In x ks) → count p (upto cap) ≤ length ks
count_atmost cap p ks f =
    le_trans (le_of_eq (sym (members_count p cap))) (no_dup_le (members p cap) ks (members_no_dup p cap) (λ x i. f x (In-members p cap x i).0 (In-members p cap x i).1))

-- ---- the loop that tells who lacks a member, and who two

module _ (cap live : ℕ) (rows : List ℕ) (c : ℕ) where
  abbrev lacked : ℕ → ℕ → ℕ → Bool
  lacked left x v = done c left v && not (has (get_or rows v zero) x)

  pub record Lacking (once twice left : ℕ) : Type 0 where
    pub within : Within left c
    pub ones : (x : ℕ) → has once x ≡ (has live x && leb 1 (count (lacked left x) (upto cap)))
    pub twos : (x : ℕ) → has twice x ≡ (has live x && leb 2 (count (lacked left x) (upto cap)))

  pub lacking_start : Lacking 0 0 c
  lacking_start = record { within = λ x t. t; ones = λ x. nothing x 1 (omega arith); twos = λ x. nothing x 2 (omega arith) }
    where
      nothing : (x j : ℕ) → 0 < j → has 0 x ≡ (has live x && leb j (count (lacked c x) (upto cap)))
      nothing x j l =
          has_none x ∙ sym (ap (λ (b : Bool). has live x && b)
          (ap (leb j) (sym (members_count (lacked c x) cap)
          ∙ ap length (members_none (lacked c x) cap (λ v b t. subst T (done_none c v) (and_l (done c c v) (not (has (get_or rows v zero) x)) t))))
          ∙ lt-leb j 0 l) ∙ none (has live x))
        where
          none : (a : Bool) → (a && false) ≡ false
          none true = refl
          none false = refl

  pub lacking_end : (once twice : ℕ) → Lacking once twice 0 → LacksAt cap live rows c (record { once = once; twice = twice })
  lacking_end once twice i = record {
    once = λ x. i.ones x ∙ ap (λ (q : ℕ → Bool). has live x && leb 1 (count (λ v. q v && not (has (get_or rows v zero) x)) (upto cap))) (done_all c);
    twice = λ x. i.twos x ∙ ap (λ (q : ℕ → Bool). has live x && leb 2 (count (λ v. q v && not (has (get_or rows v zero) x)) (upto cap))) (done_all c);
  }

  module _ (once twice left v away both twice' once' left' : ℕ) (i : Lacking once twice left) (w : IsLowest cap left v) (wa : IsLess live (get_or rows v zero) away)
      (wb : IsMeet once away both) (wt : IsJoin twice both twice') (wo : IsJoin once away once') (o : IsWithout left v left') where
    more : (x : ℕ) → count (lacked left x) (upto cap) + bit (not (has (get_or rows v zero) x)) ≡ count (lacked left' x) (upto cap)
    more x =
        count_more cap (done c left) (done c left') (λ y. not (has (get_or rows y zero) x)) v w.below (done_more c left v left' i.within w o)
        (λ t. t_not (has left v) (and_r (has c v) (not (has left v)) t) w.member)

    pub lacking_again : Lacking once' twice' left'
    lacking_again = record {
      within = within_again c left v left' i.within w o;
      ones = λ x.
          wo x ∙ ap₂ (λ (a b : Bool). a || b) (i.ones x) (wa x)
          ∙ one (has live x) (leb 1 (count (lacked left x) (upto cap))) (not (has (get_or rows v zero) x))
          ∙ ap (λ (b : Bool). has live x && b)
          (ap (λ (b : Bool). leb 1 (count (lacked left x) (upto cap)) || (b && not (has (get_or rows v zero) x))) (sym (le-leb 0 (count (lacked left x) (upto cap)) (omega arith)))
          ∙ leb_next 0 (count (lacked left x) (upto cap)) (not (has (get_or rows v zero) x)) ∙ ap (leb 1) (more x));
      twos = λ x.
          wt x ∙ ap₂ (λ (a b : Bool). a || b) (i.twos x) (wb x ∙ ap₂ (λ (a b : Bool). a && b) (i.ones x) (wa x))
          ∙ two (has live x) (leb 2 (count (lacked left x) (upto cap))) (leb 1 (count (lacked left x) (upto cap))) (not (has (get_or rows v zero) x))
          ∙ ap (λ (b : Bool). has live x && b) (leb_next 1 (count (lacked left x) (upto cap)) (not (has (get_or rows v zero) x)) ∙ ap (leb 2) (more x));
    }
      where
        one : (l a b : Bool) → ((l && a) || (l && b)) ≡ (l && (a || (true && b)))
        one true a b = refl
        one false a b = refl

        two : (l d a b : Bool) → ((l && d) || ((l && a) && (l && b))) ≡ (l && (d || (a && b)))
        two true d a b = refl
        two false d a b = refl

-- every live vertex lacks a member, where none is left that does not
pub once_all : {live once none : ℕ} → Within once live → IsLess live once none → none ≡ 0 → once ≡ live
once_all {live} {once} {none} i w e =
    same_members once live (λ x. T-ext (has once x) (has live x) (i x)
    (λ t. go x t (T? (has once x))))
  where
    go : (x : ℕ) → T (has live x) → Dec (T (has once x)) → T (has once x)
    go x t (yes u) = u
    go x t (no u) =
        absurd (subst T (ap (λ (s : ℕ). has s x) e ∙ has_none x) (subst T (sym (w x)) (and_t (has live x) (not (has once x)) t (not_t (has once x) u))))

-- ---- S(v), and where W is

module _ {cap : ℕ} (h : Node) (k : HeldAt cap h) (c : ℕ) (verts : Within c h.live) (lack : Lack ℕ) (l : LacksAt cap h.live h.rows c lack) where
  abbrev g : Graph
  g = view h

  abbrev n : ℕ
  n = h.n

  abbrev H : Part
  H = every_edge (has c)

  -- x lacks v
  abbrev bare : ℕ → ℕ → Bool
  bare x v = has c v && not (has (get_or h.rows v zero) x)

  small : (v : ℕ) → T (has c v) → v < cap
  small v t = live_fits h k v (verts v t)

  -- of S(v)'s members only v can be lacked
  module _ (v x : ℕ) (cv : T (has c v)) (t : T (of_s n g H v x)) where
    live_x : T (has h.live x)
    live_x = subst T (sym (k.lives x)) (and_l (live n g x) (all n (λ y. not (H.edge v y) || g.adj x y)) t)

    v_alone : (y : ℕ) → T (bare x y) → y ≡ v
    v_alone y u = go (ℕ_discrete y v)
      where
        cy : T (has c y)
        cy = and_l (has c y) (not (has (get_or h.rows y zero) x)) u

        near : v ≢ y → T (g.adj x y)
        near d =
            imp_get (H.edge v y) (g.adj x y)
            (all_get n (λ y. not (H.edge v y) || g.adj x y) (and_r (live n g x) (all n (λ y. not (H.edge v y) || g.adj x y)) t) y (live_below h k y (verts y cy)))
            (and_t (has c v) (has c y && not (eqb v y)) cv (and_t (has c y) (not (eqb v y)) cy (ne_of v y d)))

        go : Dec (y ≡ v) → y ≡ v
        go (yes e) = e
        go (no d) =
            absurd (t_not (has (get_or h.rows y zero) x) (and_r (has c y) (not (has (get_or h.rows y zero) x)) u)
            (and_r (has h.live x) (has (get_or h.rows y zero) x) (subst T (near_row h k y x (verts y cy)) (near (λ e. d (sym e))))))

    not_two : misses cap h.rows c x ≤ 1
    not_two = count_atmost cap (bare x) (v ∷ []) (λ y b u. inl (v_alone y u))

    not_one : T (has (get_or h.rows v zero) x) → misses cap h.rows c x ≤ 0
    not_one r =
        count_atmost cap (bare x) []
        (λ y b u. t_not (has (get_or h.rows y zero) x) (and_r (has c y) (not (has (get_or h.rows y zero) x)) u)
        (subst (λ z. T (has (get_or h.rows z zero) x)) (sym (v_alone y u)) r))

  pub first_serving : (v few q s : ℕ) → T (has c v) → IsLess h.live lack.twice few → IsMeet lack.once (get_or h.rows v zero) q → IsLess few q s
      → (x : ℕ) → has s x ≡ of_s n g H v x
  first_serving v few q s cv wf wq ws x = T-ext (has s x) (of_s n g H v x) there back
    where
      there : T (has s x) → T (of_s n g H v x)
      there t =
          and_t (live n g x) (all n (λ y. not (H.edge v y) || g.adj x y)) (subst T (k.lives x) lx)
          (all_make n (λ y. not (H.edge v y) || g.adj x y) (λ y b. imp_make (H.edge v y) (g.adj x y) (near y)))
        where
          in_few : T (has few x)
          in_few = and_l (has few x) (not (has q x)) (subst T (ws x) t)

          lx : T (has h.live x)
          lx = and_l (has h.live x) (not (has lack.twice x)) (subst T (wf x) in_few)

          few_lacked : misses cap h.rows c x < 2
          few_lacked = go (dec_lt (misses cap h.rows c x) 2)
            where
              go : Dec (misses cap h.rows c x < 2) → misses cap h.rows c x < 2
              go (yes b) = b
              go (no b) =
                  absurd (t_not (has lack.twice x) (and_r (has h.live x) (not (has lack.twice x)) (subst T (wf x) in_few))
                  (subst T (sym (l.twice x)) (and_t (has h.live x) (leb 2 (misses cap h.rows c x)) lx (le→leb 2 (misses cap h.rows c x) (omega arith)))))

          near : (y : ℕ) → T (H.edge v y) → T (g.adj x y)
          near y e = go (T? (has (get_or h.rows y zero) x))
            where
              cy : T (has c y)
              cy = and_l (has c y) (not (eqb v y)) (and_r (has c v) (has c y && not (eqb v y)) e)

              apart : v ≢ y
              apart = of_ne v y (and_r (has c y) (not (eqb v y)) (and_r (has c v) (has c y && not (eqb v y)) e))

              go : Dec (T (has (get_or h.rows y zero) x)) → T (g.adj x y)
              go (yes r) = subst T (sym (near_row h k y x (verts y cy))) (and_t (has h.live x) (has (get_or h.rows y zero) x) lx r)
              go (no r) = absurd (let z : ⊥ = omega (arith, both, few_lacked) in z)
                where
                  lack_y : T (bare x y)
                  lack_y = and_t (has c y) (not (has (get_or h.rows y zero) x)) cy (not_t (has (get_or h.rows y zero) x) r)

                  in_once : T (has lack.once x)
                  in_once =
                      subst T (sym (l.once x)) (and_t (has h.live x) (leb 1 (misses cap h.rows c x)) lx
                      (le→leb 1 (misses cap h.rows c x)
                      (count_atleast cap (bare x) (y ∷ []) (λ i. i, tt) (λ z i. elim i [ inl a ↦ rw a (small y cy, lack_y) | inr a ↦ absurd a ]))))

                  lack_v : T (bare x v)
                  lack_v =
                      and_t (has c v) (not (has (get_or h.rows v zero) x)) cv
                      (not_t (has (get_or h.rows v zero) x)
                      (λ u. t_not (has q x) (and_r (has few x) (not (has q x)) (subst T (ws x) t))
                      (subst T (sym (wq x)) (and_t (has lack.once x) (has (get_or h.rows v zero) x) in_once u))))

                  both : 2 ≤ misses cap h.rows c x
                  both =
                      count_atleast cap (bare x) (v ∷ y ∷ []) (λ i. elim i [ inl a ↦ apart a | inr a ↦ a ], (λ i. i, tt))
                      (λ z i. elim i [ inl a ↦ rw a (small v cv, lack_v) | inr j ↦ elim j [ inl a ↦ rw a (small y cy, lack_y) | inr a ↦ absurd a ] ])

      back : T (of_s n g H v x) → T (has s x)
      back t =
          subst T (sym (ws x)) (and_t (has few x) (not (has q x))
          (subst T (sym (wf x)) (and_t (has h.live x) (not (has lack.twice x)) (live_x v x cv t)
          (not_t (has lack.twice x) (λ u. let a = leb→le 2 (misses cap h.rows c x) (and_r (has h.live x) (leb 2 (misses cap h.rows c x)) (subst T (l.twice x) u)) in
          let z : ⊥ = omega (arith, not_two v x cv t) in z))))
          (not_t (has q x) (λ u.
          let r = subst T (wq x) u in
          let a = leb→le 1 (misses cap h.rows c x)
          (and_r (has h.live x) (leb 1 (misses cap h.rows c x)) (subst T (l.once x) (and_l (has lack.once x) (has (get_or h.rows v zero) x) r))) in
          let z : ⊥ = omega (arith, not_one v x cv t (and_r (has lack.once x) (has (get_or h.rows v zero) x) r)) in z)))

  -- no member of c is in W, where every vertex lacks some member
  member_not : lack.once ≡ h.live → (w : ℕ) → T (has c w) → ¬ T (of_w_lem n g H w)
  member_not e w cw t =
      let b = live_below h k w (verts w cw) in
      let a = imp_get (has c w) (any n (offers n g H w w))
      (all_get n (λ v. not (has c v) || any n (offers n g H w v)) (and_r (live n g w) (all n (λ v. not (has c v) || any n (offers n g H w v))) t) w b) cw in
      let r = any_get n (offers n g H w w) a in
      let s = and_l (of_s n g H w r.0) (g.adj w r.0) r.2 in
      let near = and_r (has h.live r.0) (has (get_or h.rows w zero) r.0)
      (and_r (has h.live w) (has h.live r.0 && has (get_or h.rows w zero) r.0) (and_r (of_s n g H w r.0) (g.adj w r.0) r.2)) in
      let one = leb→le 1 (misses cap h.rows c r.0) (and_r (has h.live r.0) (leb 1 (misses cap h.rows c r.0))
      (subst T (l.once r.0) (subst (λ m. T (has m r.0)) (sym e) (live_x w r.0 cw s)))) in
      let z : ⊥ = omega (arith, not_one w r.0 cw s near) in
      z

  pub outside_among : (from : ℕ) → Outside h.live c lack.once from → (x : ℕ) → T (of_w_lem n g H x) → T (has from x)
  outside_among from o x t = elim (o.all x (live_among h k c H.edge verts x t)) [ inl a ↦ a | inr a ↦ absurd (member_not a.1 x a.0 t) ]
