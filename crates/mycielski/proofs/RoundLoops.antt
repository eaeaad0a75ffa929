-- A round in words, gathered over the vertices of H, lowest first. Assumes nothing.
use mathlib.Core.Path.{◌≡◌, refl, sym, ap, ap₂, ◌∙◌, subst}
use mathlib.Core.Bool.{Bool, true, false, not, ◌&&◌, ◌||◌}
use mathlib.Core.List.{List}
use mathlib.Core.Option
use mathlib.Core.Option.{Option}
use Prim.Native.Nat.{ℕ, zero, ◌<◌}
use lib.Dec.{T, eqb}
use lib.ListN.{length, get_or}
use Rattle.sets.specs.Lists.{all, any}
use Rattle.sets.specs.Set.{has, IsWith, IsWithout, IsMeet, IsLowest}
use Rattle.sets.proofs.TestLaws.{and_l, and_r, and_t, or_false, or_turn, T-ext, eqb_turn, all_get, any_get}
use Rattle.sets.proofs.MemberLaws.{lowest_is}
use Rattle.sets.proofs.SetLaws.{has_none}
use Rattle.graphs.specs.Graph.{Graph, live}
use Rattle.graphs.specs.Held.{view, HeldAt}
use Rattle.graphs.specs.declared.Node.{Node}
use Rattle.graphs.proofs.HeldLaws.{live_below}
use Rattle.cliques.specs.Growth.{Within}
use Rattle.mycielski.specs.Rounds.{Part, near_all, of_s, offers, of_w_lem, chosen, tied, extend}
use Rattle.mycielski.specs.Words.{Sub, part_of, Among, Ties}
use Rattle.mycielski.proofs.DoneLaws.{imp_get, done, done_none, done_all, within_again, done_more, any_more, any_none}
use Rattle.mycielski.proofs.EdgeLoops.{part_ext}
use Rattle.mycielski.proofs.WitnessLoops.{serving_live}

module _ {cap : ℕ} (h : Node) (k : HeldAt cap h) (p : Sub) (ins : Among h.live p) where
  abbrev g : Graph
  g = view h

  abbrev n : ℕ
  n = h.n

  abbrev H : Part
  H = part_of p

  module _ (w : ℕ) (ok : T (of_w_lem n g H w)) where
    live_w : T (has h.live w)
    live_w = subst T (sym (k.lives w)) (and_l (live n g w) (all n (λ v. not (has p.set v) || any n (offers n g H w v))) ok)

    -- the members of S(v) that are adjacent to w, where s is S(v)
    module _ (v s m : ℕ) (e : (x : ℕ) → has s x ≡ near_all n g (has (get_or p.near v zero)) x) (q : IsMeet s (get_or h.rows w zero) m) where
      offers_is : (x : ℕ) → has m x ≡ offers n g H w v x
      offers_is x = T-ext (has m x) (offers n g H w v x) there back
        where
          there : T (has m x) → T (offers n g H w v x)
          there t =
              let u = subst T (q x) t in
              let a = and_l (has s x) (has (get_or h.rows w zero) x) u in
              and_t (of_s n g H v x) (g.adj w x) (subst T (e x) a)
              (and_t (has h.live w) (has h.live x && has (get_or h.rows w zero) x) live_w
              (and_t (has h.live x) (has (get_or h.rows w zero) x) (serving_live h k p.set H.edge ins.verts v s e x a)
              (and_r (has s x) (has (get_or h.rows w zero) x) u)))

          back : T (offers n g H w v x) → T (has m x)
          back t =
              subst T (sym (q x)) (and_t (has s x) (has (get_or h.rows w zero) x) (subst T (sym (e x)) (and_l (of_s n g H v x) (g.adj w x) t))
              (and_r (has h.live x) (has (get_or h.rows w zero) x)
              (and_r (has h.live w) (has h.live x && has (get_or h.rows w zero) x) (and_r (of_s n g H v x) (g.adj w x) t))))

      -- there is one for each v of H
      pub offered : T (has p.set v) → m ≡ 0 → ⊥
      offered t z =
          let l = live_below h k v (ins.verts v t) in
          let a = imp_get (has p.set v) (any n (offers n g H w v))
          (all_get n (λ v. not (has p.set v) || any n (offers n g H w v)) (and_r (live n g w) (all n (λ v. not (has p.set v) || any n (offers n g H w v))) ok) v l) t in
          let r = any_get n (offers n g H w v) a in
          subst T (has_none r.0) (subst (λ c. T (has c r.0)) z (subst T (sym (offers_is r.0)) r.2))

      -- the lowest is the chosen one
      pub chosen_is : (u : ℕ) → IsLowest cap m u → chosen n g H w v ≡ u
      chosen_is u l =
          ap (λ (o : Option ℕ). Option.get_or o zero)
          (lowest_is (offers n g H w v) n u
          (live_below h k u (serving_live h k p.set H.edge ins.verts v s e u (and_l (has s u) (has (get_or h.rows w zero) u) (subst T (q u) l.member))))
          (subst T (offers_is u) l.member) (λ j b t. l.least j b (subst T (sym (offers_is j)) t)))

    pub record Extending (next : Sub) (left : ℕ) : Type 0 where
      pub wide : length next.near ≡ cap
      pub within : Within left p.set
      pub verts : (x : ℕ) → has next.set x ≡ (has p.set x || (eqb x w || any n (λ v. done p.set left v && eqb x (chosen n g H w v))))
      pub edges : (x y : ℕ)
          → has (get_or next.near x zero) y ≡ (has (get_or p.near x zero) y || any n (λ v. done p.set left v && (tied n g H w v x y || tied n g H w v y x)))

    pub extending_start : (s : ℕ) → length p.near ≡ cap → IsWith p.set w s → Extending (record { set = s; near = p.near }) p.set
    extending_start s l q = record {
      wide = l;
      within = λ x t. t;
      verts = λ x.
          q x ∙ ap (λ (b : Bool). has p.set x || b)
          (eqb_turn w x ∙ sym (or_false (eqb x w)) ∙ ap (λ (b : Bool). eqb x w || b)
          (sym (any_none n (λ v. done p.set p.set v) (λ v. eqb x (chosen n g H w v)) (done_none p.set))));
      edges = λ x y.
          sym (ap (λ (b : Bool). has (get_or p.near x zero) y || b)
          (any_none n (λ v. done p.set p.set v) (λ v. tied n g H w v x y || tied n g H w v y x) (done_none p.set)) ∙ or_false (has (get_or p.near x zero) y));
    }

    pub extending_end : (next : Sub) → Extending next 0 → part_of next ≡ extend n g H w
    extending_end next i =
        part_ext (part_of next) (extend n g H w)
        (λ x. i.verts x ∙ ap (λ (q : ℕ → Bool). has p.set x || (eqb x w || any n (λ v. q v && eqb x (chosen n g H w v)))) (done_all p.set))
        (λ x y. i.edges x y ∙ ap (λ (q : ℕ → Bool). has (get_or p.near x zero) y || any n (λ v. q v && (tied n g H w v x y || tied n g H w v y x))) (done_all p.set))

    -- one vertex of H more
    pub extending_again : (next : Sub) (left v s m u ys set' : ℕ) (near' : List ℕ) (left' : ℕ) → Extending next left → IsLowest cap left v
        → ((x : ℕ) → has s x ≡ near_all n g (has (get_or p.near v zero)) x) → IsMeet s (get_or h.rows w zero) m → IsLowest cap m u
        → IsWith (get_or p.near v zero) w ys → IsWith next.set u set' → Ties next.near u ys near' → IsWithout left v left'
        → Extending (record { set = set'; near = near' }) left'
    extending_again next left v s m u ys set' near' left' i l e q lu wy a t o = record {
      wide = t.long ∙ i.wide;
      within = within_again p.set left v left' i.within l o;
      verts = λ x.
          a x ∙ ap₂ (λ (a b : Bool). a || b) (i.verts x) (eqb_turn u x ∙ ap (eqb x) (sym is))
          ∙ three (has p.set x) (eqb x w) (any n (λ z. done p.set left z && eqb x (chosen n g H w z))) (eqb x (chosen n g H w v))
          ∙ ap (λ (b : Bool). has p.set x || (eqb x w || b))
          (sym (any_more n (λ z. done p.set left z) (λ z. done p.set left' z) (λ z. eqb x (chosen n g H w z)) v below more));
      edges = λ x y.
          t.is x y
          ∙ ap₂ (λ (a b : Bool). a || b) (i.edges x y) (ap₂ (λ (a b : Bool). a || b) (tie x y) (tie y x))
          ∙ two (has (get_or p.near x zero) y) (any n (λ z. done p.set left z && (tied n g H w z x y || tied n g H w z y x))) (tied n g H w v x y || tied n g H w v y x)
          ∙ ap (λ (b : Bool). has (get_or p.near x zero) y || b)
          (sym (any_more n (λ z. done p.set left z) (λ z. done p.set left' z) (λ z. tied n g H w z x y || tied n g H w z y x) v below more));
    }
      where
        below : v < n
        below = live_below h k v (ins.verts v (i.within v l.member))

        more : (x : ℕ) → done p.set left' x ≡ (done p.set left x || eqb v x)
        more = done_more p.set left v left' i.within l o

        is : chosen n g H w v ≡ u
        is = chosen_is v s m e q u lu

        tie : (x y : ℕ) → (eqb x u && has ys y) ≡ tied n g H w v x y
        tie x y =
            ap₂ (λ (a b : Bool). a && b) (ap (eqb x) (sym is))
            (wy y ∙ or_turn (has (get_or p.near v zero) y) (eqb w y) ∙ ap (λ (b : Bool). b || has (get_or p.near v zero) y) (eqb_turn w y))

        two : (a b c : Bool) → ((a || b) || c) ≡ (a || (b || c))
        two true b c = refl
        two false b c = refl

        three : (a b c d : Bool) → ((a || (b || c)) || d) ≡ (a || (b || (c || d)))
        three true b c d = refl
        three false true c d = refl
        three false false c d = refl
