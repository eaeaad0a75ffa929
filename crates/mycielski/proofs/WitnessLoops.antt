-- W in words, gathered over the vertices of H, lowest first. Assumes nothing.
use mathlib.Core.Path.{◌≡◌, refl, sym, ap, ◌∙◌, fun_ext, subst}
use mathlib.Core.Bool.{Bool, true, false, not, ◌&&◌, ◌||◌}
use Prim.Native.Nat.{ℕ}
use lib.Dec.{T}
use Rattle.sets.specs.Lists.{all, any}
use Rattle.sets.specs.Set.{has, IsWithout, IsMeet, IsLowest}
use Rattle.sets.proofs.TestLaws.{and_l, and_r, and_t, and_true, T→false, T-ext, all_get, all_make}
use Rattle.sets.proofs.SetLaws.{has_none}
use Rattle.graphs.specs.Graph.{Graph, live}
use Rattle.graphs.specs.Held.{view, HeldAt}
use Rattle.graphs.specs.declared.Node.{Node}
use Rattle.graphs.proofs.HeldLaws.{live_below}
use Rattle.cliques.specs.Growth.{Within}
use Rattle.mycielski.specs.Rounds.{Part, of_s, offers, of_w_lem}
use Rattle.mycielski.specs.Words.{reachable}
use Rattle.mycielski.proofs.DoneLaws.{imp_get, imp_make, done, done_none, done_all, within_again, done_more, all_more, all_none}

module _ {cap : ℕ} (h : Node) (k : HeldAt cap h) (set : ℕ) (edge : ℕ → ℕ → Bool) (verts : Within set h.live) where
  abbrev g : Graph
  g = view h

  abbrev n : ℕ
  n = h.n

  abbrev H : Part
  H = record { vert = λ x. has set x; edge = edge }

  -- what S(v) reaches, where s is S(v)
  pub reach_is : (v s w : ℕ) → ((x : ℕ) → has s x ≡ of_s n g H v x) → reachable n g s w ≡ any n (offers n g H w v)
  reach_is v s w e = ap (λ (q : ℕ → Bool). any n (λ x. q x && g.adj w x)) (fun_ext e)

  pub serving_live : (v s : ℕ) → ((x : ℕ) → has s x ≡ of_s n g H v x) → Within s h.live
  serving_live v s e x t = subst T (sym (k.lives x)) (and_l (live n g x) (all n (λ y. not (edge v y) || g.adj x y)) (subst T (e x) t))

  -- ---- W, of the vertices `from`

  pub live_among : (x : ℕ) → T (of_w_lem n g H x) → T (has h.live x)
  live_among x t = subst T (sym (k.lives x)) (and_l (live n g x) (all n (λ v. not (has set v) || any n (offers n g H x v))) t)

  pub record Witness (from ws left : ℕ) : Type 0 where
    pub within : Within left set
    pub is : (x : ℕ) → has ws x ≡ (has from x && all n (λ v. not (done set left v) || any n (offers n g H x v)))

  pub witness_start : (from : ℕ) → Witness from from set
  witness_start from = record {
    within = λ x t. t;
    is = λ x. sym (ap (λ (b : Bool). has from x && b) (all_none n (λ v. done set set v) (λ v. any n (offers n g H x v)) (done_none set)) ∙ and_true (has from x));
  }

  module _ (from : ℕ) (f : Within from h.live) where
    module _ (among : (x : ℕ) → T (of_w_lem n g H x) → T (has from x)) where
      pub witness_end : (ws : ℕ) → Witness from ws 0 → (x : ℕ) → has ws x ≡ of_w_lem n g H x
      witness_end ws i x =
          i.is x ∙ ap (λ (q : ℕ → Bool). has from x && all n (λ v. not (q v) || any n (offers n g H x v))) (done_all set)
          ∙ T-ext (has from x && all n (λ v. not (has set v) || any n (offers n g H x v))) (of_w_lem n g H x)
          (λ t. and_t (live n g x) (all n (λ v. not (has set v) || any n (offers n g H x v)))
          (subst T (k.lives x) (f x (and_l (has from x) (all n (λ v. not (has set v) || any n (offers n g H x v))) t)))
          (and_r (has from x) (all n (λ v. not (has set v) || any n (offers n g H x v))) t))
          (λ t. and_t (has from x) (all n (λ v. not (has set v) || any n (offers n g H x v))) (among x t)
          (and_r (live n g x) (all n (λ v. not (has set v) || any n (offers n g H x v))) t))

      -- where none is left of W there is none
      pub witness_none : (left : ℕ) → Witness from 0 left → (x : ℕ) → has 0 x ≡ of_w_lem n g H x
      witness_none left i x = has_none x ∙ sym (T→false (of_w_lem n g H x) none)
        where
          none : ¬ T (of_w_lem n g H x)
          none t = subst T (has_none x) (subst T (sym (i.is x)) (and_t (has from x) (all n (λ v. not (done set left v) || any n (offers n g H x v))) (among x t)
              (all_make n (λ v. not (done set left v) || any n (offers n g H x v))
              (λ v l. imp_make (done set left v) (any n (offers n g H x v))
              (λ d. imp_get (has set v) (any n (offers n g H x v))
              (all_get n (λ v. not (has set v) || any n (offers n g H x v)) (and_r (live n g x) (all n (λ v. not (has set v) || any n (offers n g H x v))) t) v l)
              (and_l (has set v) (not (has left v)) d))))))

    -- one vertex of H more
    pub witness_more : (ws left v s r ws' left' : ℕ) → Witness from ws left → IsLowest cap left v
        → ((x : ℕ) → has s x ≡ of_s n g H v x) → ((w : ℕ) → (has h.live w && has r w) ≡ reachable n g s w)
        → IsMeet ws r ws' → IsWithout left v left' → Witness from ws' left'
    witness_more ws left v s r ws' left' i w e reach m o = record {
      within = within_again set left v left' i.within w o;
      is = λ x.
          m x ∙ ap (λ (b : Bool). b && has r x) (i.is x)
          ∙ shuffle (has from x) (has h.live x) (old x) (has r x) (f x)
          ∙ ap (λ (b : Bool). has from x && (old x && b)) (reach x ∙ reach_is v s x e)
          ∙ ap (λ (b : Bool). has from x && b)
          (sym (all_more n (λ v. done set left v) (λ v. done set left' v) (λ v. any n (offers n g H x v)) v
          (live_below h k v (verts v (i.within v w.member))) (done_more set left v left' i.within w o)));
    }
      where
        old : ℕ → Bool
        old x = all n (λ v. not (done set left v) || any n (offers n g H x v))

        shuffle : (a l b c : Bool) → (T a → T l) → ((a && b) && c) ≡ (a && (b && (l && c)))
        shuffle true true b c f = refl
        shuffle true false b c f = absurd (f tt)
        shuffle false l b c f = refl
