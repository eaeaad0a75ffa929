-- S(v) and the vertices that it reaches, gathered over the members of a set, lowest first. Assumes nothing.
use mathlib.Core.Path.{◌≡◌, refl, sym, ap, ap₂, ◌∙◌}
use mathlib.Core.Bool.{Bool, true, false, not, ◌&&◌, ◌||◌}
use Prim.Native.Nat.{ℕ, zero}
use lib.Dec.{T}
use lib.ListN.{get_or}
use Rattle.sets.specs.Lists.{all, any}
use Rattle.sets.specs.Set.{has, IsWithout, IsMeet, IsJoin, IsLowest}
use Rattle.sets.proofs.TestLaws.{and_true}
use Rattle.sets.proofs.SetLaws.{has_none}
use Rattle.graphs.specs.Graph.{Graph, live}
use Rattle.graphs.specs.Held.{view, HeldAt}
use Rattle.graphs.specs.declared.Node.{Node}
use Rattle.graphs.proofs.HeldLaws.{live_below}
use Rattle.cliques.specs.Growth.{Within}
use Rattle.cliques.proofs.WordLaws.{near_row}
use Rattle.mycielski.specs.Rounds.{near_all}
use Rattle.mycielski.specs.Words.{reachable}
use Rattle.mycielski.proofs.DoneLaws.{done, done_none, done_all, within_again, done_more, all_more, any_more, all_none, any_none}

module _ {cap : ℕ} (h : Node) (k : HeldAt cap h) where
  abbrev g : Graph
  g = view h

  abbrev n : ℕ
  n = h.n

  -- ---- S(v)

  pub record Serving (near s left : ℕ) : Type 0 where
    pub within : Within left near
    pub is : (x : ℕ) → has s x ≡ near_all n g (λ y. done near left y) x

  pub serving_start : (near : ℕ) → Serving near h.live near
  serving_start near = record {
    within = λ x t. t;
    is = λ x. k.lives x ∙ sym (ap (λ (b : Bool). live n g x && b) (all_none n (λ y. done near near y) (λ y. g.adj x y) (done_none near)) ∙ and_true (live n g x));
  }

  pub serving_end : (near s : ℕ) → Serving near s 0 → (x : ℕ) → has s x ≡ near_all n g (has near) x
  serving_end near s i x = i.is x ∙ ap (λ (q : ℕ → Bool). near_all n g q x) (done_all near)

  pub serving_again : (near s left v s' left' : ℕ) → Within near h.live → Serving near s left → IsLowest cap left v → IsMeet s (get_or h.rows v zero) s'
      → IsWithout left v left' → Serving near s' left'
  serving_again near s left v s' left' l i w m o = record {
    within = within_again near left v left' i.within w o;
    is = λ x.
        m x ∙ ap (λ (b : Bool). b && has (get_or h.rows v zero) x) (i.is x ∙ ap (λ (b : Bool). b && old x) (sym (k.lives x)))
        ∙ shuffle (has h.live x) (old x) (has (get_or h.rows v zero) x)
        ∙ ap₂ (λ (a b : Bool). a && (old x && b)) (k.lives x) (sym (near_row h k v x live_v))
        ∙ ap (λ (b : Bool). live n g x && b)
        (sym (all_more n (λ y. done near left y) (λ y. done near left' y) (λ y. g.adj x y) v (live_below h k v live_v) (done_more near left v left' i.within w o)));
  }
    where
      live_v : T (has h.live v)
      live_v = l v (i.within v w.member)

      old : ℕ → Bool
      old x = all n (λ y. not (done near left y) || g.adj x y)

      shuffle : (a b c : Bool) → ((a && b) && c) ≡ (a && (b && (a && c)))
      shuffle true true c = refl
      shuffle true false c = refl
      shuffle false b c = refl

  -- ---- what a set reaches

  pub record Reached (s r left : ℕ) : Type 0 where
    pub within : Within left s
    pub is : (w : ℕ) → (has h.live w && has r w) ≡ any n (λ x. done s left x && g.adj w x)

  pub reached_start : (s : ℕ) → Reached s 0 s
  reached_start s = record {
    within = λ x t. t;
    is = λ w. ap (λ (b : Bool). has h.live w && b) (has_none w) ∙ nothing (has h.live w) ∙ sym (any_none n (λ x. done s s x) (λ x. g.adj w x) (done_none s));
  }
    where
      nothing : (a : Bool) → (a && false) ≡ false
      nothing true = refl
      nothing false = refl

  pub reached_end : (s r : ℕ) → Reached s r 0 → (w : ℕ) → (has h.live w && has r w) ≡ reachable n g s w
  reached_end s r i w = i.is w ∙ ap (λ (q : ℕ → Bool). any n (λ x. q x && g.adj w x)) (done_all s)

  pub reached_again : (s r left x r' left' : ℕ) → Within s h.live → Reached s r left → IsLowest cap left x → IsJoin r (get_or h.rows x zero) r'
      → IsWithout left x left' → Reached s r' left'
  reached_again s r left x r' left' l i w j o = record {
    within = within_again s left x left' i.within w o;
    is = λ y.
        ap (λ (b : Bool). has h.live y && b) (j y) ∙ spread (has h.live y) (has r y) (has (get_or h.rows x zero) y)
        ∙ ap₂ (λ (a b : Bool). a || b) (i.is y) (sym (near_row h k x y live_x))
        ∙ sym (any_more n (λ z. done s left z) (λ z. done s left' z) (λ z. g.adj y z) x (live_below h k x live_x) (done_more s left x left' i.within w o));
  }
    where
      live_x : T (has h.live x)
      live_x = l x (i.within x w.member)

      spread : (a b c : Bool) → (a && (b || c)) ≡ ((a && b) || (a && c))
      spread true b c = refl
      spread false b c = refl
