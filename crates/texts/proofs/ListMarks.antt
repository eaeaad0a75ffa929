-- The rows after some lines of a clash text: their bits are the e lines among these, so an edge that they have is a repeat.
--
--   EdgeBy t i a b       : among the first i lines of t is an e line with the entries a and b for ends, from 0 here, either way round
--   Marked most t0 i n g : the bits of the rows g are the e lines among the first i of t0, after which n entries are known, none before the p line
--
-- Assumes nothing.
use Prim.Native.Nat.{ℕ, ◌+◌, ◌-◌, ◌≤◌, ◌<◌}
use mathlib.Core.Path.{◌≡◌, refl, sym, subst, ◌∙◌}
use mathlib.Core.Logic.{◌⊎◌, inl, inr, ⊎_elim}
use mathlib.Core.List.{List}
use native.Mathlib.Decide.{dec_lt}
use native.Mathlib.Omega.{arith}
use lib.Dec.{T}
use lib.ListN.{length, length-replicate}
use Rattle.std.specs.Prelude.{Option, Some}
use Rattle.clashes.specs.Matrix.{matrix}
use Rattle.lines.specs.Text.{Text, ended}
use Rattle.lists.specs.Shape.{shape_of}
use Rattle.lists.specs.Read.{no_rows_up_to, join}
use Rattle.lists.specs.declared.Shape.{Shape}
use Rattle.lists.specs.declared.Shape.TheVariants.{E}
use Rattle.lists.proofs.Fold.{join_length}
use Rattle.lists.proofs.Marks.{Ends, join_was, join_old, join_new, none_bare}
use Rattle.texts.specs.Listed.{At, RepeatAt}
use Rattle.texts.proofs.ListLines.{Rest}

abbrev EdgeBy : Text → ℕ → ℕ → ℕ → Type 0
EdgeBy t i a b = (k : ℕ) × (k ≤ i) × (At t k (Some (E (a + 1) (b + 1))) ⊎ At t k (Some (E (b + 1) (a + 1))))

pub record Marked (most : ℕ) (t0 : Text) (i : ℕ) (n : ℕ) (g : List ℕ) : Type 0 where
  pub size : length g ≡ most
  pub few : n ≤ most
  pub from : (a b : ℕ) → T (matrix g a b) → EdgeBy t0 i a b
  pub to : (a b : ℕ) → EdgeBy t0 i a b → T (matrix g a b)

edge_wider : (t : Text) (i a b : ℕ) → EdgeBy t i a b → EdgeBy t (i + 1) a b
edge_wider t i a b e = (e.0, omega (arith, e.1), e.2)

-- an e line by its ends
at_ends : (t : Text) (k u v a b : ℕ) → u ≡ a → v ≡ b → At t k (Some (E u v)) → At t k (Some (E a b))
at_ends t k u v a b p q x = subst (λ (c : ℕ). At t k (Some (E a c))) q (subst (λ (c : ℕ). At t k (Some (E c v))) p x)

module _ (most : ℕ) (t0 : Text) (i : ℕ) (n : ℕ) (l : List ℕ) (t : Text) (rest : Rest t0 i (ended l t)) (g : List ℕ) (m : Marked most t0 i n g) where
  here : At t0 (i + 1) (shape_of l)
  here = rest.forth 1 (shape_of l) ((omega arith, omega arith), refl)

  -- a line that is no e line adds no edge
  pub marked_other : ((u v : ℕ) → ¬ (shape_of l ≡ Some (E u v))) → (x : ℕ) → x ≤ most → Marked most t0 (i + 1) x g
  marked_other no-e x f = record {
    size = m.size;
    few = f;
    from = λ a b w. edge_wider t0 i a b (m.from a b w);
    to = λ a b e. m.to a b (narrow a b e (dec_lt i e.0));
  }
    where
      none : (u v k : ℕ) → k ≡ i + 1 → ¬ At t0 k (Some (E u v))
      none u v k z x = no-e u v (sym here.1 ∙ (subst (λ (j : ℕ). At t0 j (Some (E u v))) z x).1)

      narrow : (a b : ℕ) (e : EdgeBy t0 (i + 1) a b) → Dec (i < e.0) → EdgeBy t0 i a b
      narrow a b e (yes p) = let z : e.0 ≡ i + 1 = omega (arith, e.1) in absurd (⊎_elim (none _ _ e.0 z) (none _ _ e.0 z) e.2)
      narrow a b e (no p) = (e.0, omega arith, e.2)

  -- an e line of two entries
  module _ (u v : ℕ) (e : shape_of l ≡ Some (E u v)) (x : (1 ≤ u) × (u ≤ n)) (y : (1 ≤ v) × (v ≤ n)) where
    this : At t0 (i + 1) (Some (E u v))
    this = subst (At t0 (i + 1)) e here

    that : (a b : ℕ) → At t0 (i + 1) (Some (E a b)) → (a ≡ u) × (b ≡ v)
    that a b w = let z : ◌≡◌ {A = Option Shape} (Some (E a b)) (Some (E u v)) = sym w.1 ∙ here.1 ∙ e in (cc, cc)

    eu : u - 1 + 1 ≡ u
    eu = omega (arith, x.0)

    ev : v - 1 + 1 ≡ v
    ev = omega (arith, y.0)

    hu : u - 1 < length g
    hu = omega (arith, x.0, x.1, m.few, m.size)

    hv : v - 1 < length g
    hv = omega (arith, y.0, y.1, m.few, m.size)

    -- an edge that the rows have is a repeat
    pub there_repeat : T (matrix g (u - 1) (v - 1)) → RepeatAt t0 (i + 1)
    there_repeat s =
        let w = m.from (u - 1) (v - 1) s in
        (u, v, w.0, this, omega (arith, w.1), ⊎_elim (λ z. inl (at_ends t0 w.0 _ _ _ _ eu ev z)) (λ z. inr (at_ends t0 w.0 _ _ _ _ ev eu z)) w.2)

    pub repeat_there : RepeatAt t0 (i + 1) → T (matrix g (u - 1) (v - 1))
    repeat_there r =
        let z = that r.0 r.1 r.3 in
        let a : r.0 ≡ u - 1 + 1 = z.0 ∙ sym eu in
        let b : r.1 ≡ v - 1 + 1 = z.1 ∙ sym ev in
        m.to (u - 1) (v - 1) (r.2, omega (arith, r.4), ⊎_elim (λ w. inl (at_ends t0 r.2 _ _ _ _ a b w)) (λ w. inr (at_ends t0 r.2 _ _ _ _ b a w)) r.5)

    pub marked_edge : Marked most t0 (i + 1) n (join g (u - 1) (v - 1))
    marked_edge = record {
      size = join_length g (u - 1) (v - 1) ∙ m.size;
      few = m.few;
      from = λ a b w. ⊎_elim (λ p. edge_wider t0 i a b (m.from a b p)) (new a b) (join_was g (u - 1) (v - 1) hu hv a b w);
      to = λ a b w. old a b w (dec_lt i w.0);
    }
      where
        new : (a b : ℕ) → Ends (u - 1) (v - 1) a b → EdgeBy t0 (i + 1) a b
        new a b (inl p) = (i + 1, omega arith, inl (at_ends t0 (i + 1) u v (a + 1) (b + 1) (omega (arith, p.0, x.0)) (omega (arith, p.1, y.0)) this))
        new a b (inr p) = (i + 1, omega arith, inr (at_ends t0 (i + 1) u v (b + 1) (a + 1) (omega (arith, p.1, x.0)) (omega (arith, p.0, y.0)) this))

        old : (a b : ℕ) (w : EdgeBy t0 (i + 1) a b) → Dec (i < w.0) → T (matrix (join g (u - 1) (v - 1)) a b)
        old a b w (no p) = join_old g (u - 1) (v - 1) hu hv a b (m.to a b (w.0, omega arith, w.2))
        old a b w (yes p) =
            let k : w.0 ≡ i + 1 = omega (arith, w.1) in
            ⊎_elim
            (λ c. let s = that _ _ (subst (λ (j : ℕ). At t0 j (Some (E (a + 1) (b + 1)))) k c) in join_new g (u - 1) (v - 1) hu hv a b (inl (omega (arith, s.0), omega (arith, s.1))))
            (λ c. let s = that _ _ (subst (λ (j : ℕ). At t0 j (Some (E (b + 1) (a + 1)))) k c) in join_new g (u - 1) (v - 1) hu hv a b (inr (omega (arith, s.1), omega (arith, s.0))))
            w.2

pub marked_start : (most : ℕ) (t : Text) → Marked most t 0 0 (no_rows_up_to most)
marked_start most t = record {
  size = length-replicate most 0;
  few = omega arith;
  from = λ a b x. absurd (none_bare most a b x);
  to = λ a b e. absurd (⊎_elim (λ x. omega (arith, x.0.0, e.1)) (λ x. omega (arith, x.0.0, e.1)) e.2);
}
