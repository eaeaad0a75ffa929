-- Why the two bounds are bounds, over any sets: a clique's labels all differ, and one round of document 000's section 2.3 needs a label more. The
-- argument is by recolouring: where a vertex of H has w's label, it takes that of its chosen member instead. That is a colouring of H with no
-- vertex of w's label, so H's bound holds of it, and w's own label comes to it. Assumes nothing.
use mathlib.Core.Path.{◌≡◌, refl, sym, ◌∙◌, subst}
use mathlib.Core.Logic.{inl, inr, ◌≢◌}
use mathlib.Core.HLevel.{Discrete}
use mathlib.Core.Bool.{Bool}
use mathlib.Core.List.{List, [], ◌∷◌, map}
use Prim.Native.Nat.{ℕ, suc, ◌≤◌, ◌<◌, suc-le-suc}
use native.Mathlib.Nat.{le_trans, le_of_eq}
use lib.Dec.{T}
use lib.ListN.{length, length-map}
use lib.IntN.{ℤ_discrete}
use Rattle.sets.specs.Lists.{In, NoDup, members}
use Rattle.sets.proofs.ListLaws.{no_dup_le, map-In, In-map}
use Rattle.sets.proofs.MemberLaws.{members-In}
use Rattle.clashes.specs.Labels.{when, distinct}
use Rattle.clashes.specs.Colouring.{Lower}
use Rattle.clashes.proofs.NumberLaws.{distinct_new}

module _ {A : Type 0} (same : Discrete A) where
  -- f puts b different labels at the least on the vertices in H
  pub record Many (H : ℕ → Type 0) (f : ℕ → A) (b : ℕ) : Type 0 where
    pub labels : List A
    pub once : NoDup labels
    pub enough : b ≤ length labels
    pub from : (x : A) → In x labels → (v : ℕ) × H v × (x ≡ f v)

  -- so does every labelling that is proper on the edges E
  abbrev pub Holds : (ℕ → Type 0) → (ℕ → ℕ → Type 0) → ℕ → Type 0
  Holds H E b = (f : ℕ → A) → ((x y : ℕ) → E x y → f x ≢ f y) → Many H f b

  -- a clique has all its labels different
  pub clique_holds : (H : ℕ → Type 0) (E : ℕ → ℕ → Type 0) (l : List ℕ) → NoDup l → ((x : ℕ) → In x l → H x)
      → ((x y : ℕ) → In x l → In y l → x ≢ y → E x y) → Holds H E (length l)
  clique_holds H E l d v e f p = record {
    labels = map f l;
    once = go l d (λ x y i j. e x y i j);
    enough = le_of_eq (sym (length-map l f));
    from = λ x i. let t = map-In f l x i in (t.0, v t.0 t.1, t.2);
  }
    where
      go : (k : List ℕ) → NoDup k → ((x y : ℕ) → In x k → In y k → x ≢ y → E x y) → NoDup (map f k)
      go [] d e = tt
      go (x ∷ k) d e = (
        λ i. let t = map-In f k (f x) i in p x t.0 (e x t.0 (inl refl) (inr t.1) (λ q. d.0 (subst (λ z. In z k) (sym q) t.1))) t.2,
        go k d.1 (λ y z i j. e y z (inr i) (inr j)),
      )

  -- one round: H' is H with w and the u v, the edges from w to each u v, and from u v to v's neighbours in H
  pub record Round (H : ℕ → Type 0) (E : ℕ → ℕ → Type 0) (H' : ℕ → Type 0) (E' : ℕ → ℕ → Type 0) (w : ℕ) (u : ℕ → ℕ) : Type 0 where
    pub within : (x y : ℕ) → E x y → H x × H y
    pub symm : (x y : ℕ) → E x y → E y x
    pub keeps : (x : ℕ) → H x → H' x
    pub has_w : H' w
    pub has_u : (x : ℕ) → H x → H' (u x)
    pub edges : (x y : ℕ) → E x y → E' x y
    pub edges_w : (x : ℕ) → H x → E' w (u x)
    pub edges_u : (x y : ℕ) → E x y → E' (u x) y

  pub round_holds : (H : ℕ → Type 0) (E : ℕ → ℕ → Type 0) (H' : ℕ → Type 0) (E' : ℕ → ℕ → Type 0) (w : ℕ) (u : ℕ → ℕ) (b : ℕ)
      → Round H E H' E' w u → Holds H E b → Holds H' E' (suc b)
  round_holds H E H' E' w u b R h f p = record {
    labels = f w ∷ m.labels;
    once = (λ i. let t = m.from (f w) i in avoid t.0 t.1 (same (f t.0) (f w)) (sym t.2), m.once);
    enough = suc-le-suc m.enough;
    from = λ x i. elim i [ inl e ↦ (w, R.has_w, e) | inr j ↦ (let t = m.from x j in found x t.0 t.1 (same (f t.0) (f w)) t.2) ];
  }
    where
      f' : ℕ → A
      f' v = when (same (f v) (f w)) (f (u v)) (f v)

      avoid : (v : ℕ) → H v → (q : Dec (f v ≡ f w)) → when q (f (u v)) (f v) ≢ f w
      avoid v i (yes e) z = p w (u v) (R.edges_w v i) (sym z)
      avoid v i (no a) z = a z

      found : (x : A) (v : ℕ) → H v → (q : Dec (f v ≡ f w)) → x ≡ when q (f (u v)) (f v) → (v : ℕ) × H' v × (x ≡ f v)
      found x v i (yes e) z = (u v, R.has_u v i, z)
      found x v i (no a) z = (v, R.keeps v i, z)

      proper : (x y : ℕ) → E x y → (q : Dec (f x ≡ f w)) (r : Dec (f y ≡ f w)) → when q (f (u x)) (f x) ≢ when r (f (u y)) (f y)
      proper x y e (yes a) (yes b) z = p x y (R.edges x y e) (a ∙ sym b)
      proper x y e (yes a) (no b) z = p (u x) y (R.edges_u x y e) z
      proper x y e (no a) (yes b) z = p (u y) x (R.edges_u y x (R.symm x y e)) (sym z)
      proper x y e (no a) (no b) z = p x y (R.edges x y e) z

      m : Many H f' b
      m = h f' (λ x y e. proper x y e (same (f x) (f w)) (same (f y) (f w)))

-- What holds of a part of the graph bounds the graph's colourings.
pub lower : (n : ℕ) (live : ℕ → Bool) (adj : ℕ → ℕ → Bool) (H : ℕ → Type 0) (E : ℕ → ℕ → Type 0) (b : ℕ)
    → ((x : ℕ) → H x → (x < n) × T (live x)) → ((x y : ℕ) → E x y → (x < n) × (y < n) × T (adj x y))
    → Holds ℤ_discrete H E b → Lower n live adj b
lower n live adj H E b v e h f p =
    let m = h f (λ x y i. let t = e x y i in p x y t.0 t.1 t.2) in
    le_trans m.enough
    (no_dup_le m.labels (distinct ℤ_discrete [] (map f (members live n))) m.once
    (λ x i. let t = m.from x i in let k = v t.0 t.1 in
    distinct_new ℤ_discrete [] (map f (members live n)) x
    (subst (λ z. In z (map f (members live n))) (sym t.2) (In-map f (members live n) t.0 (members-In live n t.0 k.0 k.1)))))
