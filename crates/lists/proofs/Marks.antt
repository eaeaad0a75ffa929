-- The bits of rows after edges were joined: those before, and each edge's two.
--
--   Ends i j a b : (a, b) is the edge between i and j, either way round
--   joins es g   : the rows g with the edges es
--   Below k es   : the ends of each edge are below k
--   Among es a b : (a, b) is among the edges, either way round
use Prim.Native.Nat.{ℕ, zero, suc, ◌<◌, ◌^◌}
use mathlib.Core.Path.{◌≡◌, refl, sym, ap, subst, ◌∙◌}
use mathlib.Core.List.{List, [], ◌∷◌}
use mathlib.Core.Bool.{◌||◌}
use mathlib.Core.Logic.{◌⊎◌, inl, inr, ⊎_elim}
use native.Mathlib.Omega.{arith}
use native.Mathlib.Decide.{ℕ_discrete}
use lib.Dec.{T, eqb, eqb→eq}
use lib.Bits.{bit_or}
use lib.ListN.{length, get_or, replicate}
use lib.Seq.{get_or-set_same, get_or-set_other}
use Rattle.sets.specs.Set.{has}
use Rattle.sets.specs.Lists.{In}
use Rattle.sets.proofs.TestLaws.{or_l, or_r, or_cases, eqb_of}
use Rattle.sets.proofs.SetLaws.{with_is, has_none}
use Rattle.clashes.specs.Matrix.{matrix}
use Rattle.lists.specs.Read.{no_rows_up_to, mark, join}
use Rattle.lists.proofs.Fold.{mark_length, join_length}

-- ---- one mark

module _ (g : List ℕ) (i j : ℕ) (h : i < length g) where
  mark_here : (b : ℕ) → matrix (mark g i j) i b ≡ (matrix g i b || eqb j b)
  mark_here b = ap (λ (x : ℕ). has x b) (get_or-set_same g i (bit_or (get_or g i 0) (2 ^ j)) 0 h) ∙ with_is (get_or g i 0) j b

  mark_there : (a b : ℕ) → (a ≡ i → ⊥) → matrix (mark g i j) a b ≡ matrix g a b
  mark_there a b n = ap (λ (x : ℕ). has x b) (get_or-set_other g i a (bit_or (get_or g i 0) (2 ^ j)) 0 n)

  -- a bit after the mark is an old one or the marked one
  pub mark_was : (a b : ℕ) → T (matrix (mark g i j) a b) → T (matrix g a b) ⊎ ((a ≡ i) × (b ≡ j))
  mark_was a b t = go (ℕ_discrete a i)
    where
      go : Dec (a ≡ i) → T (matrix g a b) ⊎ ((a ≡ i) × (b ≡ j))
      go (no n) = inl (subst T (mark_there a b n) t)
      go (yes e) =
          let u : T (matrix g i b || eqb j b) = subst T (mark_here b) (subst (λ (x : ℕ). T (matrix (mark g i j) x b)) e t) in
          ⊎_elim (λ p. inl (subst (λ (x : ℕ). T (matrix g x b)) (sym e) p)) (λ p. inr (e, sym (eqb→eq j b p))) (or_cases (matrix g i b) (eqb j b) u)

  pub mark_old : (a b : ℕ) → T (matrix g a b) → T (matrix (mark g i j) a b)
  mark_old a b t = go (ℕ_discrete a i)
    where
      go : Dec (a ≡ i) → T (matrix (mark g i j) a b)
      go (no n) = subst T (sym (mark_there a b n)) t
      go (yes e) =
          let u : T (matrix g i b) = subst (λ (x : ℕ). T (matrix g x b)) e t in
          subst (λ (x : ℕ). T (matrix (mark g i j) x b)) (sym e) (subst T (sym (mark_here b)) (or_l (matrix g i b) (eqb j b) u))

  pub mark_new : T (matrix (mark g i j) i j)
  mark_new = subst T (sym (mark_here j)) (or_r (matrix g i j) (eqb j j) (eqb_of j j refl))

-- ---- one edge

abbrev pub Ends : ℕ → ℕ → ℕ → ℕ → Type 0
Ends i j a b = ((a ≡ i) × (b ≡ j)) ⊎ ((a ≡ j) × (b ≡ i))

module _ (g : List ℕ) (i j : ℕ) (hi : i < length g) (hj : j < length g) where
  still_below : j < length (mark g i j)
  still_below = omega (arith, mark_length g i j)

  pub join_was : (a b : ℕ) → T (matrix (join g i j) a b) → T (matrix g a b) ⊎ Ends i j a b
  join_was a b t =
      ⊎_elim (λ p. ⊎_elim (λ q. inl q) (λ q. inr (inl q)) (mark_was g i j hi a b p)) (λ p. inr (inr p)) (mark_was (mark g i j) j i still_below a b t)

  pub join_old : (a b : ℕ) → T (matrix g a b) → T (matrix (join g i j) a b)
  join_old a b t = mark_old (mark g i j) j i still_below a b (mark_old g i j hi a b t)

  pub join_new : (a b : ℕ) → Ends i j a b → T (matrix (join g i j) a b)
  join_new a b (inl e) = rw (e.0, e.1) (mark_old (mark g i j) j i still_below i j (mark_new g i j hi))
  join_new a b (inr e) = rw (e.0, e.1) (mark_new (mark g i j) j i still_below)

-- ---- edges

abbrev pub joins : List (ℕ × ℕ) → List ℕ → List ℕ
joins [] g = g
joins (e ∷ es) g = joins es (join g e.0 e.1)

abbrev pub Below : ℕ → List (ℕ × ℕ) → Type 0
Below k es = (e : ℕ × ℕ) → In e es → (e.0 < k) × (e.1 < k)

abbrev pub Among : List (ℕ × ℕ) → ℕ → ℕ → Type 0
Among es a b = In (a, b) es ⊎ In (b, a) es

pub joins_length : (es : List (ℕ × ℕ)) (g : List ℕ) → length (joins es g) ≡ length g
joins_length [] g = refl
joins_length (e ∷ es) g = joins_length es (join g e.0 e.1) ∙ join_length g e.0 e.1

pair_is : (e : ℕ × ℕ) (a b : ℕ) → a ≡ e.0 → b ≡ e.1 → ◌≡◌ {A = ℕ × ℕ} (a, b) e
pair_is e a b p q = rw (p, q)

ends_among : (e : ℕ × ℕ) (es : List (ℕ × ℕ)) (a b : ℕ) → Ends e.0 e.1 a b → Among (e ∷ es) a b
ends_among e es a b (inl p) = inl (inl (pair_is e a b p.0 p.1))
ends_among e es a b (inr p) = inr (inl (pair_is e b a p.1 p.0))

among_more : (e : ℕ × ℕ) (es : List (ℕ × ℕ)) (a b : ℕ) → Among es a b → Among (e ∷ es) a b
among_more e es a b (inl p) = inl (inr p)
among_more e es a b (inr p) = inr (inr p)

among_cases : (e : ℕ × ℕ) (es : List (ℕ × ℕ)) (a b : ℕ) → Among (e ∷ es) a b → Ends e.0 e.1 a b ⊎ Among es a b
among_cases e es a b (inl (inl p)) = inl (inl (ap (λ (x : ℕ × ℕ). x.0) p, ap (λ (x : ℕ × ℕ). x.1) p))
among_cases e es a b (inl (inr p)) = inr (inl p)
among_cases e es a b (inr (inl p)) = inl (inr (ap (λ (x : ℕ × ℕ). x.1) p, ap (λ (x : ℕ × ℕ). x.0) p))
among_cases e es a b (inr (inr p)) = inr (inr p)

-- the first edge, and the others on the rows that have it
module _ (k : ℕ) (e : ℕ × ℕ) (es : List (ℕ × ℕ)) (g : List ℕ) (z : length g ≡ k) (h : Below k (e ∷ es)) where
  first_end : e.0 < length g
  first_end = omega (arith, (h e (inl refl)).0)

  second_end : e.1 < length g
  second_end = omega (arith, (h e (inl refl)).1)

  joined_length : length (join g e.0 e.1) ≡ k
  joined_length = join_length g e.0 e.1 ∙ z

  others : Below k es
  others x m = h x (inr m)

pub joins_was : (es : List (ℕ × ℕ)) (g : List ℕ) (k : ℕ) → length g ≡ k → Below k es → (a b : ℕ) → T (matrix (joins es g) a b) → T (matrix g a b) ⊎ Among es a b
joins_was [] g k z h a b t = inl t
joins_was (e ∷ es) g k z h a b t =
    ⊎_elim
    (λ p. ⊎_elim (λ q. inl q) (λ q. inr (ends_among e es a b q)) (join_was g e.0 e.1 (first_end k e es g z h) (second_end k e es g z h) a b p))
    (λ p. inr (among_more e es a b p))
    (joins_was es (join g e.0 e.1) k (joined_length k e es g z h) (others k e es g z h) a b t)

pub joins_old : (es : List (ℕ × ℕ)) (g : List ℕ) (k : ℕ) → length g ≡ k → Below k es → (a b : ℕ) → T (matrix g a b) → T (matrix (joins es g) a b)
joins_old [] g k z h a b t = t
joins_old (e ∷ es) g k z h a b t =
    joins_old es (join g e.0 e.1) k (joined_length k e es g z h) (others k e es g z h) a b
    (join_old g e.0 e.1 (first_end k e es g z h) (second_end k e es g z h) a b t)

pub joins_new : (es : List (ℕ × ℕ)) (g : List ℕ) (k : ℕ) → length g ≡ k → Below k es → (a b : ℕ) → Among es a b → T (matrix (joins es g) a b)
joins_new [] g k z h a b (inl m) = absurd m
joins_new [] g k z h a b (inr m) = absurd m
joins_new (e ∷ es) g k z h a b m =
    let s = joined_length k e es g z h in
    let o = others k e es g z h in
    ⊎_elim
    (λ p. joins_old es (join g e.0 e.1) k s o a b (join_new g e.0 e.1 (first_end k e es g z h) (second_end k e es g z h) a b p))
    (λ p. joins_new es (join g e.0 e.1) k s o a b p)
    (among_cases e es a b m)

-- ---- no rows have no bits

zeros : (k a : ℕ) → ◌≡◌ {A = ℕ} (get_or (replicate k 0) a 0) 0
zeros zero a = refl
zeros (suc k) zero = refl
zeros (suc k) (suc a) = zeros k a

pub none_bare : (most a b : ℕ) → T (matrix (no_rows_up_to most) a b) → ⊥
none_bare most a b t = subst T (ap (λ (x : ℕ). has x b) (zeros most a) ∙ has_none b) t
