-- The lines after the p line of a clash text that is accepted.
--
--   Body t h g n w : what the lines t are, where h is known and g are the rows so far, and reading accepts with n and the rows w
--
-- Assumes nothing.
use Prim.Native.Nat.{ℕ, suc, ◌+◌, ◌-◌, ◌≤◌, ◌<◌}
use mathlib.Core.Path.{◌≡◌, refl, sym, ap, subst, ◌∙◌}
use mathlib.Core.Logic.{◌⊎◌, inl, inr, ⊎_elim}
use mathlib.Core.List.{List}
use mathlib.Core.Bool.{Bool, ◌&&◌}
use native.Mathlib.Omega.{arith}
use borrow.Author.Tests.{eqb-true, eqb-false}
use lib.Dec.{T, eqb}
use lib.ListN.{length}
use Rattle.std.specs.Prelude.{Option, None, Some, Result, Ok, Err}
use Rattle.sets.specs.Lists.{bit}
use Rattle.clashes.specs.Matrix.{matrix}
use Rattle.lines.specs.Text.{Text, done, unended, ended}
use Rattle.lists.specs.Expect.{spot_of}
use Rattle.lists.specs.Shape.{shape_of, is_e}
use Rattle.lists.specs.Read.{inside, join, step_up_to, after, read_from_up_to}
use Rattle.lists.specs.declared.Shape.{Shape}
use Rattle.lists.specs.declared.Shape.TheVariants.{Comment, P, E}
use Rattle.lists.specs.declared.Head.{Head}
use Rattle.lists.specs.declared.Spot.{Spot}
use Rattle.lists.specs.declared.Step.{Step}
use Rattle.lists.specs.declared.Unread.{Unread}
use Rattle.lists.specs.declared.Gathered.{Gathered}
use Rattle.lines.proofs.Basics.{cond_cases}
use Rattle.lists.proofs.Fold.{inside_is, join_length}
use Rattle.lists.proofs.Marks.{join_was, join_old, join_new}
use Rattle.texts.specs.Listed.{At, EdgeLine, edge_lines, Whole, Proper}
use Rattle.texts.proofs.ListLines.{at_first, at_later, at_cases, at_none}

pub record Body (t : Text) (h : Head) (g : List ℕ) (n : ℕ) (w : List ℕ) : Type 0 where
  pub long : length w ≡ length g
  pub size : h.n ≡ n
  pub whole : Whole t
  pub permitted : (k : ℕ) → At t k None → ⊥
  pub no_p : (k a b : ℕ) → At t k (Some (P a b)) → ⊥
  pub counted : h.count + edge_lines t ≡ h.m
  pub edges : (k u v : ℕ) → At t k (Some (E u v)) → Proper n u v
  pub was : (i j : ℕ) → T (matrix w i j) → T (matrix g i j) ⊎ EdgeLine t i j
  pub old : (i j : ℕ) → T (matrix g i j) → T (matrix w i j)
  pub new : (i j : ℕ) → EdgeLine t i j → T (matrix w i j)

pub edge_later : (l : List ℕ) (t : Text) (i j : ℕ) → EdgeLine t i j → EdgeLine (ended l t) i j
edge_later l t i j e = (suc e.0, ⊎_elim (λ x. inl (at_later l t e.0 _ x)) (λ x. inr (at_later l t e.0 _ x)) e.1)

body_end : (h : Head) (g : List ℕ) → h.count ≡ h.m → Body done h g h.n g
body_end h g e = record {
  long = refl;
  size = refl;
  whole = tt;
  permitted = λ k x. at_none k None x;
  no_p = λ k a b x. at_none k (Some (P a b)) x;
  counted = omega arith;
  edges = λ k u v x. absurd (at_none k (Some (E u v)) x);
  was = λ i j x. inl x;
  old = λ i j x. x;
  new = λ i j x. ⊎_elim (λ y. absurd (at_none x.0 _ y)) (λ y. absurd (at_none x.0 _ y)) x.1;
}

-- a line that is no e line
edge_rest : (l : List ℕ) (t : Text) → ((u v : ℕ) → shape_of l ≡ Some (E u v) → ⊥) → (i j : ℕ) → EdgeLine (ended l t) i j → EdgeLine t i j
edge_rest l t h i j x =
    ⊎_elim
    (λ y. ⊎_elim (λ z. absurd (h _ _ z.1)) (λ z. (z.0, inl z.2)) (at_cases l t x.0 _ y))
    (λ y. ⊎_elim (λ z. absurd (h _ _ z.1)) (λ z. (z.0, inr z.2)) (at_cases l t x.0 _ y))
    x.1

pub edge_back : (l : List ℕ) (t : Text) → shape_of l ≡ Some Comment → (i j : ℕ) → EdgeLine (ended l t) i j → EdgeLine t i j
edge_back l t e = edge_rest l t (λ u v y. let q : ◌≡◌ {A = ℕ} 0 1 = cc in omega arith)

pub edge_back_p : (l : List ℕ) (t : Text) (n m : ℕ) → shape_of l ≡ Some (P n m) → (i j : ℕ) → EdgeLine (ended l t) i j → EdgeLine t i j
edge_back_p l t n m e = edge_rest l t (λ u v y. let q : ◌≡◌ {A = ℕ} 0 1 = cc in omega arith)

body_comment : (l : List ℕ) (t : Text) (h : Head) (g : List ℕ) (n : ℕ) (w : List ℕ) → shape_of l ≡ Some Comment → Body t h g n w → Body (ended l t) h g n w
body_comment l t h g n w e r = record {
  long = r.long;
  size = r.size;
  whole = r.whole;
  permitted = λ k x. ⊎_elim (λ y. let z : ◌≡◌ {A = ℕ} 0 1 = cc y.1 in omega arith) (λ y. r.permitted y.0 y.2) (at_cases l t k None x);
  no_p = λ k a b x. ⊎_elim (λ y. let z : ◌≡◌ {A = ℕ} 0 1 = cc y.1 in omega arith) (λ y. r.no_p y.0 a b y.2) (at_cases l t k (Some (P a b)) x);
  counted = let z = ap (λ (x : Option Shape). bit (is_e x)) e in omega (arith, r.counted);
  edges = λ k u v x. ⊎_elim (λ y. let z : ◌≡◌ {A = ℕ} 0 1 = cc y.1 in absurd (omega arith)) (λ y. r.edges y.0 u v y.2) (at_cases l t k (Some (E u v)) x);
  was = λ i j x. ⊎_elim (λ y. inl y) (λ y. inr (edge_later l t i j y)) (r.was i j x);
  old = r.old;
  new = λ i j x. r.new i j (edge_back l t e i j x);
}

-- one more edge is counted
abbrev more : Head → Head
more h = record { n = h.n; m = h.m; count = h.count + 1 }

body_edge : (l : List ℕ) (t : Text) (h : Head) (g : List ℕ) (n : ℕ) (w : List ℕ) (u v : ℕ) → shape_of l ≡ Some (E u v) → h.n ≤ length g → Proper h.n u v
    → Body t (more h) (join g (u - 1) (v - 1)) n w → Body (ended l t) h g n w
body_edge l t h g n w u v e f p r = record {
  long = r.long ∙ join_length g (u - 1) (v - 1);
  size = r.size;
  whole = r.whole;
  permitted = λ k x. ⊎_elim (λ y. let z : ◌≡◌ {A = ℕ} 0 1 = cc y.1 in omega arith) (λ y. r.permitted y.0 y.2) (at_cases l t k None x);
  no_p = λ k a b x. ⊎_elim (λ y. let z : ◌≡◌ {A = ℕ} 0 1 = cc y.1 in omega arith) (λ y. r.no_p y.0 a b y.2) (at_cases l t k (Some (P a b)) x);
  counted = let z = ap (λ (x : Option Shape). bit (is_e x)) e in omega (arith, r.counted);
  edges = λ k a b x. ⊎_elim (λ y. ends a b (sym e ∙ y.1)) (λ y. r.edges y.0 a b y.2) (at_cases l t k (Some (E a b)) x);
  was = was;
  old = λ i j x. r.old i j (join_old g (u - 1) (v - 1) hu hv i j x);
  new = new;
}
  where
    hu : u - 1 < length g
    hu = omega (arith, p.first.0, p.first.1)

    hv : v - 1 < length g
    hv = omega (arith, p.second.0, p.second.1)

    ends : (a b : ℕ) → ◌≡◌ {A = Option Shape} (Some (E u v)) (Some (E a b)) → Proper n a b
    ends a b q = let x : u ≡ a = cc in let y : v ≡ b = cc in subst (λ (m : ℕ). Proper m a b) r.size (subst (λ (c : ℕ). Proper h.n c b) x (subst (Proper h.n u) y p))

    was : (i j : ℕ) → T (matrix w i j) → T (matrix g i j) ⊎ EdgeLine (ended l t) i j
    was i j x =
        ⊎_elim
        (λ y. ⊎_elim (λ z. inl z)
        (λ z. ⊎_elim
        (λ q. let a : u ≡ i + 1 = omega (arith, q.0, p.first.0) in let b : v ≡ j + 1 = omega (arith, q.1, p.second.0) in inr (1, inl (at_first l t _ (e ∙ rw (a, b)))))
        (λ q. let a : u ≡ j + 1 = omega (arith, q.1, p.first.0) in let b : v ≡ i + 1 = omega (arith, q.0, p.second.0) in inr (1, inr (at_first l t _ (e ∙ rw (a, b)))))
        z)
        (join_was g (u - 1) (v - 1) hu hv i j y))
        (λ y. inr (edge_later l t i j y))
        (r.was i j x)

    new : (i j : ℕ) → EdgeLine (ended l t) i j → T (matrix w i j)
    new i j x =
        ⊎_elim
        (λ y. ⊎_elim (λ z. same i j (sym e ∙ z.1)) (λ z. r.new i j (z.0, inl z.2)) (at_cases l t x.0 _ y))
        (λ y. ⊎_elim (λ z. turned i j (sym e ∙ z.1)) (λ z. r.new i j (z.0, inr z.2)) (at_cases l t x.0 _ y))
        x.1
      where
        same : (i j : ℕ) → ◌≡◌ {A = Option Shape} (Some (E u v)) (Some (E (i + 1) (j + 1))) → T (matrix w i j)
        same i j q = let a : u ≡ i + 1 = cc in let b : v ≡ j + 1 = cc in r.old i j (join_new g (u - 1) (v - 1) hu hv i j (inl (omega arith, omega arith)))

        turned : (i j : ℕ) → ◌≡◌ {A = Option Shape} (Some (E u v)) (Some (E (j + 1) (i + 1))) → T (matrix w i j)
        turned i j q = let a : u ≡ j + 1 = cc in let b : v ≡ i + 1 = cc in r.old i j (join_new g (u - 1) (v - 1) hu hv i j (inr (omega arith, omega arith)))

-- ---- what reading finds, where it accepts

abbrev pub BodyOf : Text → Head → List ℕ → Result Gathered Unread → Type 0
BodyOf t h g (Ok f) = Body t h g f.n f.rows
BodyOf t h g (Err u) = Unit {0}

-- with a line more at the front
body_more : (l : List ℕ) (t : Text) (h x : Head) (g y : List ℕ) (a : Result Gathered Unread) → ((n : ℕ) (w : List ℕ) → Body t x y n w → Body (ended l t) h g n w)
    → BodyOf t x y a → BodyOf (ended l t) h g a
body_more l t h x g y (Ok a) f b = f a.n a.rows b
body_more l t h x g y (Err u) f b = tt

module _ (plain : Bool) (most room : ℕ) where
  pub body : (t : Text) (line : ℕ) (h : Head) (g : List ℕ) → h.n ≤ length g → BodyOf t h g (read_from_up_to plain most t room line (Some h) g)
  body done line h g f = cond_cases (BodyOf done h g) (eqb h.count h.m) _ _ (λ e. body_end h g (eqb-true h.count h.m e)) (λ _. tt)
  body (unended l) line h g f = tt
  body (ended l t) line h g f = go (shape_of l) refl (body t (line + 1))
    where
      F : Result Step Spot → Type 0
      F s = BodyOf (ended l t) h g (after plain s g line (read_from_up_to plain most t room (line + 1)))

      go : (s : Option Shape) → shape_of l ≡ s
          → ((h : Head) (g : List ℕ) → h.n ≤ length g → BodyOf t h g (read_from_up_to plain most t room (line + 1) (Some h) g))
          → F (step_up_to most (Some h) room (spot_of l) s)
      go None e r = tt
      go (Some Comment) e r =
          body_more l t h h g g (read_from_up_to plain most t room (line + 1) (Some h) g) (λ n w x. body_comment l t h g n w e x) (r h g f)
      go (Some (P c d)) e r = tt
      go (Some (E u v)) e r =
          let i = u - 1 in
          let j = v - 1 in
          cond_cases F (inside h.n u) _ _
          (λ a. cond_cases F (inside h.n v) _ _
          (λ b. cond_cases F (eqb u v) _ _ (λ _. tt)
          (λ d. cond_cases (BodyOf (ended l t) h g) (plain && matrix g i j) _ _ (λ _. tt)
          (λ _. body_more l t h (more h) g (join g i j) (read_from_up_to plain most t room (line + 1) (Some (more h)) (join g i j))
          (λ n w x. body_edge l t h g n w u v e f (record { first = inside_is h.n u a; second = inside_is h.n v b; differ = eqb-false u v d }) x)
          (r (more h) (join g i j) (omega (arith, join_length g i j))))))
          (λ _. tt))
          (λ _. tt)
