-- A clash text that is accepted is a list, over its lines.
--
--   Front most room t n w : what the lines t are, where no p line stands before them, and reading accepts with n and the rows w
--
-- Assumes nothing.
use Prim.Native.Nat.{ℕ, zero, suc, ◌+◌, ◌≤◌, ◌<◌}
use mathlib.Core.Path.{◌≡◌, refl, sym, ap, subst, fun_ext, ◌∙◌}
use mathlib.Core.Logic.{⊎_elim}
use mathlib.Core.List.{List}
use mathlib.Core.Bool.{Bool}
use native.Mathlib.Decide.{dec_lt}
use native.Mathlib.Omega.{arith}
use borrow.Author.Tests.{leb-true}
use lib.Dec.{T, leb}
use lib.ListN.{length, get_or, take, replicate, length-take, length-replicate, get_or-eq_default}
use lib.Seq.{get_or-take, length-take-le}
use Rattle.std.specs.Prelude.{Option, None, Some, Result, Ok, Err}
use Rattle.sets.specs.Set.{has}
use Rattle.sets.specs.Lists.{bit}
use Rattle.sets.proofs.SetLaws.{has_none}
use Rattle.sets.proofs.TestLaws.{T-ext}
use Rattle.clashes.specs.Matrix.{matrix}
use Rattle.lines.specs.Text.{Text, done, unended, ended, lines_of}
use Rattle.lists.specs.Expect.{spot_of}
use Rattle.lists.specs.Shape.{shape_of, is_e}
use Rattle.lists.specs.Read.{start, no_rows_up_to, step_up_to, after, read_from_up_to, read_up_to}
use Rattle.lists.specs.declared.Shape.{Shape}
use Rattle.lists.specs.declared.Shape.TheVariants.{Comment, P, E}
use Rattle.lists.specs.declared.Head.{Head}
use Rattle.lists.specs.declared.Spot.{Spot}
use Rattle.lists.specs.declared.Step.{Step}
use Rattle.lists.specs.declared.Unread.{Unread}
use Rattle.lists.specs.declared.Gathered.{Gathered}
use Rattle.lines.proofs.Basics.{cond_cases}
use Rattle.texts.specs.Listed.{At, EdgeLine, RepeatAt, edge_lines, Whole, Proper, ListOf}
use Rattle.texts.proofs.ListLines.{at_first, at_later, at_cases}
use Rattle.texts.proofs.ListRefused.{list_clean}
use Rattle.texts.proofs.ListBody.{Body, BodyOf, edge_later, edge_back, edge_back_p, body}

-- ---- before the p line

pub record Front (most room : ℕ) (t : Text) (n : ℕ) (w : List ℕ) : Type 0 where
  pub long : length w ≡ most
  pub few : n ≤ most
  pub fits : n ≤ room
  pub whole : Whole t
  pub permitted : (k : ℕ) → At t k None → ⊥
  pub head : ℕ
  pub stated : ℕ
  pub header : At t head (Some (P n stated))
  pub only : (k a b : ℕ) → At t k (Some (P a b)) → k ≡ head
  pub counted : edge_lines t ≡ stated
  pub edges : (k u v : ℕ) → At t k (Some (E u v)) → (head < k) × Proper n u v
  pub was : (i j : ℕ) → T (matrix w i j) → EdgeLine t i j
  pub new : (i j : ℕ) → EdgeLine t i j → T (matrix w i j)

front_comment : (most room : ℕ) (l : List ℕ) (t : Text) (n : ℕ) (w : List ℕ) → shape_of l ≡ Some Comment → Front most room t n w → Front most room (ended l t) n w
front_comment most room l t n w e r = record {
  long = r.long;
  few = r.few;
  fits = r.fits;
  whole = r.whole;
  permitted = λ k x. ⊎_elim (λ y. let z : ◌≡◌ {A = ℕ} 0 1 = cc y.1 in omega arith) (λ y. r.permitted y.0 y.2) (at_cases l t k None x);
  head = suc r.head;
  stated = r.stated;
  header = at_later l t r.head _ r.header;
  only = λ k a b x. ⊎_elim (λ y. let z : ◌≡◌ {A = ℕ} 0 1 = cc y.1 in omega arith) (λ y. y.1 ∙ ap suc (r.only y.0 a b y.2)) (at_cases l t k (Some (P a b)) x);
  counted = let z = ap (λ (x : Option Shape). bit (is_e x)) e in omega (arith, r.counted);
  edges = λ k u v x.
      ⊎_elim (λ y. let z : ◌≡◌ {A = ℕ} 0 1 = cc y.1 in absurd (omega arith))
      (λ y. let q = r.edges y.0 u v y.2 in (omega (arith, q.0, y.1), q.1)) (at_cases l t k (Some (E u v)) x);
  was = λ i j x. edge_later l t i j (r.was i j x);
  new = λ i j x. r.new i j (edge_back l t e i j x);
}

front_header : (most room : ℕ) (l : List ℕ) (t : Text) (n m : ℕ) (w : List ℕ) → shape_of l ≡ Some (P n m) → length w ≡ most → n ≤ most → n ≤ room → (h : Head)
    → h.n ≡ n → h.m ≡ m → h.count ≡ 0 → (g : List ℕ)
    → ((i j : ℕ) → T (matrix g i j) → ⊥) → Body t h g n w → Front most room (ended l t) n w
front_header most room l t n m w e z f d h hn hm hc g bare r = record {
  long = z;
  few = f;
  fits = d;
  whole = r.whole;
  permitted = λ k x. ⊎_elim (λ y. let z : ◌≡◌ {A = ℕ} 0 1 = cc y.1 in omega arith) (λ y. r.permitted y.0 y.2) (at_cases l t k None x);
  head = 1;
  stated = m;
  header = at_first l t _ e;
  only = λ k a b x. ⊎_elim (λ y. y.0) (λ y. absurd (r.no_p y.0 a b y.2)) (at_cases l t k (Some (P a b)) x);
  counted = let z = ap (λ (x : Option Shape). bit (is_e x)) e in omega (arith, r.counted);
  edges = λ k u v x.
      ⊎_elim (λ y. let z : ◌≡◌ {A = ℕ} 0 1 = cc y.1 in absurd (omega arith))
      (λ y. (omega (arith, y.1, y.2.0.0), r.edges y.0 u v y.2)) (at_cases l t k (Some (E u v)) x);
  was = λ i j x. ⊎_elim (λ y. absurd (bare i j y)) (λ y. edge_later l t i j y) (r.was i j x);
  new = λ i j x. r.new i j (edge_back_p l t n m e i j x);
}

-- what reading finds, where it accepts
abbrev FrontOf : ℕ → ℕ → Text → Result Gathered Unread → Type 0
FrontOf most room t (Ok f) = Front most room t f.n f.rows
FrontOf most room t (Err u) = Unit {0}

module _ (plain : Bool) (most room : ℕ) where
  front_more : (l : List ℕ) (t : Text) (a : Result Gathered Unread) → ((n : ℕ) (w : List ℕ) → Front most room t n w → Front most room (ended l t) n w)
      → FrontOf most room t a → FrontOf most room (ended l t) a
  front_more l t (Ok a) f x = f a.n a.rows x
  front_more l t (Err u) f x = tt

  front_body : (l : List ℕ) (t : Text) (h : Head) (g : List ℕ) (a : Result Gathered Unread) → ((n : ℕ) (w : List ℕ) → Body t h g n w → Front most room (ended l t) n w)
      → BodyOf t h g a → FrontOf most room (ended l t) a
  front_body l t h g (Ok a) f x = f a.n a.rows x
  front_body l t h g (Err u) f x = tt

  front : (t : Text) (line : ℕ) (g : List ℕ) → length g ≡ most → ((i j : ℕ) → T (matrix g i j) → ⊥)
      → FrontOf most room t (read_from_up_to plain most t room line None g)
  front done line g z bare = tt
  front (unended l) line g z bare = tt
  front (ended l t) line g z bare = go (shape_of l) refl (front t (line + 1))
    where
      F : Result Step Spot → Type 0
      F s = FrontOf most room (ended l t) (after plain s g line (read_from_up_to plain most t room (line + 1)))

      header : (c d : ℕ) → shape_of l ≡ Some (P c d) → c ≤ most → c ≤ room → (h : Head) → h.n ≡ c → h.m ≡ d → h.count ≡ 0 → (n : ℕ) (w : List ℕ)
          → Body t h g n w → Front most room (ended l t) n w
      header c d e a b h x y v n w r =
          let s : c ≡ n = sym x ∙ r.size in
          front_header most room l t n d w (e ∙ ap (λ (x : ℕ). Some (P x d)) s) (r.long ∙ z) (omega arith) (omega arith) h r.size y v g bare r

      go : (s : Option Shape) → shape_of l ≡ s
          → ((g : List ℕ) → length g ≡ most → ((i j : ℕ) → T (matrix g i j) → ⊥)
          → FrontOf most room t (read_from_up_to plain most t room (line + 1) None g))
          → F (step_up_to most None room (spot_of l) s)
      go None e r = tt
      go (Some Comment) e r = front_more l t (read_from_up_to plain most t room (line + 1) None g) (λ n w x. front_comment most room l t n w e x) (r g z bare)
      go (Some (P c d)) e r =
          let x : Head = record { n = c; m = d; count = 0 } in
          cond_cases F (leb c most) _ _
          (λ a. cond_cases F (leb c room) _ _
          (λ b. front_body l t x g (read_from_up_to plain most t room (line + 1) (Some x) g)
          (λ n w y. header c d e (leb-true c most a) (leb-true c room b) x refl refl refl n w y)
          (body plain most room t (line + 1) x g (omega (arith, leb-true c most a))))
          (λ _. tt))
          (λ _. tt)
      go (Some (E u v)) e r = tt

-- ---- the whole text

none_bare : (most a b : ℕ) → T (matrix (no_rows_up_to most) a b) → ⊥
none_bare most a b h = subst T (ap (λ (r : ℕ). has r b) (row most a) ∙ has_none b) h
  where
    row : (m i : ℕ) → ◌≡◌ {A = ℕ} (get_or (replicate m 0) i 0) 0
    row zero i = refl
    row (suc m) zero = refl
    row (suc m) (suc i) = row m i

module _ (plain : Bool) (most longest : ℕ) where
  abbrev Shown : List ℕ → ℕ → Result Gathered Unread → Type 0
  Shown s room (Ok f) = (length s ≤ longest) × Front most room (lines_of s) f.n f.rows
  Shown s room (Err u) = Unit {0}

  shown : (s : List ℕ) (room : ℕ) → length s ≤ longest → (a : Result Gathered Unread) → FrontOf most room (lines_of s) a → Shown s room a
  shown s room h (Ok f) x = (h, x)
  shown s room h (Err u) x = tt

  front_accepted : (s : List ℕ) (room : ℕ) (f : Gathered) → read_up_to plain most longest s room ≡ Ok f
      → (length s ≤ longest) × Front most room (lines_of s) f.n f.rows
  front_accepted s room f a =
      subst (Shown s room) a
      (cond_cases (Shown s room) (leb (length s) longest) _ _
      (λ e. shown s room (leb-true (length s) longest e) (read_from_up_to plain most (lines_of s) room 1 start (no_rows_up_to most))
      (front plain most room (lines_of s) 1 (no_rows_up_to most) (length-replicate most 0) (none_bare most)))
      (λ _. tt))

  -- the rows from n on have no clash
  module _ (s : List ℕ) (room n : ℕ) (w : List ℕ) (short : length s ≤ longest) (r : Front most room (lines_of s) n w) where
    edge_below : (i j : ℕ) → EdgeLine (lines_of s) i j → i < n
    edge_below i j x =
        ⊎_elim (λ y. omega (arith, (r.edges x.0 _ _ y).1.first.1)) (λ y. omega (arith, (r.edges x.0 _ _ y).1.second.1)) x.1

    pub first_rows : matrix (take n w) ≡ matrix w
    first_rows = fun_ext (λ i. fun_ext (λ j. T-ext (matrix (take n w) i j) (matrix w i j) (λ x. forth i j x (dec_lt i n)) (λ x. back i j (edge_below i j (r.was i j x)) x)))
      where
        forth : (i j : ℕ) → T (matrix (take n w) i j) → Dec (i < n) → T (matrix w i j)
        forth i j x (yes h) = subst T (ap (λ (y : ℕ). has y j) (get_or-take n w i 0 h)) x
        forth i j x (no h) = absurd (subst T (ap (λ (y : ℕ). has y j) (get_or-eq_default (take n w) 0 (omega (arith, length-take n w))) ∙ has_none j) x)

        back : (i j : ℕ) → i < n → T (matrix w i j) → T (matrix (take n w) i j)
        back i j h x = subst T (sym (ap (λ (y : ℕ). has y j) (get_or-take n w i 0 h))) x

    pub list_is : (T plain → (k : ℕ) → ¬ RepeatAt (lines_of s) k) → ListOf plain most longest s n (take n w)
    list_is once = record {
      short = short;
      few = r.few;
      whole = r.whole;
      permitted = r.permitted;
      head = r.head;
      stated = r.stated;
      header = r.header;
      only = r.only;
      counted = r.counted;
      edges = r.edges;
      once = once;
      long = length-take-le n w (omega (arith, r.few, r.long));
      clashes = λ i j. let e = ap (λ (m : ℕ → ℕ → Bool). m i j) first_rows in (λ x. r.was i j (subst T e x), λ x. subst T (sym e) (r.new i j x));
    }

  -- what is read as n entries is a list of n, whose clashes are those of the first n rows
  pub list_accepted : (s : List ℕ) (room : ℕ) (f : Gathered) → read_up_to plain most longest s room ≡ Ok f
      → ListOf plain most longest s f.n (take f.n f.rows) × (f.n ≤ room) × (matrix (take f.n f.rows) ≡ matrix f.rows)
  list_accepted s room f a =
      let r = front_accepted s room f a in
      (list_is s room f.n f.rows r.0 r.1 (λ p k x. list_clean plain most longest s room f a k x.3.0.1 20 (p, x)), r.1.fits, first_rows s room f.n f.rows r.0 r.1)
