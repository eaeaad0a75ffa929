-- The line that a refusal of a clash text names: 18 none; a fault of a line that line, which for 17 is the p line; a fault at the text's end (16, or
-- 11 where no line is a p line) the number of lines plus one.
--
--   Bare b t k    : no p line stands before line k; b is whether one stands before t, false for a whole text
--   Named b t f k : where the fault f may be found, if line k is named
--   Names t a     : the answer a to the whole text t names such a line, if it refuses
--
-- Assumes nothing.
use Prim.Native.Nat.{ℕ, zero, suc, ◌+◌, ◌<◌}
use mathlib.Core.Path.{◌≡◌, refl, sym, subst}
use mathlib.Core.List.{List}
use mathlib.Core.Bool.{Bool, true, false, ◌&&◌}
use mathlib.Core.Logic.{◌⊎◌, inl, inr}
use native.Mathlib.Omega.{arith}
use lib.Dec.{T, leb, eqb}
use lib.ListN.{length}
use Rattle.std.specs.Prelude.{Option, None, Some, Result, Ok, Err, is_some}
use Rattle.clashes.specs.Matrix.{matrix}
use Rattle.lines.specs.Text.{Text, done, unended, ended, lines_of, line_count, Within}
use Rattle.lines.proofs.Basics.{cond_cases}
use Rattle.lists.specs.Shape.{shape_of, shape_at, is_p, is_e}
use Rattle.lists.specs.Read.{no_rows_up_to, inside, edge_of, step_up_to, join, after, read_from_up_to, start, read_up_to, answer_in}
use Rattle.lists.specs.Expect.{of_shape, spot_of}
use Rattle.lists.specs.Promise.{ReadPromiseUpTo}
use Rattle.lists.specs.declared.Shape.{Shape}
use Rattle.lists.specs.declared.Shape.TheVariants.{Comment, P, E}
use Rattle.lists.specs.declared.Fault.{Fault}
use Rattle.lists.specs.declared.Fault.TheVariants.{Line, Headless, Second, Size, Vertex, Loop, Count, Room, Long, Repeat, Digit, Space, Unended}
use Rattle.lists.specs.declared.Spot.{Spot}
use Rattle.lists.specs.declared.Head.{Head}
use Rattle.lists.specs.declared.Unread.{Unread}
use Rattle.lists.specs.declared.Gathered.{Gathered}
use Rattle.lists.specs.declared.Step.{Step}
use Rattle.lists.specs.declared.Step.TheVariants.{Go, Edge}
use Rattle.lists.proofs.Columns.{spot_shape}

abbrev pub Bare : Bool → Text → ℕ → Type 0
Bare b t k = (b ≡ false) × ((j : ℕ) → suc j < k → is_p (shape_at t (suc j)) ≡ false)

abbrev pub Named : Bool → Text → Fault → ℕ → Type 0
Named b t Long k = k ≡ 0
Named b t Line k = Within t k
Named b t Digit k = Within t k
Named b t Space k = Within t k
Named b t Unended k = Within t k
Named b t Headless k = Bare b t k × ((Within t k × T (is_e (shape_at t k))) ⊎ (k ≡ line_count t + 1))
Named b t Second k = Within t k
Named b t Size k = Within t k
Named b t Vertex k = Within t k
Named b t Loop k = Within t k
Named b t Repeat k = Within t k
Named b t Room k = Bare b t k × (Within t k × T (is_p (shape_at t k)))
Named b t Count k = k ≡ line_count t + 1

abbrev pub Names : Text → Result ℕ Unread → Type 0
Names t (Ok n) = Unit {0}
Names t (Err u) = Named false t u.why u.line

-- ---- a line more at the front

-- after a line of shape s a p line was met where c says so, before it where b does
abbrev Led : Bool → Option Shape → Bool → Type 0
Led b s c = c ≡ false → (b ≡ false) × (is_p s ≡ false)

bare_later : (b c : Bool) (l : List ℕ) (t : Text) (k : ℕ) → Led b (shape_of l) c → Bare c t k → Bare b (ended l t) (suc k)
bare_later b c l t k d h = ((d h.0).0, go)
  where
    go : (j : ℕ) → suc j < suc k → is_p (shape_at (ended l t) (suc j)) ≡ false
    go zero i = (d h.0).1
    go (suc j) i = h.1 j (omega arith)

within_later : (l : List ℕ) (t : Text) (k : ℕ) → Within t k → Within (ended l t) (suc k)
within_later l t k h = (omega (arith, h.0), omega (arith, h.1))

named_later : (f : Fault) (b c : Bool) (l : List ℕ) (t : Text) (i : ℕ) → Led b (shape_of l) c → Named c t f (suc i) → Named b (ended l t) f (suc (suc i))
named_later Long b c l t i d h = absurd (omega arith)
named_later Line b c l t i d h = within_later l t (suc i) h
named_later Digit b c l t i d h = within_later l t (suc i) h
named_later Space b c l t i d h = within_later l t (suc i) h
named_later Unended b c l t i d h = within_later l t (suc i) h
named_later Headless b c l t i d h = (bare_later b c l t (suc i) d h.0, go h.1)
  where
    go : (Within t (suc i) × T (is_e (shape_at t (suc i)))) ⊎ (suc i ≡ line_count t + 1)
        → (Within (ended l t) (suc (suc i)) × T (is_e (shape_at t (suc i)))) ⊎ (suc (suc i) ≡ suc (line_count t) + 1)
    go (inl x) = inl (within_later l t (suc i) x.0, x.1)
    go (inr e) = inr (omega arith)
named_later Second b c l t i d h = within_later l t (suc i) h
named_later Size b c l t i d h = within_later l t (suc i) h
named_later Vertex b c l t i d h = within_later l t (suc i) h
named_later Loop b c l t i d h = within_later l t (suc i) h
named_later Repeat b c l t i d h = within_later l t (suc i) h
named_later Room b c l t i d h = (bare_later b c l t (suc i) d h.0, (within_later l t (suc i) h.1.0, h.1.1))
named_later Count b c l t i d h = omega arith

-- a fault of shape is named wherever a line is
named_shape : (b : Bool) (t : Text) (f : Fault) (k : ℕ) → T (of_shape f) → Within t k → Named b t f k
named_shape b t Line k a h = h
named_shape b t Headless k a h = absurd a
named_shape b t Second k a h = absurd a
named_shape b t Size k a h = absurd a
named_shape b t Vertex k a h = absurd a
named_shape b t Loop k a h = absurd a
named_shape b t Count k a h = absurd a
named_shape b t Room k a h = absurd a
named_shape b t Long k a h = absurd a
named_shape b t Repeat k a h = absurd a
named_shape b t Digit k a h = h
named_shape b t Space k a h = h
named_shape b t Unended k a h = h

-- ---- a step

bare_first : (b : Bool) (t : Text) → b ≡ false → Bare b t 1
bare_first b t e = (e, λ j h. absurd (omega arith))

within_first : (l : List ℕ) (t : Text) → Within (ended l t) 1
within_first l t = (omega arith, omega arith)

-- a fault of a line, whichever lines follow, unless it is that of its shape, p; or what is known then
abbrev InLine : Bool → Option Shape → Result Step Spot → Type 0
InLine b s (Err p) = T (of_shape p.fault) ⊎ ((l : List ℕ) (t : Text) → shape_of l ≡ s → Named b (ended l t) p.fault 1)
InLine b s (Ok (Go h)) = Led b s (is_some h)
InLine b s (Ok (Edge h i j)) = Unit {0}

edge_in : (h : Head) (b : Bool) (s : Option Shape) (u v : ℕ) → InLine b s (edge_of h u v)
edge_in h b s u v =
    cond_cases (InLine b s) (inside h.n u) _ _
    (λ _. cond_cases (InLine b s) (inside h.n v) _ _
    (λ _. cond_cases (InLine b s) (eqb u v) _ _ (λ _. inr (λ l t _. within_first l t)) (λ _. tt))
    (λ _. inr (λ l t _. within_first l t)))
    (λ _. inr (λ l t _. within_first l t))

module _ (most : ℕ) where
  step_in : (h : Option Head) (room : ℕ) (p : Spot) (s : Option Shape) → T (of_shape p.fault) → InLine (is_some h) s (step_up_to most h room p s)
  step_in h room p None a = inl a
  step_in h room p (Some Comment) a = λ e. (e, refl)
  step_in (Some h) room p (Some (P n m)) a = inr (λ l t _. within_first l t)
  step_in None room p (Some (P n m)) a =
      let I = InLine false (Some (P n m)) in
      cond_cases I (leb n most) _ _
      (λ _. cond_cases I (leb n room) _ _ (λ _ e. absurd (subst T e tt))
      (λ _. inr (λ l t q. (bare_first false (ended l t) refl, (within_first l t, subst (λ (s : Option Shape). T (is_p s)) (sym q) tt)))))
      (λ _. inr (λ l t _. within_first l t))
  step_in (Some h) room p (Some (E u v)) a = edge_in h true (Some (E u v)) u v
  step_in None room p (Some (E u v)) a =
      inr (λ l t q. (bare_first false (ended l t) refl, inl (within_first l t, subst (λ (s : Option Shape). T (is_e s)) (sym q) tt)))

-- ---- a text

-- the lines t, of which the first is line k
abbrev From : Bool → Text → ℕ → Result Gathered Unread → Type 0
From b t k (Ok g) = Unit {0}
From b t k (Err u) = (i : ℕ) × (u.line ≡ k + i) × Named b t u.why (suc i)

from_later : (a : Result Gathered Unread) (b c : Bool) (l : List ℕ) (t : Text) (k : ℕ) → Led b (shape_of l) c → From c t (k + 1) a → From b (ended l t) k a
from_later (Ok g) b c l t k d h = tt
from_later (Err u) b c l t k d h = (suc h.0, omega (arith, h.1), named_later u.why b c l t h.0 d h.2)

module _ (plain : Bool) (most : ℕ) where
  from_names : (t : Text) (room k : ℕ) (h : Option Head) (g : List ℕ) → From (is_some h) t k (read_from_up_to plain most t room k h g)
  from_names done room k None g = (0, omega arith, (bare_first false done refl, inr (omega arith)))
  from_names done room k (Some h) g = cond_cases (From true done k) (eqb h.count h.m) _ _ (λ _. tt) (λ _. (0, omega arith, omega arith))
  from_names (unended l) room k h g =
      (0, omega arith, named_shape (is_some h) (unended l) (spot_of l).fault 1 (spot_shape l) (omega arith, omega arith))
  from_names (ended l t) room k h g =
      go (step_up_to most h room (spot_of l) (shape_of l)) (step_in most h room (spot_of l) (shape_of l) (spot_shape l)) (from_names t room (k + 1))
    where
      go : (st : Result Step Spot) → InLine (is_some h) (shape_of l) st
          → ((x : Option Head) (y : List ℕ) → From (is_some x) t (k + 1) (read_from_up_to plain most t room (k + 1) x y))
          → From (is_some h) (ended l t) k (after plain st g k (read_from_up_to plain most t room (k + 1)))
      go (Err p) (inl d) r = (0, omega arith, named_shape (is_some h) (ended l t) p.fault 1 d (within_first l t))
      go (Err p) (inr d) r = (0, omega arith, d l t refl)
      go (Ok (Go x)) d r = from_later (read_from_up_to plain most t room (k + 1) x g) (is_some h) (is_some x) l t k d (r x g)
      go (Ok (Edge x i j)) d r =
          cond_cases (From (is_some h) (ended l t) k) (plain && matrix g i j) _ _ (λ _. (0, omega arith, within_first l t))
          (λ _. from_later (read_from_up_to plain most t room (k + 1) (Some x) (join g i j)) (is_some h) true l t k (λ e. absurd (subst T e tt)) (r (Some x) (join g i j)))

whole : (t : Text) (f : Result Gathered Unread) → From false t 1 f → Names t (answer_in f)
whole t (Ok g) h = tt
whole t (Err u) h = let e : suc h.0 ≡ u.line = omega (arith, h.1) in subst (Named false t u.why) e h.2

module _ (plain : Bool) (most longest : ℕ) where
  -- the law
  pub read_names : (s : List ℕ) (room : ℕ) → Names (lines_of s) (answer_in (read_up_to plain most longest s room))
  read_names s room =
      cond_cases (λ (x : Result Gathered Unread). Names (lines_of s) (answer_in x)) (leb (length s) longest) _ _
      (λ _. whole (lines_of s) (read_from_up_to plain most (lines_of s) room 1 start (no_rows_up_to most)) (from_names plain most (lines_of s) room 1 start (no_rows_up_to most))) (λ _. refl)

  -- and so the call
  pub call_names : (s old : List ℕ) (a : Result ℕ Unread) (new : List ℕ) → ReadPromiseUpTo plain most longest s old a new → Names (lines_of s) a
  call_names s old a new p = subst (Names (lines_of s)) (sym p.answer) (read_names s (length old))
