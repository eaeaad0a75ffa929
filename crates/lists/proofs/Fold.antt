-- One turn of the loop over the lines, and what holds of every text: n is at most the most entries and at most the room.
use Prim.Native.Nat.{ℕ, ◌+◌, ◌-◌, ◌≤◌, ◌<◌}
use mathlib.Core.Path.{◌≡◌, refl, sym, ap, subst, ◌∙◌}
use mathlib.Core.List.{List}
use mathlib.Core.Bool.{Bool, true, false, cond, ◌&&◌}
use native.Mathlib.Omega.{arith}
use borrow.Author.Tests.{leb-true, le-leb}
use lib.Dec.{T, leb, eqb}
use lib.ListN.{length, take, drop, length-set}
use Rattle.std.specs.Prelude.{Option, None, Some, Result, Ok, Err, IfSome}
use Rattle.clashes.specs.Matrix.{matrix}
use Rattle.lines.specs.Text.{Text, done, unended, ended, lines_of, line_end_lem}
use Rattle.lines.proofs.Basics.{cond_cases}
use Rattle.lines.proofs.Lines.{line_ended, line_unended}
use Rattle.lists.specs.Shape.{shape_of}
use Rattle.lists.specs.Expect.{spot_of}
use Rattle.lists.specs.Read.{no_rows_up_to, refused_at, refused, inside, edge_of, step_up_to, mark, join, after, read_from_up_to, start, read_up_to, most_entries, longest_text, read_of, answer_in}
use Rattle.lists.specs.declared.Shape.{Shape}
use Rattle.lists.specs.declared.Shape.TheVariants.{Comment, P, E}
use Rattle.lists.specs.declared.Fault.TheVariants.{Long, Repeat}
use Rattle.lists.specs.declared.Spot.{Spot}
use Rattle.lists.specs.declared.Head.{Head}
use Rattle.lists.specs.declared.Unread.{Unread}
use Rattle.lists.specs.declared.Gathered.{Gathered}
use Rattle.lists.specs.declared.Step.{Step}
use Rattle.lists.specs.declared.Step.TheVariants.{Go, Edge}

-- ---- a step keeps n small and its ends within n

pub inside_is : (n u : ℕ) → inside n u ≡ true → (1 ≤ u) × (u ≤ n)
inside_is n u = go (leb 1 u) refl
  where
    go : (x : Bool) → leb 1 u ≡ x → cond x (leb u n) false ≡ true → (1 ≤ u) × (u ≤ n)
    go true e f = (leb-true 1 u e, leb-true u n f)
    go false e f = absurd (subst T (sym f) tt)

-- what is known: k is the most that n may be, and c the most e lines
abbrev pub Few : ℕ → ℕ → Option Head → Type 0
Few k c h = IfSome h (λ h. (h.n ≤ k) × (h.count ≤ c))

-- what a step leaves, where c is the most e lines before
abbrev pub Kept : ℕ → ℕ → Result Step Spot → Type 0
Kept k c (Err p) = Unit {0}
Kept k c (Ok (Go h)) = Few k c h
Kept k c (Ok (Edge g i j)) = (g.n ≤ k) × (g.count ≤ c + 1) × (i < g.n) × (j < g.n)

edge_kept : (h : Head) (k c u v : ℕ) → h.n ≤ k → h.count ≤ c → Kept k c (edge_of h u v)
edge_kept h k c u v a b =
    let K = Kept k c in
    cond_cases K (inside h.n u) _ _
    (λ iu. cond_cases K (inside h.n v) _ _
    (λ iv. let x = inside_is h.n u iu in let y = inside_is h.n v iv in
    cond_cases K (eqb u v) _ _ (λ _. tt) (λ _. (a, omega arith, omega arith, omega arith)))
    (λ _. tt))
    (λ _. tt)

module _ (most : ℕ) where
  -- both bounds of n: the most entries, and the room
  pub step_kept : (h : Option Head) (room : ℕ) (p : Spot) (s : Option Shape) (k c : ℕ) → ((n : ℕ) → n ≤ most → n ≤ room → n ≤ k) → Few k c h
      → Kept k c (step_up_to most h room p s)
  step_kept h room p None k c f a = tt
  step_kept h room p (Some Comment) k c f a = a
  step_kept (Some h) room p (Some (P n m)) k c f a = tt
  step_kept None room p (Some (P n m)) k c f a =
      let K = Kept k c in
      cond_cases K (leb n most) _ _ (λ e. cond_cases K (leb n room) _ _ (λ r. (f n (leb-true n most e) (leb-true n room r), omega arith)) (λ _. tt)) (λ _. tt)
  step_kept (Some h) room p (Some (E u v)) k c f a = edge_kept h k c u v a.0 a.1
  step_kept None room p (Some (E u v)) k c f a = tt

-- ---- the rows

pub mark_length : (g : List ℕ) (i j : ℕ) → length (mark g i j) ≡ length g
mark_length g i j = length-set g i _

pub join_length : (g : List ℕ) (i j : ℕ) → length (join g i j) ≡ length g
join_length g i j = mark_length (mark g i j) j i ∙ mark_length g i j

-- ---- the loop's places

module _ (plain : Bool) (most : ℕ) where
  pub read_halts : (s : List ℕ) (room a e k : ℕ) (h : Option Head) (g : List ℕ) → e ≡ line_end_lem s a → a < length s → length s ≤ e
      → read_from_up_to plain most (lines_of (drop a s)) room k h g ≡ refused_at (spot_of (drop a s)) k
  read_halts s room a e k h g q i l = ap (λ (t : Text). read_from_up_to plain most t room k h g) (line_unended s a e q i l)

  -- a line that is ended at e, and the step that it makes
  module _ (s : List ℕ) (room a e k : ℕ) (h : Option Head) (g : List ℕ) (q : e ≡ line_end_lem s a) (l : e < length s) where
    -- what the line does
    abbrev pub does : Result Step Spot
    does = step_up_to most h room (spot_of (take (e - a) (drop a s))) (shape_of (take (e - a) (drop a s)))

    pub turn : (st : Result Step Spot) → does ≡ st
        → read_from_up_to plain most (lines_of (drop a s)) room k h g ≡ after plain st g k (read_from_up_to plain most (lines_of (drop (e + 1) s)) room (k + 1))
    turn st p =
        ap (λ (t : Text). read_from_up_to plain most t room k h g) (line_ended s a e q l)
        ∙ ap (λ (x : Result Step Spot). after plain x g k (read_from_up_to plain most (lines_of (drop (e + 1) s)) room (k + 1))) p

    -- the rest of the text, with what is known next, is what it was
    pub record Turned (h' : Option Head) (g' : List ℕ) : Type 0 where
      pub few : Few most (e + 1) h'
      pub size : length g' ≡ most
      pub same : read_from_up_to plain most (lines_of (drop (e + 1) s)) room (k + 1) h' g' ≡ read_from_up_to plain most (lines_of (drop a s)) room k h g

    module _ (c : ℕ) (z : length g ≡ most) (few : Few most c h) (before : c ≤ e) where
      keeps : (st : Result Step Spot) → does ≡ st → Kept most c st
      keeps st p =
          subst (Kept most c) p (step_kept most h room (spot_of (take (e - a) (drop a s))) (shape_of (take (e - a) (drop a s))) most c
          (λ n x y. x) few)

      pub ends_below : (x : Head) (i j : ℕ) → does ≡ Ok (Edge x i j) → (i < most) × (j < most)
      ends_below x i j p = let d = keeps (Ok (Edge x i j)) p in (omega (arith, d.0, d.2), omega (arith, d.0, d.3))

      -- an edge that the plain reading has met
      pub repeated : (x : Head) (i j : ℕ) → does ≡ Ok (Edge x i j) → (plain && matrix g i j) ≡ true
          → read_from_up_to plain most (lines_of (drop a s)) room k h g ≡ refused Repeat k
      repeated x i j p r = turn (Ok (Edge x i j)) p ∙ rw r

      pub turned_go : (x : Option Head) → does ≡ Ok (Go x) → (h' : Option Head) (g' : List ℕ) → g' ≡ g → h' ≡ x → Turned h' g'
      turned_go x p h' g' eg eh =
          let d = keeps (Ok (Go x)) p in
          rw (eg, eh) (record { few = few_more x d; size = z; same = sym (turn (Ok (Go x)) p) })
        where
          few_more : (x : Option Head) → Few most c x → Few most (e + 1) x
          few_more None f = tt
          few_more (Some x) f = (f.0, omega (arith, f.1, before))

      pub turned_edge : (x : Head) (i j : ℕ) → does ≡ Ok (Edge x i j)
          → (plain && matrix g i j) ≡ false → (h' : Option Head) (g' g₁ g₂ : List ℕ) → g₁ ≡ mark g i j → g₂ ≡ mark g₁ j i → g' ≡ g₂ → h' ≡ Some x → Turned h' g'
      turned_edge x i j p r h' g' g₁ g₂ e₁ e₂ eg eh =
          let d = keeps (Ok (Edge x i j)) p in
          rw (eg, eh, e₂, e₁) (record { few = (d.0, omega (arith, d.1, before)); size = join_length g i j ∙ z; same = sym (turn (Ok (Edge x i j)) p ∙ rw r) })

-- ---- an accepted list has at most the most entries, and no more than the room

abbrev pub Bounded : ℕ → Result ℕ Unread → Type 0
Bounded k (Ok n) = n ≤ k
Bounded k (Err u) = Unit {0}

abbrev Fits : ℕ → Result Gathered Unread → Type 0
Fits k f = Bounded k (answer_in f)

module _ (plain : Bool) (most : ℕ) where
  from_bounded : (t : Text) (room l : ℕ) (h : Option Head) (g : List ℕ) (k c : ℕ) → ((n : ℕ) → n ≤ most → n ≤ room → n ≤ k) → Few k c h
      → Fits k (read_from_up_to plain most t room l h g)
  from_bounded done room l None g k c f a = tt
  from_bounded done room l (Some h) g k c f a = cond_cases (Fits k) (eqb h.count h.m) _ _ (λ _. a.0) (λ _. tt)
  from_bounded (unended x) room l h g k c f a = tt
  from_bounded (ended x t) room l h g k c f a =
      go (step_up_to most h room (spot_of x) (shape_of x)) (step_kept most h room (spot_of x) (shape_of x) k c f a)
      (λ h g c. from_bounded t room (l + 1) h g k c f)
    where
      go : (st : Result Step Spot) → Kept k c st → ((h : Option Head) (g : List ℕ) (c : ℕ) → Few k c h → Fits k (read_from_up_to plain most t room (l + 1) h g))
          → Fits k (after plain st g l (read_from_up_to plain most t room (l + 1)))
      go (Err p) d r = tt
      go (Ok (Go y)) d r = r y g c d
      go (Ok (Edge y i j)) d r = cond_cases (Fits k) (plain && matrix g i j) _ _ (λ _. tt) (λ _. r (Some y) (join g i j) (c + 1) (d.0, d.1))

module _ (plain : Bool) (most longest : ℕ) where
  pub read_short : (s : List ℕ) (room : ℕ) → length s ≤ longest
      → read_from_up_to plain most (lines_of s) room 1 start (no_rows_up_to most) ≡ read_up_to plain most longest s room
  read_short s room l = sym (ap (λ (b : Bool). cond b (read_from_up_to plain most (lines_of s) room 1 start (no_rows_up_to most)) (refused Long 0)) (le-leb _ _ l))

  read_bounded : (s : List ℕ) (room k : ℕ) → ((n : ℕ) → n ≤ most → n ≤ room → n ≤ k) → Fits k (read_up_to plain most longest s room)
  read_bounded s room k f = cond_cases (Fits k) (leb (length s) longest) _ _ (λ _. from_bounded plain most (lines_of s) room 1 start (no_rows_up_to most) k 0 f tt) (λ _. tt)

  pub read_up_to_few : (s : List ℕ) (room : ℕ) → Bounded most (answer_in (read_up_to plain most longest s room))
  read_up_to_few s room = read_bounded s room most (λ n x y. x)

  pub read_up_to_fits : (s : List ℕ) (room : ℕ) → Bounded room (answer_in (read_up_to plain most longest s room))
  read_up_to_fits s room = read_bounded s room room (λ n x y. y)

pub read_few : (plain : Bool) (s : List ℕ) (room : ℕ) → Bounded most_entries (answer_in (read_of plain s room))
read_few plain = read_up_to_few plain most_entries longest_text

pub read_fits : (plain : Bool) (s : List ℕ) (room : ℕ) → Bounded room (answer_in (read_of plain s room))
read_fits plain = read_up_to_fits plain most_entries longest_text

-- what was gathered fits the rows aside, and the lent ones
pub gathered_fits : (plain : Bool) (s : List ℕ) (room : ℕ) (f : Gathered) → read_of plain s room ≡ Ok f → (f.n ≤ most_entries) × (f.n ≤ room)
gathered_fits plain s room f e = (subst (Fits most_entries) e (read_few plain s room), subst (Fits room) e (read_fits plain s room))
