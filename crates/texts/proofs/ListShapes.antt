-- Faults of shape of a clash text, over its lines: a line has one of them at most, and that which the definition of lists finds.
--
--   due_test f : what is expected, and what stands, where f is the fault
--   Shaped t k f : line k has the fault of shape f
--
-- Assumes nothing.
use Prim.Native.Nat.{ℕ, ◌-◌, ◌≤◌, ◌<◌}
use mathlib.Core.Path.{◌≡◌, refl, sym, ap, subst, ◌∙◌}
use mathlib.Core.Logic.{◌⊎◌, inl, inr, ⊎_elim}
use mathlib.Core.List.{List, [], ◌∷◌}
use mathlib.Core.Bool.{Bool, true, false}
use native.Mathlib.Omega.{arith}
use lib.Dec.{T}
use lib.ListN.{take, drop}
use Rattle.std.specs.Prelude.{None}
use Rattle.lines.specs.Text.{Text, Within}
use Rattle.lists.specs.Shape.{shape_of}
use Rattle.lists.specs.declared.Fault.{Fault}
use Rattle.lists.specs.declared.Fault.TheVariants.{Line, Headless, Second, Size, Room, Vertex, Loop, Count, Long, Repeat, Digit, Space, Unended}
use Rattle.lists.specs.declared.Spot.{Spot}
use Rattle.lists.specs.Expect.{letter, space, number, more, anything, Pieces, permits, Due, Astray, digit_at, fault_at_lem, of_shape, permitted, spot_of}
use Rattle.lists.specs.Promise.{number_of}
use Rattle.lists.proofs.Columns.{astray_one, spot_astray, spot_whole, spot_bad, due_one}
use Rattle.lists.proofs.Permitted.{permitted_bad}
use Rattle.texts.specs.Faults.{Unended as NoFeed, place, Clean}
use Rattle.texts.specs.Listed.{At}
use Rattle.texts.specs.ListColumns.{line_at, word_due, digit_due, gap_due, Went, ColumnOf}
use Rattle.texts.specs.ListFaults.{Has, list_order}
use Rattle.texts.proofs.ListFaultLaws.{Found, has_fault}

-- ---- what was expected

abbrev due_test : Fault → Pieces → Bool → Bool
due_test Line g d = word_due g d
due_test Digit g d = digit_due g d
due_test Space g d = gap_due g d
due_test Unended g d = false
due_test Headless g d = false
due_test Second g d = false
due_test Size g d = false
due_test Room g d = false
due_test Vertex g d = false
due_test Loop g d = false
due_test Count g d = false
due_test Long g d = false
due_test Repeat g d = false

-- the fault of what is expected is the one whose test passes
due_passes : (g : Pieces) (d : Bool) → T (due_test (fault_at_lem g d) g d)
due_passes [] d = tt
due_passes (letter x ∷ g) d = tt
due_passes (space ∷ g) d = tt
due_passes (number ∷ g) d = tt
due_passes (more k ∷ g) true = tt
due_passes (more k ∷ g) false = tt
due_passes (anything ∷ g) d = tt

word_fault : (g : Pieces) (d : Bool) → T (word_due g d) → fault_at_lem g d ≡ Line
word_fault [] d h = absurd h
word_fault (letter x ∷ g) d h = refl
word_fault (space ∷ g) d h = absurd h
word_fault (number ∷ g) d h = absurd h
word_fault (more k ∷ g) d h = absurd h
word_fault (anything ∷ g) d h = absurd h

digit_fault : (g : Pieces) (d : Bool) → T (digit_due g d) → fault_at_lem g d ≡ Digit
digit_fault [] d h = absurd h
digit_fault (letter x ∷ g) d h = absurd h
digit_fault (space ∷ g) d h = absurd h
digit_fault (number ∷ g) d h = refl
digit_fault (more k ∷ g) true h = refl
digit_fault (more k ∷ g) false h = absurd h
digit_fault (anything ∷ g) d h = absurd h

gap_fault : (g : Pieces) (d : Bool) → T (gap_due g d) → fault_at_lem g d ≡ Space
gap_fault [] d h = refl
gap_fault (letter x ∷ g) d h = absurd h
gap_fault (space ∷ g) d h = refl
gap_fault (number ∷ g) d h = absurd h
gap_fault (more k ∷ g) true h = absurd h
gap_fault (more k ∷ g) false h = refl
gap_fault (anything ∷ g) d h = refl

-- ---- one fault of shape

module _ (t : Text) (k : ℕ) where
  -- of a bad line, the fault there
  pub record Spoilt (f : Fault) : Type 0 where
    pub bad : At t k None
    pub column : ℕ
    pub astray : Astray permitted (line_at t k) column
    pub expected : Pieces
    pub due : Due permitted (take (column - 1) (line_at t k)) expected
    pub kind : fault_at_lem expected (digit_at (drop (column - 1) (line_at t k))) ≡ f

  spoilt_one : (f g : Fault) → Spoilt f → Spoilt g → f ≡ g
  spoilt_one f g a b =
      let l = line_at t k in
      let e = astray_one permitted l b.column a.column b.astray a.astray in
      let q = subst (λ (c : ℕ). Due permitted (take (c - 1) l) b.expected) e b.due in
      sym a.kind ∙ due_one (take (a.column - 1) l) a.expected b.expected a.due q (digit_at (drop (a.column - 1) l))
      ∙ ap (λ (c : ℕ). fault_at_lem b.expected (digit_at (drop (c - 1) l))) (sym e) ∙ b.kind

  went : (f : Fault) (q : Pieces → Bool → Bool) → ((g : Pieces) (d : Bool) → T (q g d) → fault_at_lem g d ≡ f) → Went t k q → Spoilt f
  went f q p w =
      record { bad = w.bad; column = w.column; astray = w.astray; expected = w.expected; due = w.due; kind = p w.expected _ w.kind }

  -- by its number
  abbrev pub Shaped : Fault → Type 0
  Shaped f = Spoilt f ⊎ ((f ≡ Unended) × NoFeed t k × ¬ At t k None)

  module _ (plain : Bool) (most room : ℕ) where
    pub has_shaped : (f : Fault) → T (of_shape f) → Has plain most t room k (number_of f) → Shaped f
    has_shaped Line a x = inl (went Line word_due word_fault x)
    has_shaped Digit a x = inl (went Digit digit_due digit_fault x)
    has_shaped Space a x = inl (went Space gap_due gap_fault x)
    has_shaped Unended a x = inr (refl, x.0, x.1)
    has_shaped Headless a x = absurd a
    has_shaped Second a x = absurd a
    has_shaped Size a x = absurd a
    has_shaped Room a x = absurd a
    has_shaped Vertex a x = absurd a
    has_shaped Loop a x = absurd a
    has_shaped Count a x = absurd a
    has_shaped Long a x = absurd a
    has_shaped Repeat a x = absurd a

    -- of a line that is neither bad nor unended there is none
    pub shape_clean : ¬ At t k None → ¬ NoFeed t k → (f : Fault) → T (of_shape f) → ¬ Has plain most t room k (number_of f)
    shape_clean b u f a x = ⊎_elim (λ s. b s.bad) (λ s. u s.1) (has_shaped f a x)

    pub shape_one : (f g : Fault) → T (of_shape f) → T (of_shape g) → Has plain most t room k (number_of f) → Has plain most t room k (number_of g) → f ≡ g
    shape_one f g a b x y = go (has_shaped f a x) (has_shaped g b y)
      where
        go : Shaped f → Shaped g → f ≡ g
        go (inl p) (inl q) = spoilt_one f g p q
        go (inl p) (inr q) = absurd (q.2 p.bad)
        go (inr p) (inl q) = absurd (p.2 q.bad)
        go (inr p) (inr q) = p.0 ∙ sym q.0

    -- ---- the one that is found

    wents : (f : Fault) (c : ℕ) (g : Pieces) → At t k None → Astray permitted (line_at t k) c → Due permitted (take (c - 1) (line_at t k)) g
        → T (due_test f g (digit_at (drop (c - 1) (line_at t k)))) → Has plain most t room k (number_of f)
    wents Line c g b a d q = record { bad = b; column = c; astray = a; expected = g; due = d; kind = q }
    wents Digit c g b a d q = record { bad = b; column = c; astray = a; expected = g; due = d; kind = q }
    wents Space c g b a d q = record { bad = b; column = c; astray = a; expected = g; due = d; kind = q }
    wents Unended c g b a d q = absurd q
    wents Headless c g b a d q = absurd q
    wents Second c g b a d q = absurd q
    wents Size c g b a d q = absurd q
    wents Room c g b a d q = absurd q
    wents Vertex c g b a d q = absurd q
    wents Loop c g b a d q = absurd q
    wents Count c g b a d q = absurd q
    wents Long c g b a d q = absurd q
    wents Repeat c g b a d q = absurd q

    module _ (l : List ℕ) (e : line_at t k ≡ l) (w : At t k (shape_of l)) where
      pub bad_has : shape_of l ≡ None → Has plain most t room k (number_of (spot_of l).fault)
      bad_has b =
          let r = spot_bad l ((permitted_bad l).1 b) in
          subst (λ (f : Fault). Has plain most t room k (number_of f)) (sym r.2)
          (wents (fault_at_lem r.0 (digit_at (drop ((spot_of l).column - 1) l))) (spot_of l).column r.0 (subst (At t k) b w)
          (subst (λ (x : List ℕ). Astray permitted x (spot_of l).column) (sym e) (spot_astray l))
          (subst (λ (x : List ℕ). Due permitted (take ((spot_of l).column - 1) x) r.0) (sym e) r.1)
          (subst (λ (x : List ℕ). T (due_test (fault_at_lem r.0 (digit_at (drop ((spot_of l).column - 1) l))) r.0
          (digit_at (drop ((spot_of l).column - 1) x)))) (sym e)
          (due_passes r.0 (digit_at (drop ((spot_of l).column - 1) l)))))

      -- of a line without its line feed: its own fault, or 23
      pub open_has : NoFeed t k → Has plain most t room k (number_of (spot_of l).fault)
      open_has u = go (permits permitted l) refl
        where
          go : (b : Bool) → permits permitted l ≡ b → Has plain most t room k (number_of (spot_of l).fault)
          go false p = bad_has ((permitted_bad l).0 p)
          go true p =
              subst (λ (s : Spot). Has plain most t room k (number_of s.fault)) (sym (spot_whole l p))
              (u, λ a. subst T (sym p ∙ (permitted_bad l).1 (sym w.1 ∙ a.1)) tt)

-- ---- its place in the order, and its column

shape_place : (f : Fault) → T (of_shape f) → place list_order (number_of f) < 4
shape_place Line a = omega arith
shape_place Digit a = omega arith
shape_place Space a = omega arith
shape_place Unended a = omega arith
shape_place Headless a = absurd a
shape_place Second a = absurd a
shape_place Size a = absurd a
shape_place Room a = absurd a
shape_place Vertex a = absurd a
shape_place Loop a = absurd a
shape_place Count a = absurd a
shape_place Long a = absurd a
shape_place Repeat a = absurd a

other_place : (f : Fault) → of_shape f ≡ false → 4 ≤ place list_order (number_of f)
other_place Line a = absurd (subst T a tt)
other_place Digit a = absurd (subst T a tt)
other_place Space a = absurd (subst T a tt)
other_place Unended a = absurd (subst T a tt)
other_place Headless a = omega arith
other_place Second a = omega arith
other_place Size a = omega arith
other_place Room a = omega arith
other_place Vertex a = omega arith
other_place Loop a = omega arith
other_place Count a = omega arith
other_place Long a = omega arith
other_place Repeat a = omega arith

-- before a fault of shape in the order stand only such
pub shape_before : (f g : Fault) → T (of_shape f) → place list_order (number_of g) < place list_order (number_of f) → T (of_shape g)
shape_before f g a p = go (of_shape g) refl
  where
    go : (b : Bool) → of_shape g ≡ b → T b
    go true e = tt
    go false e = absurd (omega (arith, shape_place f a, other_place g e))

pub column_shape : (t : Text) (f : Fault) (k c : ℕ) → T (of_shape f) → Astray permitted (line_at t k) c → ColumnOf t (number_of f) k c
column_shape t Line k c a h = h
column_shape t Digit k c a h = h
column_shape t Space k c a h = h
column_shape t Unended k c a h = h
column_shape t Headless k c a h = absurd a
column_shape t Second k c a h = absurd a
column_shape t Size k c a h = absurd a
column_shape t Room k c a h = absurd a
column_shape t Vertex k c a h = absurd a
column_shape t Loop k c a h = absurd a
column_shape t Count k c a h = absurd a
column_shape t Long k c a h = absurd a
column_shape t Repeat k c a h = absurd a

-- ---- the line is refused with it

module _ (plain : Bool) (most : ℕ) (t : Text) (room k : ℕ) (f : Fault) (a : T (of_shape f)) (x : Has plain most t room k (number_of f)) where
  shape_lowest : (g : Fault) → place list_order (number_of g) < place list_order (number_of f) → ¬ Has plain most t room k (number_of g)
  shape_lowest g p y =
      let e = shape_one t k plain most room g f (shape_before f g a p) a y x in
      omega (arith, subst (λ (h : Fault). place list_order (number_of h) < place list_order (number_of f)) e p)

  pub shape_found : Within t k → ((j : ℕ) → j < k → Clean (Has plain most t room) j) → Found plain most t room f k
  shape_found w c = inl (record {
    within = w;
    fault = x;
    first = c;
    lowest = λ g p y. let v = has_fault plain most t room k g y in
        shape_lowest v.0 (subst (λ (m : ℕ). place list_order m < place list_order (number_of f)) v.1 p) (subst (Has plain most t room k) v.1 y);
  })
