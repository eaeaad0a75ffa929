-- A line of a clash text, by what is known before it: the first fault that it has, or that it has none.
--
--   edges_in h : how many e lines the head h has counted, none where there is no p line
--   Told plain most t0 room i h t : what is known after the first i lines of t0, of which t are the rest, where none of them has a fault
--
-- Assumes nothing.
use Prim.Native.Nat.{ℕ, ◌+◌, ◌≤◌, ◌<◌}
use mathlib.Core.Path.{◌≡◌, refl, sym, ap, subst, ◌∙◌}
use mathlib.Core.Logic.{◌⊎◌, inl, ⊎_elim}
use mathlib.Core.List.{List}
use mathlib.Core.Bool.{Bool}
use native.Mathlib.Decide.{dec_lt}
use native.Mathlib.Omega.{arith}
use lib.Dec.{T}
use Rattle.std.specs.Prelude.{Option, None, Some}
use Rattle.sets.specs.Lists.{bit}
use Rattle.lines.specs.Text.{Text, ended}
use Rattle.lists.specs.Shape.{shape_of, is_e}
use Rattle.lists.specs.declared.Shape.{Shape}
use Rattle.lists.specs.declared.Shape.TheVariants.{Comment, P, E}
use Rattle.lists.specs.declared.Fault.{Fault}
use Rattle.lists.specs.declared.Fault.TheVariants.{Line, Headless, Second, Size, Room, Vertex, Loop, Count, Long, Repeat, Digit, Space, Unended as NoFeed}
use Rattle.lists.specs.declared.Head.{Head}
use Rattle.lists.specs.Expect.{of_shape, spot_of}
use Rattle.lists.specs.Promise.{number_of}
use Rattle.lists.proofs.Columns.{spot_shape}
use Rattle.texts.specs.Faults.{Unended, Outside, place, Clean}
use Rattle.texts.specs.Listed.{At, RepeatAt, edge_lines}
use Rattle.texts.specs.ListFaults.{PBefore, Has, list_order}
use Rattle.texts.proofs.ListFaultLaws.{Found, has_fault, clean_of}
use Rattle.texts.proofs.ListShapes.{shape_clean, bad_has, shape_found}
use Rattle.texts.proofs.ListLines.{Rest, rest_next, unended_none}

-- ---- what is known

abbrev pub edges_in : Option Head → ℕ
edges_in None = 0
edges_in (Some y) = y.count

pub record Told (plain : Bool) (most : ℕ) (t0 : Text) (room i : ℕ) (h : Option Head) (t : Text) : Type 0 where
  pub rest : Rest t0 i t
  pub clean : (j : ℕ) → j ≤ i → Clean (Has plain most t0 room) j
  pub unseen : h ≡ None → (j n m : ℕ) → j ≤ i → ¬ At t0 j (Some (P n m))
  pub seen : (y : Head) → h ≡ Some y → (j : ℕ) × (j ≤ i) × At t0 j (Some (P y.n y.m)) × ((a b c : ℕ) → a ≤ i → At t0 a (Some (P b c)) → (b ≡ y.n) × (c ≡ y.m))
  pub counted : edges_in h + edge_lines t ≡ edge_lines t0

module _ (plain : Bool) (most : ℕ) (t0 : Text) (room i : ℕ) (h : Option Head) (l : List ℕ) (t : Text) (told : Told plain most t0 room i h (ended l t)) where
  pub here : At t0 (i + 1) (shape_of l)
  here = told.rest.forth 1 (shape_of l) ((omega arith, omega arith), refl)

  pub same : (x : Option Shape) → At t0 (i + 1) x → shape_of l ≡ x
  same x a = sym here.1 ∙ a.1

  closed : ¬ Unended t0 (i + 1)
  closed u = unended_none t (told.rest.open_back 1 (omega arith) u)

  -- no p line before it where none was seen, and only the one where one was
  none_before : h ≡ None → (n : ℕ) → ¬ PBefore t0 (i + 1) n
  none_before e n b = told.unseen e b.0 n b.1 (omega (arith, b.2)) b.3

  one_before : (y : Head) → h ≡ Some y → PBefore t0 (i + 1) y.n
  one_before y e = let s = told.seen y e in (s.0, y.m, omega (arith, s.1), s.2)

  before_is : (y : Head) → h ≡ Some y → (n : ℕ) → PBefore t0 (i + 1) n → n ≡ y.n
  before_is y e n b = ((told.seen y e).3 b.0 n b.1 (omega (arith, b.2)) b.3).0

  stop : (f : Fault) → Has plain most t0 room (i + 1) (number_of f)
      → ((g : Fault) → place list_order (number_of g) < place list_order (number_of f) → ¬ Has plain most t0 room (i + 1) (number_of g))
      → Found plain most t0 room f (i + 1)
  stop f a b = inl (record { within = here.0; fault = a; first = λ j p. told.clean j (omega arith); lowest = low })
    where
      low : (g : ℕ) → place list_order g < place list_order (number_of f) → ¬ Has plain most t0 room (i + 1) g
      low g c x =
          let w = has_fault plain most t0 room (i + 1) g x in
          b w.0 (subst (λ (m : ℕ). place list_order m < place list_order (number_of f)) w.1 c) (subst (Has plain most t0 room (i + 1)) w.1 x)

  -- ---- by the line's shape

  pub bad : shape_of l ≡ None → Found plain most t0 room (spot_of l).fault (i + 1)
  bad e =
      shape_found plain most t0 room (i + 1) (spot_of l).fault (spot_shape l) (bad_has t0 (i + 1) plain most room l (told.rest.lines 1 (omega arith)) here e)
      here.0 (λ j p. told.clean j (omega arith))

  comment_not_bad : shape_of l ≡ Some Comment → (f : Fault) → T (of_shape f) → ¬ Has plain most t0 room (i + 1) (number_of f)
  comment_not_bad e = shape_clean t0 (i + 1) plain most room (λ a. let z : ◌≡◌ {A = ℕ} 0 1 = cc (same None a) in omega arith) closed

  clean_comment : shape_of l ≡ Some Comment → (f : Fault) → ¬ Has plain most t0 room (i + 1) (number_of f)
  clean_comment e Line x = comment_not_bad e Line tt x
  clean_comment e Digit x = comment_not_bad e Digit tt x
  clean_comment e Space x = comment_not_bad e Space tt x
  clean_comment e NoFeed x = comment_not_bad e NoFeed tt x
  clean_comment e Headless x = let z : ◌≡◌ {A = ℕ} 0 1 = cc (same _ x.0.2) in omega arith
  clean_comment e Second x = let z : ◌≡◌ {A = ℕ} 0 1 = cc (same _ x.0.2) in omega arith
  clean_comment e Size x = let z : ◌≡◌ {A = ℕ} 0 1 = cc (same _ x.2) in omega arith
  clean_comment e Room x = let z : ◌≡◌ {A = ℕ} 0 1 = cc (same _ x.2) in omega arith
  clean_comment e Vertex x = let z : ◌≡◌ {A = ℕ} 0 1 = cc (same _ x.3) in omega arith
  clean_comment e Loop x = let z : ◌≡◌ {A = ℕ} 0 1 = cc (same _ x.1) in omega arith
  clean_comment e Repeat x = let z : ◌≡◌ {A = ℕ} 0 1 = cc (same _ x.1.3) in omega arith
  clean_comment e Count x = x
  clean_comment e Long x = x

  -- a p line
  module _ (n m : ℕ) (e : shape_of l ≡ Some (P n m)) where
    p_here : At t0 (i + 1) (Some (P n m))
    p_here = subst (At t0 (i + 1)) e here

    p_is : (a b : ℕ) → At t0 (i + 1) (Some (P a b)) → (a ≡ n) × (b ≡ m)
    p_is a b x = let q : ◌≡◌ {A = Option Shape} (Some (P a b)) (Some (P n m)) = sym (same _ x) ∙ e in (cc, cc)

    p_not_bad : (f : Fault) → T (of_shape f) → ¬ Has plain most t0 room (i + 1) (number_of f)
    p_not_bad = shape_clean t0 (i + 1) plain most room (λ a. let z : ◌≡◌ {A = ℕ} 0 1 = cc (same None a) in omega arith) closed

    p_not_e : (u v : ℕ) → ¬ At t0 (i + 1) (Some (E u v))
    p_not_e u v x = let z : ◌≡◌ {A = ℕ} 0 1 = cc (same _ x) in omega arith

    p_first : h ≡ None → ¬ Has plain most t0 room (i + 1) (number_of Second)
    p_first q x = none_before q x.1.0 x.1.1

    p_small : n ≤ most → ¬ Has plain most t0 room (i + 1) (number_of Size)
    p_small b x = omega (arith, (p_is x.0 x.1 x.2).0, x.3)

    p_fits : n ≤ room → ¬ Has plain most t0 room (i + 1) (number_of Room)
    p_fits b x = omega (arith, (p_is x.0 x.1 x.2).0, x.3)

    pub second : (y : Head) → h ≡ Some y → Found plain most t0 room Second (i + 1)
    second y q = stop Second ((n, m, p_here), (y.n, one_before y q)) low
      where
        low : (g : Fault) → place list_order (number_of g) < place list_order (number_of Second) → ¬ Has plain most t0 room (i + 1) (number_of g)
        low Line p x = p_not_bad Line tt x
        low Digit p x = p_not_bad Digit tt x
        low Space p x = p_not_bad Space tt x
        low NoFeed p x = p_not_bad NoFeed tt x
        low Headless p x = p_not_e x.0.0 x.0.1 x.0.2
        low Second p x = omega arith
        low Size p x = omega arith
        low Room p x = omega arith
        low Vertex p x = omega arith
        low Loop p x = omega arith
        low Repeat p x = omega arith
        low Count p x = omega arith
        low Long p x = omega arith

    pub large : h ≡ None → most < n → Found plain most t0 room Size (i + 1)
    large q b = stop Size (n, m, p_here, b) low
      where
        low : (g : Fault) → place list_order (number_of g) < place list_order (number_of Size) → ¬ Has plain most t0 room (i + 1) (number_of g)
        low Line p x = p_not_bad Line tt x
        low Digit p x = p_not_bad Digit tt x
        low Space p x = p_not_bad Space tt x
        low NoFeed p x = p_not_bad NoFeed tt x
        low Headless p x = p_not_e x.0.0 x.0.1 x.0.2
        low Second p x = p_first q x
        low Size p x = omega arith
        low Room p x = omega arith
        low Vertex p x = omega arith
        low Loop p x = omega arith
        low Repeat p x = omega arith
        low Count p x = omega arith
        low Long p x = omega arith

    pub roomless : h ≡ None → n ≤ most → room < n → Found plain most t0 room Room (i + 1)
    roomless q b d = stop Room (n, m, p_here, d) low
      where
        low : (g : Fault) → place list_order (number_of g) < place list_order (number_of Room) → ¬ Has plain most t0 room (i + 1) (number_of g)
        low Line p x = p_not_bad Line tt x
        low Digit p x = p_not_bad Digit tt x
        low Space p x = p_not_bad Space tt x
        low NoFeed p x = p_not_bad NoFeed tt x
        low Headless p x = p_not_e x.0.0 x.0.1 x.0.2
        low Second p x = p_first q x
        low Size p x = p_small b x
        low Room p x = omega arith
        low Vertex p x = omega arith
        low Loop p x = omega arith
        low Repeat p x = omega arith
        low Count p x = omega arith
        low Long p x = omega arith

    clean_p : h ≡ None → n ≤ most → n ≤ room → (f : Fault) → ¬ Has plain most t0 room (i + 1) (number_of f)
    clean_p q b d Line x = p_not_bad Line tt x
    clean_p q b d Digit x = p_not_bad Digit tt x
    clean_p q b d Space x = p_not_bad Space tt x
    clean_p q b d NoFeed x = p_not_bad NoFeed tt x
    clean_p q b d Headless x = p_not_e x.0.0 x.0.1 x.0.2
    clean_p q b d Second x = p_first q x
    clean_p q b d Size x = p_small b x
    clean_p q b d Room x = p_fits d x
    clean_p q b d Vertex x = p_not_e x.0 x.1 x.3
    clean_p q b d Loop x = p_not_e x.0 x.0 x.1
    clean_p q b d Repeat x = p_not_e x.1.0 x.1.1 x.1.3
    clean_p q b d Count x = x
    clean_p q b d Long x = x

  -- an e line
  module _ (u v : ℕ) (e : shape_of l ≡ Some (E u v)) where
    e_here : At t0 (i + 1) (Some (E u v))
    e_here = subst (At t0 (i + 1)) e here

    e_is : (a b : ℕ) → At t0 (i + 1) (Some (E a b)) → (a ≡ u) × (b ≡ v)
    e_is a b x = let q : ◌≡◌ {A = Option Shape} (Some (E a b)) (Some (E u v)) = sym (same _ x) ∙ e in (cc, cc)

    e_not_bad : (f : Fault) → T (of_shape f) → ¬ Has plain most t0 room (i + 1) (number_of f)
    e_not_bad = shape_clean t0 (i + 1) plain most room (λ a. let z : ◌≡◌ {A = ℕ} 0 1 = cc (same None a) in omega arith) closed

    e_not_p : (a b : ℕ) → ¬ At t0 (i + 1) (Some (P a b))
    e_not_p a b x = let z : ◌≡◌ {A = ℕ} 0 1 = cc (same _ x) in omega arith

    pub headless : h ≡ None → Found plain most t0 room Headless (i + 1)
    headless q = stop Headless ((u, v, e_here), none_before q) low
      where
        low : (g : Fault) → place list_order (number_of g) < place list_order (number_of Headless) → ¬ Has plain most t0 room (i + 1) (number_of g)
        low Line p x = e_not_bad Line tt x
        low Digit p x = e_not_bad Digit tt x
        low Space p x = e_not_bad Space tt x
        low NoFeed p x = e_not_bad NoFeed tt x
        low Headless p x = omega arith
        low Second p x = omega arith
        low Size p x = omega arith
        low Room p x = omega arith
        low Vertex p x = omega arith
        low Loop p x = omega arith
        low Repeat p x = omega arith
        low Count p x = omega arith
        low Long p x = omega arith

    headed : (y : Head) → h ≡ Some y → ¬ Has plain most t0 room (i + 1) (number_of Headless)
    headed y q x = x.1 y.n (one_before y q)

    pub vertex : (y : Head) → h ≡ Some y → Outside y.n u ⊎ Outside y.n v → Found plain most t0 room Vertex (i + 1)
    vertex y q o = stop Vertex (u, v, y.n, e_here, one_before y q, o) low
      where
        low : (g : Fault) → place list_order (number_of g) < place list_order (number_of Vertex) → ¬ Has plain most t0 room (i + 1) (number_of g)
        low Line p x = e_not_bad Line tt x
        low Digit p x = e_not_bad Digit tt x
        low Space p x = e_not_bad Space tt x
        low NoFeed p x = e_not_bad NoFeed tt x
        low Headless p x = headed y q x
        low Second p x = e_not_p x.0.0 x.0.1 x.0.2
        low Size p x = e_not_p x.0 x.1 x.2
        low Room p x = e_not_p x.0 x.1 x.2
        low Vertex p x = omega arith
        low Loop p x = omega arith
        low Repeat p x = omega arith
        low Count p x = omega arith
        low Long p x = omega arith

    in_list : (y : Head) → h ≡ Some y → (1 ≤ u) × (u ≤ y.n) → (1 ≤ v) × (v ≤ y.n) → ¬ Has plain most t0 room (i + 1) (number_of Vertex)
    in_list y q a b x =
        let w = e_is x.0 x.1 x.3 in
        let z = before_is y q x.2 x.4 in
        ⊎_elim (λ o. ⊎_elim (λ k. omega (arith, w.0, a.0)) (λ k. omega (arith, w.0, a.1)) o)
        (λ o. ⊎_elim (λ k. omega (arith, w.1, b.0)) (λ k. omega (arith, w.1, b.1)) o) x.5

    pub loop : (y : Head) → h ≡ Some y → (1 ≤ u) × (u ≤ y.n) → (1 ≤ v) × (v ≤ y.n) → u ≡ v → Found plain most t0 room Loop (i + 1)
    loop y q a b s = stop Loop (u, subst (λ (w : ℕ). At t0 (i + 1) (Some (E u w))) (sym s) e_here) low
      where
        low : (g : Fault) → place list_order (number_of g) < place list_order (number_of Loop) → ¬ Has plain most t0 room (i + 1) (number_of g)
        low Line p x = e_not_bad Line tt x
        low Digit p x = e_not_bad Digit tt x
        low Space p x = e_not_bad Space tt x
        low NoFeed p x = e_not_bad NoFeed tt x
        low Headless p x = headed y q x
        low Second p x = e_not_p x.0.0 x.0.1 x.0.2
        low Size p x = e_not_p x.0 x.1 x.2
        low Room p x = e_not_p x.0 x.1 x.2
        low Vertex p x = in_list y q a b x
        low Loop p x = omega arith
        low Repeat p x = omega arith
        low Count p x = omega arith
        low Long p x = omega arith

    -- different entries of the list: no fault but a repeat
    only_repeat : (y : Head) → h ≡ Some y → (1 ≤ u) × (u ≤ y.n) → (1 ≤ v) × (v ≤ y.n) → (u ≡ v → ⊥) → (f : Fault)
        → Has plain most t0 room (i + 1) (number_of f) → number_of f ≡ number_of Repeat
    only_repeat y q a b d Line x = absurd (e_not_bad Line tt x)
    only_repeat y q a b d Digit x = absurd (e_not_bad Digit tt x)
    only_repeat y q a b d Space x = absurd (e_not_bad Space tt x)
    only_repeat y q a b d NoFeed x = absurd (e_not_bad NoFeed tt x)
    only_repeat y q a b d Headless x = absurd (headed y q x)
    only_repeat y q a b d Second x = absurd (e_not_p x.0.0 x.0.1 x.0.2)
    only_repeat y q a b d Size x = absurd (e_not_p x.0 x.1 x.2)
    only_repeat y q a b d Room x = absurd (e_not_p x.0 x.1 x.2)
    only_repeat y q a b d Vertex x = absurd (in_list y q a b x)
    only_repeat y q a b d Loop x = absurd (let w = e_is x.0 x.0 x.1 in d (sym w.0 ∙ w.1))
    only_repeat y q a b d Count x = absurd x
    only_repeat y q a b d Long x = absurd x
    only_repeat y q a b d Repeat x = refl

    pub clean_e : (y : Head) → h ≡ Some y → (1 ≤ u) × (u ≤ y.n) → (1 ≤ v) × (v ≤ y.n) → (u ≡ v → ⊥) → ¬ (T plain × RepeatAt t0 (i + 1)) → (f : Fault)
        → ¬ Has plain most t0 room (i + 1) (number_of f)
    clean_e y q a b d w f x = w (subst (Has plain most t0 room (i + 1)) (only_repeat y q a b d f x) x)

    pub repeated : (y : Head) → h ≡ Some y → (1 ≤ u) × (u ≤ y.n) → (1 ≤ v) × (v ≤ y.n) → (u ≡ v → ⊥) → T plain → RepeatAt t0 (i + 1)
        → Found plain most t0 room Repeat (i + 1)
    repeated y q a b d p r =
        stop Repeat (p, r) (λ g l x. omega (arith, subst (λ (m : ℕ). place list_order m < place list_order (number_of Repeat)) (only_repeat y q a b d g x) l))

  -- ---- one line on

  clean_more : Clean (Has plain most t0 room) (i + 1) → (j : ℕ) → j ≤ i + 1 → Clean (Has plain most t0 room) j
  clean_more c j b = go (dec_lt i j)
    where
      go : Dec (i < j) → Clean (Has plain most t0 room) j
      go (yes a) = let z : i + 1 ≡ j = omega arith in subst (Clean (Has plain most t0 room)) z c
      go (no a) = told.clean j (omega arith)

  -- a line that is no p line adds none
  p_less : (is_p : (n m : ℕ) → ¬ At t0 (i + 1) (Some (P n m))) (j n m : ℕ) → j ≤ i + 1 → At t0 j (Some (P n m)) → (j ≤ i)
  p_less no_p j n m b a = go (dec_lt i j)
    where
      go : Dec (i < j) → j ≤ i
      go (yes d) = let z : j ≡ i + 1 = omega arith in absurd (no_p n m (subst (λ (y : ℕ). At t0 y (Some (P n m))) z a))
      go (no d) = omega arith

  pub told_comment : shape_of l ≡ Some Comment → Told plain most t0 room (i + 1) h t
  told_comment e = record {
    rest = rest_next t0 i l t told.rest;
    clean = clean_more (clean_of plain most t0 room (i + 1) (clean_comment e));
    unseen = λ q j n m b a. told.unseen q j n m (p_less not_p j n m b a) a;
    seen = λ y q. let s = told.seen y q in (s.0, omega (arith, s.1), s.2, λ a b c d x. s.3 a b c (p_less not_p a b c d x) x);
    counted = let z = ap (λ (x : Option Shape). bit (is_e x)) e in omega (arith, told.counted);
  }
    where
      not_p : (n m : ℕ) → ¬ At t0 (i + 1) (Some (P n m))
      not_p n m x = let z : ◌≡◌ {A = ℕ} 0 1 = cc (same _ x) in omega arith

  pub told_p : (n m : ℕ) → shape_of l ≡ Some (P n m) → h ≡ None → n ≤ most → n ≤ room
      → Told plain most t0 room (i + 1) (Some (record { n = n; m = m; count = 0 })) t
  told_p n m e q b d = record {
    rest = rest_next t0 i l t told.rest;
    clean = clean_more (clean_of plain most t0 room (i + 1) (clean_p n m e q b d));
    unseen = λ x. absurd (let z : ◌≡◌ {A = ℕ} 0 1 = cc in omega arith);
    seen = λ y x. (
      i + 1,
      omega arith,
      subst (λ (k : Head). At t0 (i + 1) (Some (P k.n k.m))) (is y x) (p_here n m e),
      λ a b c k w. subst (λ (k : Head). (b ≡ k.n) × (c ≡ k.m)) (is y x) (only a b c k w (dec_lt i a)),
    );
    counted = let z = ap (λ (x : Option Shape). bit (is_e x)) e in let c = ap edges_in q in omega (arith, told.counted);
  }
    where
      new : Head
      new = record { n = n; m = m; count = 0 }

      is : (y : Head) → Some new ≡ Some y → new ≡ y
      is y x = cc

      only : (a y z : ℕ) → a ≤ i + 1 → At t0 a (Some (P y z)) → Dec (i < a) → (y ≡ n) × (z ≡ m)
      only a y z c w (yes k) = let x : a ≡ i + 1 = omega arith in p_is n m e y z (subst (λ (b : ℕ). At t0 b (Some (P y z))) x w)
      only a y z c w (no k) = absurd (told.unseen q a y z (omega arith) w)

  pub told_e : (u v : ℕ) → shape_of l ≡ Some (E u v) → (y : Head) → h ≡ Some y → (1 ≤ u) × (u ≤ y.n) → (1 ≤ v) × (v ≤ y.n) → (u ≡ v → ⊥)
      → ¬ (T plain × RepeatAt t0 (i + 1)) → Told plain most t0 room (i + 1) (Some (record { n = y.n; m = y.m; count = y.count + 1 })) t
  told_e u v e y q a b d w = record {
    rest = rest_next t0 i l t told.rest;
    clean = clean_more (clean_of plain most t0 room (i + 1) (clean_e u v e y q a b d w));
    unseen = λ x. absurd (let z : ◌≡◌ {A = ℕ} 0 1 = cc in omega arith);
    seen = λ k x. subst (λ (z : Head). Seen z) (is k x) seen_here;
    counted = let z = ap (λ (x : Option Shape). bit (is_e x)) e in let c = ap edges_in q in omega (arith, told.counted);
  }
    where
      new : Head
      new = record { n = y.n; m = y.m; count = y.count + 1 }

      is : (k : Head) → Some new ≡ Some k → new ≡ k
      is k x = cc

      Seen : Head → Type 0
      Seen z = (j : ℕ) × (j ≤ i + 1) × At t0 j (Some (P z.n z.m)) × ((a b c : ℕ) → a ≤ i + 1 → At t0 a (Some (P b c)) → (b ≡ z.n) × (c ≡ z.m))

      seen_here : Seen new
      seen_here = let s = told.seen y q in (s.0, omega (arith, s.1), s.2, λ a b c d x. s.3 a b c (p_less (e_not_p u v e) a b c d x) x)
