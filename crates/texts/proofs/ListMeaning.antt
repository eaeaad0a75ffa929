-- The words leave one answer to a clash text: one list or one refusal, and not both. Reading gives just that.
use Prim.Native.Nat.{ℕ, suc, ◌≤◌}
use mathlib.Core.Path.{◌≡◌, refl, sym, ap, subst, ◌∙◌}
use mathlib.Core.Logic.{◌⊎◌, inl, inr, ⊎_elim, ◌↔◌}
use mathlib.Core.List.{List, [], ◌∷◌}
use mathlib.Core.Bool.{Bool, true, false}
use native.Mathlib.Omega.{arith}
use borrow.Author.Tests.{eqb-true}
use lib.Dec.{T, eqb}
use lib.ListN.{length, get_or, take}
use Rattle.std.specs.Prelude.{Option, Some, Result, Ok, Err}
use Rattle.sets.specs.Lists.{some?}
use Rattle.refusals.specs.Table.{If}
use Rattle.sets.proofs.SetLaws.{same_members}
use Rattle.sets.proofs.TestLaws.{T-ext}
use Rattle.clashes.specs.Matrix.{matrix, Valid}
use Rattle.lines.specs.Text.{Text, lines_of}
use Rattle.lists.specs.declared.Shape.TheVariants.{P}
use Rattle.lists.specs.declared.Fault.{Fault}
use Rattle.lists.specs.declared.Fault.TheVariants.{Line, Headless, Second, Size, Room, Vertex, Loop, Count, Long, Repeat, Digit, Space, Unended}
use Rattle.lists.specs.declared.Shape.{Shape}
use Rattle.lists.specs.declared.Unread.{Unread}
use Rattle.lists.specs.declared.Gathered.{Gathered}
use Rattle.lists.specs.Expect.{Astray, permitted}
use Rattle.lists.specs.Promise.{number_of}
use Rattle.lists.proofs.Columns.{astray_one}
use Rattle.lists.specs.Read.{read_up_to}
use Rattle.texts.specs.Faults.{Faultless}
use Rattle.texts.specs.Listed.{At, RepeatAt, ListOf}
use Rattle.texts.specs.ListColumns.{line_at, shape_faults, ColumnOf}
use Rattle.texts.specs.ListFaults.{Has, list_order, Lacks, ListRefused}
use Rattle.texts.proofs.Refusals.{if_cases, refusal_one, refusal_none}
use Rattle.texts.proofs.ListLines.{whole_closed}
use Rattle.texts.proofs.ListAccepted.{list_accepted}
use Rattle.texts.proofs.ListFaultLaws.{has_fault, has_known}
use Rattle.texts.proofs.ListShapes.{shape_clean}
use Rattle.texts.proofs.ListRefused.{list_refused}

-- ---- one refusal

lacks_one : (t : Text) (f g : ℕ) → Lacks t f → Lacks t g → f ≡ g
lacks_one t f g a b = go (cases f a) (cases g b)
  where
    cases : (f : ℕ) → Lacks t f → ((f ≡ 11) × ((k n m : ℕ) → ¬ At t k (Some (P n m)))) ⊎ ((f ≡ 16) × ((k n m : ℕ) × At t k (Some (P n m))))
    cases f h = if_cases (eqb f 11) h (λ e x. inl (eqb-true f 11 e, x)) (λ _ h. if_cases (eqb f 16) h (λ e x. inr (eqb-true f 16 e, (x.0, x.1, x.2, x.3))) (λ _ h. absurd h))

    go : ((f ≡ 11) × ((k n m : ℕ) → ¬ At t k (Some (P n m)))) ⊎ ((f ≡ 16) × ((k n m : ℕ) × At t k (Some (P n m))))
        → ((g ≡ 11) × ((k n m : ℕ) → ¬ At t k (Some (P n m)))) ⊎ ((g ≡ 16) × ((k n m : ℕ) × At t k (Some (P n m)))) → f ≡ g
    go (inl x) (inl y) = x.0 ∙ sym y.0
    go (inl x) (inr y) = let w = y.1 in absurd (x.1 w.0 w.1 w.2 w.3)
    go (inr x) (inl y) = let w = x.1 in absurd (y.1 w.0 w.1 w.2 w.3)
    go (inr x) (inr y) = x.0 ∙ sym y.0

column_one : (t : Text) (f k c d : ℕ) → ColumnOf t f k c → ColumnOf t f k d → c ≡ d
column_one t f k c d = go (some? (eqb f) shape_faults)
  where
    go : (b : Bool) → If b (Astray permitted (line_at t k) c) (c ≡ 0) → If b (Astray permitted (line_at t k) d) (d ≡ 0) → c ≡ d
    go true x y = astray_one permitted (line_at t k) c d x y
    go false x y = x ∙ sym y

module _ (plain : Bool) (most longest : ℕ) (s : List ℕ) where
  pub list_refusal_one : (room f g k j c d : ℕ) → ListRefused plain most longest s room f k c → ListRefused plain most longest s room g j d
      → (f ≡ g) × (k ≡ j) × (c ≡ d)
  list_refusal_one room f g k j c d a b =
      let o = refusal_one longest s (Has plain most (lines_of s) room) list_order (Lacks (lines_of s)) (has_known plain most (lines_of s) room)
      (lacks_one (lines_of s)) f g k j a.0 b.0 in
      let e = subst (λ (x : ℕ). ColumnOf (lines_of s) f x d) (sym o.1) (subst (λ (x : ℕ). ColumnOf (lines_of s) x j d) (sym o.0) b.1) in
      (o.0, o.1, column_one (lines_of s) f k c d a.1 e)

  -- where as many rows are lent as a list can have entries, 17 cannot arise: 13 comes first
  pub never_room : (k c : ℕ) → ¬ ListRefused plain most longest s most (number_of Room) k c
  never_room k c h = ⊎_elim (λ a. a.lowest (number_of Size) (omega arith) a.fault) (λ a. a.fault) h.0.1

  -- ---- a list has no fault

  module _ (n : ℕ) (rows : List ℕ) (x : ListOf plain most longest s n rows) where
    p_says : (k a b : ℕ) → At (lines_of s) k (Some (P a b)) → (k ≡ x.head) × (a ≡ n) × (b ≡ x.stated)
    p_says k a b h =
        let e = x.only k a b h in
        let q : ◌≡◌ {A = Option Shape} (Some (P a b)) (Some (P n x.stated)) = sym (subst (λ (j : ℕ). At (lines_of s) j (Some (P a b))) e h).1 ∙ x.header.1 in
        (e, cc, cc)

    fault_none : (room : ℕ) → n ≤ room → (k : ℕ) (f : Fault) → ¬ Has plain most (lines_of s) room k (number_of f)
    fault_none room f k Line h = shape_clean (lines_of s) k plain most room (x.permitted k) (whole_closed (lines_of s) k x.whole) Line tt h
    fault_none room f k Digit h = shape_clean (lines_of s) k plain most room (x.permitted k) (whole_closed (lines_of s) k x.whole) Digit tt h
    fault_none room f k Space h = shape_clean (lines_of s) k plain most room (x.permitted k) (whole_closed (lines_of s) k x.whole) Space tt h
    fault_none room f k Unended h = shape_clean (lines_of s) k plain most room (x.permitted k) (whole_closed (lines_of s) k x.whole) Unended tt h
    fault_none room f k Headless h = h.1 n (x.head, x.stated, (x.edges k _ _ h.0.2).0, x.header)
    fault_none room f k Second h = let b = h.1.1 in omega (arith, (p_says k _ _ h.0.2).0, (p_says b.0 _ _ b.3).0, b.2)
    fault_none room f k Size h = omega (arith, (p_says k _ _ h.2).1, h.3, x.few)
    fault_none room f k Room h = omega (arith, (p_says k _ _ h.2).1, h.3)
    fault_none room f k Vertex h =
        let e = (x.edges k _ _ h.3).1 in
        let b = h.4 in
        let z = (p_says b.0 _ _ b.3).1 in
        ⊎_elim (λ o. ⊎_elim (λ y. omega (arith, e.first.0)) (λ y. omega (arith, e.first.1)) o)
        (λ o. ⊎_elim (λ y. omega (arith, e.second.0)) (λ y. omega (arith, e.second.1)) o) h.5
    fault_none room f k Loop h = (x.edges k _ _ h.1).1.differ refl
    fault_none room f k Repeat h = x.once h.0 k h.1
    fault_none room f k Count h = h
    fault_none room f k Long h = h

    lack_none : (f : ℕ) → ¬ Lacks (lines_of s) f
    lack_none f h =
        if_cases (eqb f 11) h (λ _ h. h x.head n x.stated x.header)
        (λ _ h. if_cases (eqb f 16) h (λ _ h. h.4 (x.counted ∙ sym (p_says h.0 _ _ h.3).2)) (λ _ h. h))

    list_faultless : (room : ℕ) → n ≤ room → Faultless longest s (Has plain most (lines_of s) room) (Lacks (lines_of s))
    list_faultless room h = record {
      short = x.short;
      clean = λ k b f a. let w = has_fault plain most (lines_of s) room k f a in fault_none room h k w.0 (subst (Has plain most (lines_of s) room k) w.1 a);
      full = lack_none;
    }

    -- a list for which there is room is not refused
    pub list_unrefused : (room : ℕ) → n ≤ room → (f k c : ℕ) → ¬ ListRefused plain most longest s room f k c
    list_unrefused room h f k c a =
        refusal_none longest s (Has plain most (lines_of s) room) list_order (Lacks (lines_of s)) (list_faultless room h) f k a.0

    -- its clashes are a valid matrix
    pub list_valid : Valid n (matrix rows)
    list_valid = record {
      no_self = λ i h t. let e = (x.clashes i i).0 t in ⊎_elim (λ y. (x.edges e.0 _ _ y).1.differ refl) (λ y. (x.edges e.0 _ _ y).1.differ refl) e.1;
      both_ways = λ i j h k t. (x.clashes j i).1 (let e = (x.clashes i j).0 t in (e.0, ⊎_elim (λ y. inr y) (λ y. inl y) e.1));
    }

  -- ---- one list

  pub list_one : (n m : ℕ) (rows cols : List ℕ) → ListOf plain most longest s n rows → ListOf plain most longest s m cols → (n ≡ m) × (rows ≡ cols)
  list_one n m rows cols a b =
      let e = (p_says m cols b a.head n a.stated a.header).1 in (
        e,
        same rows cols (a.long ∙ e ∙ sym b.long) (λ i. same_members (get_or rows i 0) (get_or cols i 0) (λ j.
            T-ext (matrix rows i j) (matrix cols i j) (λ x. (b.clashes i j).1 ((a.clashes i j).0 x)) (λ x. (a.clashes i j).1 ((b.clashes i j).0 x)))),
      )
    where
      same : (k l : List ℕ) → length k ≡ length l → ((i : ℕ) → get_or k i 0 ≡ get_or l i 0) → k ≡ l
      same [] [] e h = refl
      same [] (y ∷ l) e h = absurd (omega arith)
      same (x ∷ k) [] e h = absurd (omega arith)
      same (x ∷ k) (y ∷ l) e h = ap (λ (z : ℕ). z ∷ k) (h 0) ∙ ap (λ (z : List ℕ). y ∷ z) (same k l (omega arith) (λ i. h (suc i)))

  -- ---- what reading answers

  -- each text that is a list of n entries is read as one, where there is room for it
  pub list_taken : (room n : ℕ) (rows : List ℕ) → ListOf plain most longest s n rows → n ≤ room
      → (f : Gathered) × (read_up_to plain most longest s room ≡ Ok f) × (f.n ≡ n) × (take n f.rows ≡ rows)
  list_taken room n rows x h = go (read_up_to plain most longest s room) refl
    where
      go : (a : Result Gathered Unread) → read_up_to plain most longest s room ≡ a
          → (f : Gathered) × (read_up_to plain most longest s room ≡ Ok f) × (f.n ≡ n) × (take n f.rows ≡ rows)
      go (Ok f) e =
          let o = list_one f.n n _ rows (list_accepted plain most longest s room f e).0 x in
          (f, e, o.0, ap (λ (i : ℕ). take i f.rows) (sym o.0) ∙ o.1)
      go (Err u) e = absurd (list_unrefused n rows x room h (number_of u.why) u.line u.column (list_refused plain most longest s room u e))

  -- each text that is refused in words is refused so
  pub list_returned : (room f k c : ℕ) → ListRefused plain most longest s room f k c
      → (u : Unread) × (read_up_to plain most longest s room ≡ Err u) × (number_of u.why ≡ f) × (u.line ≡ k) × (u.column ≡ c)
  list_returned room f k c h = go (read_up_to plain most longest s room) refl
    where
      go : (a : Result Gathered Unread) → read_up_to plain most longest s room ≡ a
          → (u : Unread) × (read_up_to plain most longest s room ≡ Err u) × (number_of u.why ≡ f) × (u.line ≡ k) × (u.column ≡ c)
      go (Ok g) e = let r = list_accepted plain most longest s room g e in absurd (list_unrefused g.n _ r.0 room r.1 f k c h)
      go (Err u) e =
          let o = list_refusal_one room (number_of u.why) f u.line k u.column c (list_refused plain most longest s room u e) h in
          (u, e, o.0, o.1, o.2)

-- ---- the two readings

module _ (most longest : ℕ) (s : List ℕ) where
  -- a list without the word on repeats, and with it
  relisted : (plain other : Bool) (n : ℕ) (rows : List ℕ) → ListOf plain most longest s n rows → (T other → (k : ℕ) → ¬ RepeatAt (lines_of s) k)
      → ListOf other most longest s n rows
  relisted plain other n rows x once = record {
    short = x.short;
    few = x.few;
    whole = x.whole;
    permitted = x.permitted;
    head = x.head;
    stated = x.stated;
    header = x.header;
    only = x.only;
    counted = x.counted;
    edges = x.edges;
    once = once;
    long = x.long;
    clashes = x.clashes;
  }

  pub list_plain : (n : ℕ) (rows : List ℕ) → ListOf true most longest s n rows ↔ (ListOf false most longest s n rows × ((k : ℕ) → ¬ RepeatAt (lines_of s) k))
  list_plain n rows = ((λ x. (relisted true false n rows x (λ p. absurd p), x.once tt)), (λ x. relisted false true n rows x.0 (λ _. x.1)))

  pub never_repeat : (room k c : ℕ) → ¬ ListRefused false most longest s room (number_of Repeat) k c
  never_repeat room k c h = ⊎_elim (λ a. a.fault.0) (λ a. a.fault) h.0.1
