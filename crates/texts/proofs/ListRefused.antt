-- A clash text that is refused is so in the papers' words, over its lines; and in one that is accepted no line has a fault.
--
--   Means plain most t0 room a : what the answer a to the lines t0 says in words
--
-- Assumes nothing.
use Prim.Native.Nat.{ℕ, ◌+◌, ◌-◌, ◌≤◌}
use mathlib.Core.Path.{◌≡◌, refl, sym, subst}
use mathlib.Core.Logic.{◌⊎◌, inl, inr}
use mathlib.Core.List.{List}
use mathlib.Core.Bool.{Bool, ◌&&◌}
use native.Mathlib.Omega.{arith}
use borrow.Author.Tests.{leb-true, leb-false, eqb-true, eqb-false}
use lib.Dec.{T, leb, eqb}
use lib.ListN.{length}
use Rattle.std.specs.Prelude.{Option, None, Some, Result, Ok, Err}
use Rattle.sets.proofs.TestLaws.{and_l, and_r, and_t}
use Rattle.clashes.specs.Matrix.{matrix}
use Rattle.lines.specs.Text.{Text, done, unended, ended, lines_of, line_count}
use Rattle.lines.proofs.Basics.{cond_cases}
use Rattle.lists.specs.Shape.{shape_of}
use Rattle.lists.specs.Read.{inside, join, start, no_rows_up_to, step_up_to, after, read_from_up_to, read_up_to}
use Rattle.lists.specs.declared.Shape.{Shape}
use Rattle.lists.specs.declared.Shape.TheVariants.{Comment, P, E}
use Rattle.lists.specs.declared.Fault.{Fault}
use Rattle.lists.specs.declared.Fault.TheVariants.{Line, Headless, Second, Size, Room, Vertex, Loop, Count, Long, Repeat, Digit, Space, Unended}
use Rattle.lists.specs.declared.Head.{Head}
use Rattle.lists.specs.declared.Unread.{Unread}
use Rattle.lists.specs.declared.Gathered.{Gathered}
use Rattle.lists.specs.declared.Spot.{Spot}
use Rattle.lists.specs.declared.Step.{Step}
use Rattle.lists.specs.Expect.{Astray, permitted, spot_of}
use Rattle.lists.specs.Promise.{number_of}
use Rattle.lists.proofs.Columns.{spot_astray, spot_shape}
use Rattle.lists.proofs.Fold.{inside_is}
use Rattle.texts.specs.Faults.{Outside, Clean}
use Rattle.texts.specs.ListColumns.{line_at, ColumnOf}
use Rattle.texts.specs.ListFaults.{Has, list_order, Lacks, ListRefused}
use Rattle.texts.proofs.Refusals.{refusal_make, outside_is}
use Rattle.texts.proofs.ListLines.{rest_whole, no_line, unended_none}
use Rattle.texts.proofs.ListMarks.{Marked, marked_other, repeat_there, there_repeat, marked_edge, marked_start}
use Rattle.texts.proofs.ListFaultLaws.{Found, clean_of}
use Rattle.texts.proofs.ListShapes.{shape_clean, open_has, shape_found, column_shape}
use Rattle.texts.proofs.ListLineFaults.{Told, bad, second, large, roomless, headless, vertex, loop, repeated, told_comment, told_p, told_e}

-- ---- all lines

module _ (plain : Bool) (most : ℕ) (t0 : Text) (room : ℕ) where
  abbrev Means : Result Gathered Unread → Type 0
  Means (Ok f) = (j : ℕ) → j ≤ line_count t0 → Clean (Has plain most t0 room) j
  Means (Err u) = Found plain most t0 room u.why u.line × ColumnOf t0 (number_of u.why) u.line u.column

  ends_with : (i : ℕ) (h : Option Head) → Told plain most t0 room i h done → (f : Fault) → Lacks t0 (number_of f) → Found plain most t0 room f (i + 1)
  ends_with i h told f x = inr (record { line = omega (arith, told.rest.many); fault = x; clean = λ j b. told.clean j (omega arith) })

  end_means : (i : ℕ) (h : Option Head) (g : List ℕ) → Told plain most t0 room i h done → Means (read_from_up_to plain most done room (i + 1) h g)
  end_means i None g told = (ends_with i None told Headless (λ j n m x. told.unseen refl j n m (omega (arith, x.0.1, told.rest.many)) x), refl)
  end_means i (Some h) g told =
      cond_cases Means (eqb h.count h.m) _ _ (λ _ j b. told.clean j (omega (arith, told.rest.many)))
      (λ e. let s = told.seen h refl in
      (ends_with i (Some h) told Count (s.0, h.n, h.m, s.2, λ z. eqb-false h.count h.m e (omega (arith, told.counted))), refl))

  -- how many entries are known
  abbrev entries : Option Head → ℕ
  entries None = 0
  entries (Some h) = h.n

  -- the lines t, after i lines
  abbrev Onward : Text → ℕ → Type 0
  Onward t i =
      (h : Option Head) (g : List ℕ) → Told plain most t0 room i h t → Marked most t0 i (entries h) g → Means (read_from_up_to plain most t room (i + 1) h g)

  abbrev Step_means : Text → ℕ → List ℕ → Result Step Spot → Type 0
  Step_means t i g s = Means (after plain s g (i + 1) (read_from_up_to plain most t room (i + 1 + 1)))

  p_means : (l : List ℕ) (t : Text) (i n d : ℕ) → shape_of l ≡ Some (P n d) → Onward t (i + 1) → (h : Option Head) (g : List ℕ) → Told plain most t0 room i h (ended l t)
      → Marked most t0 i (entries h) g → Step_means t i g (step_up_to most h room (spot_of l) (Some (P n d)))
  p_means l t i n d e next (Some h) g told m = (second plain most t0 room i (Some h) l t told n d e h refl, refl)
  p_means l t i n d e next None g told m =
      let F = Step_means t i g in
      cond_cases F (leb n most) _ _
      (λ x. cond_cases F (leb n room) _ _
      (λ y. next _ g (told_p plain most t0 room i None l t told n d e refl (leb-true n most x) (leb-true n room y))
      (marked_other most t0 i 0 l t told.rest g m (λ u v d. let z : ◌≡◌ {A = ℕ} 0 1 = cc in omega arith) n (leb-true n most x)))
      (λ y. (roomless plain most t0 room i None l t told n d e refl (leb-true n most x) (leb-false n room y), refl)))
      (λ x. (large plain most t0 room i None l t told n d e refl (leb-false n most x), refl))

  e_means : (l : List ℕ) (t : Text) (i u v : ℕ) → shape_of l ≡ Some (E u v) → Onward t (i + 1) → (h : Option Head) (g : List ℕ) → Told plain most t0 room i h (ended l t)
      → Marked most t0 i (entries h) g → Step_means t i g (step_up_to most h room (spot_of l) (Some (E u v)))
  e_means l t i u v e next None g told m = (headless plain most t0 room i None l t told u v e refl, refl)
  e_means l t i u v e next (Some h) g told m =
      let F = Step_means t i g in
      let out : Outside h.n u ⊎ Outside h.n v → Found plain most t0 room Vertex (i + 1) × ColumnOf t0 (number_of Vertex) (i + 1) 0
      = λ o. (vertex plain most t0 room i (Some h) l t told u v e h refl o, refl) in
      cond_cases F (inside h.n u) _ _
      (λ a. let x = inside_is h.n u a in cond_cases F (inside h.n v) _ _
      (λ b. let y = inside_is h.n v b in cond_cases F (eqb u v) _ _
      (λ d. (loop plain most t0 room i (Some h) l t told u v e h refl x y (eqb-true u v d), refl))
      (λ d. let r = plain && matrix g (u - 1) (v - 1) in cond_cases Means r _ _
      (λ w. (
        repeated plain most t0 room i (Some h) l t told u v e h refl x y (eqb-false u v d) (and_l plain (matrix g (u - 1) (v - 1)) (subst T (sym w) tt))
            (there_repeat most t0 i h.n l t told.rest g m u v e x y (and_r plain (matrix g (u - 1) (v - 1)) (subst T (sym w) tt))),
        refl,
      ))
      (λ w. next _ (join g (u - 1) (v - 1))
      (told_e plain most t0 room i (Some h) l t told u v e h refl x y (eqb-false u v d)
      (λ z. subst T w (and_t plain (matrix g (u - 1) (v - 1)) z.0 (repeat_there most t0 i h.n l t told.rest g m u v e x y z.1))))
      (marked_edge most t0 i h.n l t told.rest g m u v e x y))))
      (λ b. out (inr (outside_is h.n v b))))
      (λ a. out (inl (outside_is h.n u a)))

  line_means : (l : List ℕ) (t : Text) (i : ℕ) → Onward t (i + 1) → Onward (ended l t) i
  line_means l t i next h g told m = go (shape_of l) refl
    where
      go : (s : Option Shape) → shape_of l ≡ s → Step_means t i g (step_up_to most h room (spot_of l) s)
      go None e = (
        bad plain most t0 room i h l t told e,
        column_shape t0 (spot_of l).fault (i + 1) (spot_of l).column (spot_shape l)
            (subst (λ (x : List ℕ). Astray permitted x (spot_of l).column) (sym (told.rest.lines 1 (omega arith))) (spot_astray l)),
      )
      go (Some Comment) e =
          next h g (told_comment plain most t0 room i h l t told e)
          (marked_other most t0 i (entries h) l t told.rest g m (λ u v d. let z : ◌≡◌ {A = ℕ} 0 1 = cc in omega arith) (entries h) m.few)
      go (Some (P n d)) e = p_means l t i n d e next h g told m
      go (Some (E u v)) e = e_means l t i u v e next h g told m

  from_means : (t : Text) (i : ℕ) → Onward t i
  from_means done i h g told m = end_means i h g told
  from_means (unended l) i h g told m =
      let e : line_at t0 (i + 1) ≡ l = told.rest.lines 1 (omega arith) in
      let w = told.rest.forth 1 (shape_of l) ((omega arith, omega arith), refl) in (
        shape_found plain most t0 room (i + 1) (spot_of l).fault (spot_shape l)
            (open_has t0 (i + 1) plain most room l e w (told.rest.open_forth 1 (omega arith) refl)) w.0
            (λ j b. told.clean j (omega arith)),
        column_shape t0 (spot_of l).fault (i + 1) (spot_of l).column (spot_shape l) (subst (λ (x : List ℕ). Astray permitted x (spot_of l).column)
            (sym e) (spot_astray l)),
      )
  from_means (ended l t) i h g told m = line_means l t i (from_means t (i + 1)) h g told m

-- ---- the whole text

told_start : (plain : Bool) (most : ℕ) (t : Text) (room : ℕ) → Told plain most t room 0 start t
told_start plain most t room = record {
  rest = rest_whole t;
  clean = λ j b. let z : 0 ≡ j = omega arith in subst (Clean (Has plain most t room)) z (clean_of plain most t room 0 none);
  unseen = λ q j n m b a. omega (arith, a.0.0);
  seen = λ y q. absurd (let z : ◌≡◌ {A = ℕ} 0 1 = cc in omega arith);
  counted = omega arith;
}
  where
    none : (f : Fault) → ¬ Has plain most t room 0 (number_of f)
    none Line x = shape_clean t 0 plain most room (no_line t None) (unended_none t) Line tt x
    none Digit x = shape_clean t 0 plain most room (no_line t None) (unended_none t) Digit tt x
    none Space x = shape_clean t 0 plain most room (no_line t None) (unended_none t) Space tt x
    none Unended x = shape_clean t 0 plain most room (no_line t None) (unended_none t) Unended tt x
    none Headless x = no_line t _ x.0.2
    none Second x = no_line t _ x.0.2
    none Size x = no_line t _ x.2
    none Room x = no_line t _ x.2
    none Vertex x = no_line t _ x.3
    none Loop x = no_line t _ x.1
    none Repeat x = no_line t _ x.1.3
    none Count x = x
    none Long x = x

-- each refusal but 18 is of a line or of the end
module _ (plain : Bool) (most longest : ℕ) (s : List ℕ) (room : ℕ) where
  abbrev Meant : Result Gathered Unread → Type 0
  Meant (Ok f) = (j : ℕ) → j ≤ line_count (lines_of s) → Clean (Has plain most (lines_of s) room) j
  Meant (Err u) = ListRefused plain most longest s room (number_of u.why) u.line u.column

  meant : length s ≤ longest → (a : Result Gathered Unread) → Means plain most (lines_of s) room a → Meant a
  meant h (Ok f) x = x
  meant h (Err u) x =
      (refusal_make longest s (Has plain most (lines_of s) room) list_order (Lacks (lines_of s)) (λ k x. x) (λ x. x) h (number_of u.why) u.line x.0, x.1)

  read_meant : Meant (read_up_to plain most longest s room)
  read_meant =
      cond_cases Meant (leb (length s) longest) _ _
      (λ e. meant (leb-true (length s) longest e) (read_from_up_to plain most (lines_of s) room 1 start (no_rows_up_to most))
      (from_means plain most (lines_of s) room (lines_of s) 0 start (no_rows_up_to most) (told_start plain most (lines_of s) room) (marked_start most (lines_of s))))
      (λ e. ((refl, leb-false (length s) longest e), refl))

  pub list_refused : (u : Unread) → read_up_to plain most longest s room ≡ Err u → ListRefused plain most longest s room (number_of u.why) u.line u.column
  list_refused u a = subst Meant a read_meant

  pub list_clean : (f : Gathered) → read_up_to plain most longest s room ≡ Ok f → (j : ℕ) → j ≤ line_count (lines_of s) → Clean (Has plain most (lines_of s) room) j
  list_clean f a = subst Meant a read_meant
