-- The line that a refusal names: 17 cannot arise, a fault at the sheet's end names the number of lines plus one, and the part that is then
-- shown is the empty one at the text's end.
use Rattle.std.specs.Prelude.{ℕ, zero, suc, ◌+◌, ◌-◌, ◌≤◌, ◌<◌, ◌≡◌, Bool, ◌&&◌, ◌||◌, T, leb, ltb, eqb, List, length, drop, set, Option, Some, None, Result, Ok, Err, IfErr}
use mathlib.Core.Path.{refl, sym, ap, subst, ◌∙◌}
use native.Mathlib.Nat.{add-zero}
use native.Mathlib.Decide.{dec_lt}
use native.Mathlib.Omega.{arith}
use lib.ListN.{drop_of_length-le}
use denote.Ref.{Bor}
use Rattle.sets.specs.Lists.{all, any}
use Rattle.clashes.specs.Matrix.{matrix}
use Rattle.lines.specs.Words.{alone_of}
use Rattle.lines.specs.Text.{Text, done, unended, ended, lines_of, line_count, line_end_lem, next_start_lem, place_of}
use Rattle.lines.specs.Part.{PartOf}
use Rattle.lines.proofs.Basics.{cond_cases}
use Rattle.lines.proofs.Lines.{line_ended, line_unended, next_mid, next_end, place_le}
use Rattle.refusals.specs.Table.{told}
use Rattle.lists.specs.Read.{step_up_to as step_list, after as after_list, read_from_up_to, read_up_to, edge_of, inside as inside_list, start as start_list, no_rows_up_to}
use Rattle.lists.specs.Shape.{shape_of}
use Rattle.lists.specs.declared.Fault.{Fault}
use Rattle.lists.specs.declared.Fault.TheVariants.{Line as NoLine, Headless, Second, Size, Vertex, Loop, Count as Counted, Room, Long as TooLong, Repeat, Digit as NoDigit, Space as NoSpace, Unended as NoFeed}
use Rattle.lists.specs.declared.Unread.{Unread}
use Rattle.lists.specs.declared.Gathered.{Gathered}
use Rattle.lists.specs.declared.Head.{Head}
use Rattle.lists.specs.declared.Shape.{Shape}
use Rattle.lists.specs.declared.Shape.TheVariants.{Comment, P, E}
use Rattle.lists.specs.declared.Step.{Step as ListStep}
use Rattle.lists.specs.declared.Step.TheVariants.{Go, Edge}
use Rattle.lists.specs.declared.Spot.{Spot as ListSpot}
use Rattle.lists.specs.Expect.{of_shape, spot_of}
use Rattle.lists.proofs.Columns.{spot_shape}
use Rattle.sheets.specs.Check.{on_line, of_sheet, no_colours_up_to, groups_word, size_word, behind_of, groups_of, size_of, member_of_lem, step_of, met, finish, cut, none, after, check_from, start, sheet_up_to, against_up_to, check_up_to}
use Rattle.sheets.specs.Promise.{refusal_of_lem, held_by, answer_in, numbers_of_lem, ShownOf, PreviewPromiseUpTo}
use Rattle.sheets.proofs.Fold.{check_short}
use Rattle.sheets.specs.declared.SheetFault.{SheetFault}
use Rattle.sheets.specs.declared.SheetFault.TheVariants.{Long, Line, Member, Order, Twice, Clash, Ends, Missing, Extra}
use Rattle.sheets.specs.declared.Refused.{Refused}
use Rattle.sheets.specs.declared.Unchecked.{Unchecked}
use Rattle.sheets.specs.declared.Unchecked.TheVariants.{OfList, Short, OfSheet}
use Rattle.sheets.specs.declared.Division.{Division}
use Rattle.sheets.specs.declared.Progress.{Progress}
use Rattle.sheets.specs.declared.Step.{Step}
use Rattle.sheets.specs.declared.Step.TheVariants.{Count, Place}

-- ---- 17 cannot arise: the list's reading

abbrev Roomy : Fault → Type 0
Roomy Room = ⊥
Roomy NoLine = Unit {0}
Roomy Headless = Unit {0}
Roomy Second = Unit {0}
Roomy Size = Unit {0}
Roomy Vertex = Unit {0}
Roomy Loop = Unit {0}
Roomy Counted = Unit {0}
Roomy TooLong = Unit {0}
Roomy Repeat = Unit {0}
Roomy NoDigit = Unit {0}
Roomy NoSpace = Unit {0}
Roomy NoFeed = Unit {0}

-- 17 is no fault of shape
roomy_shape : (f : Fault) → T (of_shape f) → Roomy f
roomy_shape NoLine a = tt
roomy_shape Headless a = tt
roomy_shape Second a = tt
roomy_shape Size a = tt
roomy_shape Vertex a = tt
roomy_shape Loop a = tt
roomy_shape Counted a = tt
roomy_shape TooLong a = tt
roomy_shape NoDigit a = tt
roomy_shape NoSpace a = tt
roomy_shape NoFeed a = tt
roomy_shape Room a = absurd a
roomy_shape Repeat a = elim a [ ]

abbrev Enough : Result ListStep ListSpot → Type 0
Enough st = IfErr st (λ p. Roomy p.fault)

edge_enough : (h : Head) (u v : ℕ) → Enough (edge_of h u v)
edge_enough h u v =
    cond_cases Enough (inside_list h.n u) _ _
    (λ _. cond_cases Enough (inside_list h.n v) _ _ (λ _. cond_cases Enough (eqb u v) _ _ (λ _. tt) (λ _. tt)) (λ _. tt))
    (λ _. tt)

abbrev Roomed : Result Gathered Unread → Type 0
Roomed r = IfErr r (λ u. Roomy u.why)

module _ (most : ℕ) where
  -- n is at most the most entries, and so many rows are lent
  step_enough : (h : Option Head) (p : ListSpot) (s : Option Shape) → T (of_shape p.fault) → Enough (step_list most h most p s)
  step_enough h p None a = roomy_shape p.fault a
  step_enough h p (Some Comment) a = tt
  step_enough (Some h) p (Some (P n m)) a = tt
  step_enough None p (Some (P n m)) a = cond_cases Enough (leb n most) _ _ (λ e. rw e tt) (λ _. tt)
  step_enough (Some h) p (Some (E u v)) a = edge_enough h u v
  step_enough None p (Some (E u v)) a = tt

  from_roomy : (plain : Bool) (t : Text) (k : ℕ) (h : Option Head) (g : List ℕ) → Roomed (read_from_up_to plain most t most k h g)
  from_roomy plain done k None g = tt
  from_roomy plain done k (Some h) g = cond_cases Roomed (eqb h.count h.m) _ _ (λ _. tt) (λ _. tt)
  from_roomy plain (unended l) k h g = roomy_shape (spot_of l).fault (spot_shape l)
  from_roomy plain (ended l t) k h g =
      go (step_list most h most (spot_of l) (shape_of l)) (step_enough h (spot_of l) (shape_of l) (spot_shape l)) (from_roomy plain t (k + 1))
    where
      go : (st : Result ListStep ListSpot) → Enough st → ((h : Option Head) (g : List ℕ) → Roomed (read_from_up_to plain most t most (k + 1) h g))
          → Roomed (after_list plain st g k (read_from_up_to plain most t most (k + 1)))
      go (Err p) e r = e
      go (Ok (Go h)) e r = r h g
      go (Ok (Edge h i j)) e r = cond_cases Roomed (plain && matrix g i j) _ _ (λ _. tt) (λ _. r (Some h) _)

  read_roomy : (plain : Bool) (longest : ℕ) (s : List ℕ) → Roomed (read_up_to plain most longest s most)
  read_roomy plain longest s = cond_cases Roomed (leb (length s) longest) _ _ (λ _. from_roomy plain (lines_of s) 1 start_list (no_rows_up_to most)) (λ _. tt)

-- ---- the line that is named

-- 35 and 36 name the line e after the last; any other fault one of the lines from k on
abbrev Spot : SheetFault → ℕ → ℕ → ℕ → Type 0
Spot Ends k e j = j ≡ e
Spot Missing k e j = j ≡ e
Spot Long k e j = ⊥
Spot Line k e j = (k ≤ j) × (j < e)
Spot Member k e j = (k ≤ j) × (j < e)
Spot Order k e j = (k ≤ j) × (j < e)
Spot Twice k e j = (k ≤ j) × (j < e)
Spot Clash k e j = (k ≤ j) × (j < e)
Spot Extra k e j = (k ≤ j) × (j < e)

spot_later : (f : SheetFault) (k i e d j : ℕ) → k ≤ i → e ≡ d → Spot f i e j → Spot f k d j
spot_later Ends k i e d j h z s = s ∙ z
spot_later Missing k i e d j h z s = s ∙ z
spot_later Long k i e d j h z s = s
spot_later Line k i e d j h z s = (omega (arith, s.0), omega (arith, s.1))
spot_later Member k i e d j h z s = (omega (arith, s.0), omega (arith, s.1))
spot_later Order k i e d j h z s = (omega (arith, s.0), omega (arith, s.1))
spot_later Twice k i e d j h z s = (omega (arith, s.0), omega (arith, s.1))
spot_later Clash k i e d j h z s = (omega (arith, s.0), omega (arith, s.1))
spot_later Extra k i e d j h z s = (omega (arith, s.0), omega (arith, s.1))

-- the line of a refusal
abbrev pub Names : ℕ → ℕ → Result Division Refused → Type 0
Names k e r = IfErr r (λ x. Spot x.why k e x.line)

names_later : (r : Result Division Refused) (k i e d : ℕ) → k ≤ i → e ≡ d → Names i e r → Names k d r
names_later (Ok x) k i e d h z s = tt
names_later (Err x) k i e d h z s = spot_later x.why k i e d x.line h z s

-- a fault of a line, wherever the line stands
abbrev InLine : Result Step SheetFault → Type 0
InLine st = IfErr st (λ f. (k e : ℕ) → k < e → Spot f k e k)

module _ (n : ℕ) (clash : ℕ → ℕ → Bool) where
  groups_in : (a : Option ℕ) → InLine (groups_of a)
  groups_in None = λ k e h. (omega arith, h)
  groups_in (Some u) = tt

  size_in : (p : Progress) (a : Option ℕ) → InLine (size_of p a)
  size_in p None = λ k e h. (omega arith, h)
  size_in p (Some u) = cond_cases InLine (leb 1 u) _ _ (λ _. tt) (λ _ k e h. (omega arith, h))

  member_in : (p : Progress) (m w : ℕ → Bool) (a : Option ℕ) → InLine (member_of_lem n clash p m w a)
  member_in p m w None = λ k e h. (omega arith, h)
  member_in p m w (Some u) =
      cond_cases InLine (inside_list n u) _ _
      (λ _. cond_cases InLine (ltb p.floor u) _ _
      (λ _. cond_cases InLine (w (u - 1)) _ _ (λ _ k e h. (omega arith, h))
      (λ _. cond_cases InLine (any n (λ j. m j && clash (u - 1) j)) _ _ (λ _ k e h. (omega arith, h)) (λ _. tt)))
      (λ _ k e h. (omega arith, h)))
      (λ _ k e h. (omega arith, h))

  step_in : (p : Option Progress) (m w : ℕ → Bool) (l : List ℕ) → InLine (step_of n clash p m w l)
  step_in None m w l = groups_in (behind_of groups_word l)
  step_in (Some p) m w l =
      cond_cases InLine (leb 1 p.need) _ _ (λ _. member_in p m w (alone_of l))
      (λ _. cond_cases InLine (leb 1 p.left) _ _ (λ _. size_in p (behind_of size_word l)) (λ _ k e h. (omega arith, h)))

  finish_names : (p : Option Progress) (m w : ℕ → Bool) (g : List ℕ) (k : ℕ) → Names k (k + 0) (finish n p m w g k)
  finish_names None m w g k = omega arith
  finish_names (Some p) m w g k =
      cond_cases (Names k (k + 0)) (met p) _ _ (λ _. cond_cases (Names k (k + 0)) (all n (λ j. w j || m j)) _ _ (λ _. tt) (λ _. omega arith)) (λ _. omega arith)

  cut_names : (p : Option Progress) (k : ℕ) → Names k (k + 1) (Err (cut p k))
  cut_names None k = (omega arith, omega arith)
  cut_names (Some p) k = cond_cases (λ (x : Refused). Names k (k + 1) (Err x)) (met p) _ _ (λ _. (omega arith, omega arith)) (λ _. (omega arith, omega arith))

  from_names : (t : Text) (k : ℕ) (p : Option Progress) (m w : ℕ → Bool) (g : List ℕ) → Names k (k + line_count t) (check_from t n clash k p m w g)
  from_names done k p m w g = finish_names p m w g k
  from_names (unended l) k p m w g = cut_names p k
  from_names (ended l t) k p m w g = go (step_of n clash p m w l) (step_in p m w l) (from_names t (k + 1))
    where
      go : (st : Result Step SheetFault) → InLine st → ((p : Option Progress) (m w : ℕ → Bool) (g : List ℕ) → Names (k + 1) (k + 1 + line_count t) (check_from t n clash (k + 1) p m w g))
          → Names k (k + suc (line_count t)) (after st k m w g (check_from t n clash (k + 1)))
      go (Err f) i r = i k (k + suc (line_count t)) (omega arith)
      go (Ok (Count q)) i r =
          names_later (check_from t n clash (k + 1) (Some q) none (λ j. w j || m j) g) k (k + 1) (k + 1 + line_count t) (k + suc (line_count t)) (omega arith)
          (omega arith) (r (Some q) none (λ j. w j || m j) g)
      go (Ok (Place q x c)) i r =
          names_later (check_from t n clash (k + 1) (Some q) (λ j. m j || eqb x j) w (set g x c)) k (k + 1) (k + 1 + line_count t) (k + suc (line_count t))
          (omega arith) (omega arith) (r (Some q) (λ j. m j || eqb x j) w (set g x c))

-- a sheet that is not too long: 35 and 36 name the number of lines plus one, any other fault one of its lines, from 1
pub sheet_names : (most n : ℕ) (clash : ℕ → ℕ → Bool) (longest : ℕ) (s : List ℕ) → length s ≤ longest → Names 1 (1 + line_count (lines_of s)) (sheet_up_to most longest n clash s)
sheet_names most n clash longest s h =
    subst (Names 1 (1 + line_count (lines_of s))) (check_short most s n clash longest h) (from_names n clash (lines_of s) 1 start none none (no_colours_up_to most))

-- ---- the part that is shown at an end

count_none : (s : List ℕ) (a : ℕ) → length s ≤ a → line_count (lines_of (drop a s)) ≡ 0
count_none s a h = rw (drop_of_length-le s h)

-- a line is left, and those after it
count_step : (s : List ℕ) (a : ℕ) → a < length s → line_count (lines_of (drop a s)) ≡ suc (line_count (lines_of (drop (next_start_lem s a) s)))
count_step s a h = go (dec_lt (line_end_lem s a) (length s))
  where
    go : Dec (line_end_lem s a < length s) → line_count (lines_of (drop a s)) ≡ suc (line_count (lines_of (drop (next_start_lem s a) s)))
    go (yes l) =
        ap line_count (line_ended s a (line_end_lem s a) refl l)
        ∙ ap (λ (x : ℕ). suc (line_count (lines_of (drop x s)))) (next_mid s a (line_end_lem s a) refl l)
    go (no l) =
        ap line_count (line_unended s a (line_end_lem s a) refl h (omega arith))
        ∙ sym (ap suc (count_none s (next_start_lem s a) (omega (arith, next_end s a (line_end_lem s a) refl (omega arith)))))

-- from line i on, the lines that are left end where the text ends
place_last : (c : ℕ) (s : List ℕ) (i : ℕ) → line_count (lines_of (drop (place_of s i) s)) ≡ c → place_of s (i + c) ≡ length s
place_last zero s i e = go (dec_lt (place_of s i) (length s))
  where
    go : Dec (place_of s i < length s) → place_of s (i + 0) ≡ length s
    go (yes l) = absurd (omega (arith, count_step s (place_of s i) l))
    go (no l) = rw (add-zero i) (omega (arith, place_le s i))
place_last (suc c) s i e = go (dec_lt (place_of s i) (length s)) (place_last c s (suc i))
  where
    go : Dec (place_of s i < length s) → (line_count (lines_of (drop (place_of s (suc i)) s)) ≡ c → place_of s (suc i + c) ≡ length s) → place_of s (i + suc c) ≡ length s
    go (yes l) r =
        let z : suc i + c ≡ i + suc c = omega arith in
        let k = count_step s (place_of s i) l in
        sym (ap (place_of s) z) ∙ r (omega arith)
    go (no l) r = absurd (omega (arith, count_none s (place_of s i) (omega arith)))

-- for the line after the last, the empty part at the text's end
pub shown_end : (s r : Bor (List ℕ)) → ShownOf s (suc (line_count (lines_of s.now))) r → PartOf s (length s.now) (length s.now) r
shown_end s r x =
    let c = line_count (lines_of s.now) in
    let p : place_of s.now c ≡ length s.now = (let z : 0 + c ≡ c = omega arith in sym (ap (place_of s.now) z)) ∙ place_last c s.now 0 refl in
    let e : line_end_lem s.now (length s.now) ≡ length s.now = rw (drop_of_length-le s.now {i = length s.now} (omega arith)) (add-zero (length s.now)) in
    subst (λ (y : ℕ). PartOf s (length s.now) y r) e (subst (λ (y : ℕ). PartOf s y (line_end_lem s.now y) r) p x)

-- 35 and 36, the two faults at a sheet's end
abbrev Tail : SheetFault → ℕ → ℕ → Type 0
Tail Ends e j = j ≡ e
Tail Missing e j = j ≡ e
Tail Long e j = Unit {0}
Tail Line e j = Unit {0}
Tail Member e j = Unit {0}
Tail Order e j = Unit {0}
Tail Twice e j = Unit {0}
Tail Clash e j = Unit {0}
Tail Extra e j = Unit {0}

abbrev Ending : ℕ → Result ℕ Unchecked → Type 0
Ending e (Ok n) = Unit {0}
Ending e (Err (OfList u)) = Unit {0}
Ending e (Err Short) = Unit {0}
Ending e (Err (OfSheet r)) = Tail r.why e r.line

spot_tail : (f : SheetFault) (k e j : ℕ) → Spot f k e j → Tail f e j
spot_tail Ends k e j s = s
spot_tail Missing k e j s = s
spot_tail Long k e j s = tt
spot_tail Line k e j s = tt
spot_tail Member k e j s = tt
spot_tail Order k e j s = tt
spot_tail Twice k e j s = tt
spot_tail Clash k e j s = tt
spot_tail Extra k e j s = tt

names_ending : (r : Result Division Refused) (k e : ℕ) → Names k e r → Ending e (answer_in (of_sheet r))
names_ending (Ok d) k e h = tt
names_ending (Err r) k e h = spot_tail r.why k e r.line h

-- an answer of the sheet's own is none of the list's
own_answer : (r : Result Division Refused) (u : Unread) → ¬ (answer_in (of_sheet r) ≡ Err (OfList u))
own_answer (Ok d) u e = cc
own_answer (Err r) u e = cc

module _ (plain : Bool) (most longest : ℕ) where
  check_ending : (list s : List ℕ) (room : ℕ) → Ending (suc (line_count (lines_of s))) (answer_in (check_up_to plain most longest list s room))
  check_ending list s room = go (read_up_to plain most longest list most)
    where
      go : (a : Result Gathered Unread) → Ending (suc (line_count (lines_of s))) (answer_in (against_up_to most longest a s room))
      go (Err u) = tt
      go (Ok f) =
          let clash = matrix f.rows in
          let z : 1 + line_count (lines_of s) ≡ suc (line_count (lines_of s)) = omega arith in
          cond_cases (λ (r : Result Division Unchecked). Ending (suc (line_count (lines_of s))) (answer_in r)) (leb f.n room) _ _
          (λ _. cond_cases (λ (r : Result Division Refused). Ending (suc (line_count (lines_of s))) (answer_in (of_sheet r))) (leb (length s) longest) _ _
          (λ _. subst (λ (e : ℕ). Ending e (answer_in (of_sheet (check_from (lines_of s) f.n clash 1 start none none (no_colours_up_to most))))) z
          (names_ending (check_from (lines_of s) f.n clash 1 start none none (no_colours_up_to most)) 1 (1 + line_count (lines_of s))
          (from_names f.n clash (lines_of s) 1 start none none (no_colours_up_to most))))
          (λ _. tt))
          (λ _. tt)

  -- for them the empty part at the sheet's end is shown
  module _ (list s : Bor (List ℕ)) (room : ℕ) (r : Bor (List ℕ)) (p : PreviewPromiseUpTo plain most longest list s room r) (j : ℕ) where
    -- the table names a line for them
    at-end : (f : SheetFault) → (told (refusal_of_lem f) j).line ≡ j → answer_in (check_up_to plain most longest list.now s.now room) ≡ Err (OfSheet (on_line f j))
        → j ≡ suc (line_count (lines_of s.now)) → PartOf s (length s.now) (length s.now) r
    at-end f n e z =
        let x = subst (λ (a : Result ℕ Unchecked). ShownOf (held_by (numbers_of_lem a).text list s) (numbers_of_lem a).line r) e p in
        shown_end s r (subst (λ (k : ℕ). ShownOf s k r) (n ∙ z) x)

    pub preview_ends : answer_in (check_up_to plain most longest list.now s.now room) ≡ Err (OfSheet (on_line Ends j)) → PartOf s (length s.now) (length s.now) r
    preview_ends e = at-end Ends refl e (subst (Ending (suc (line_count (lines_of s.now)))) e (check_ending list.now s.now room))

    pub preview_missing : answer_in (check_up_to plain most longest list.now s.now room) ≡ Err (OfSheet (on_line Missing j)) → PartOf s (length s.now) (length s.now) r
    preview_missing e = at-end Missing refl e (subst (Ending (suc (line_count (lines_of s.now)))) e (check_ending list.now s.now room))

  -- ---- 17 cannot arise

  pub never_room : (list s : List ℕ) (room k c : ℕ) → ¬ (answer_in (check_up_to plain most longest list s room) ≡ Err (OfList (record { why = Room; line = k; column = c })))
  never_room list s room k c = go (read_up_to plain most longest list most) (read_roomy most plain longest list)
    where
      go : (a : Result Gathered Unread) → Roomed a → ¬ (answer_in (against_up_to most longest a s room) ≡ Err (OfList (record { why = Room; line = k; column = c })))
      go (Err u) r e = let z : u.why ≡ Room = cc in subst Roomy z r
      go (Ok f) r e =
          cond_cases (λ (x : Result Division Unchecked). ¬ (answer_in x ≡ Err (OfList (record { why = Room; line = k; column = c })))) (leb f.n room) _ _
          (λ _. own_answer (sheet_up_to most longest f.n (matrix f.rows) s) (record { why = Room; line = k; column = c }))
          (λ _ h. cc) e
