-- What is written, checked: line by line it is accepted, until the first member that clashes with an earlier one of its group.
--
--   found x o : 34 at the line x, or o where there is none
--   is_in l j     : j is one of l's elements
--   placed_all p l : the counts after the members l
--   add_all m l   : the set m with the members l
--   set_all c l g : the group numbers c, with g for each of l
use Prim.Native.Nat.{ℕ, zero, suc, ◌+◌, ◌-◌, ◌≤◌, ◌<◌}
use mathlib.Core.Path.{◌≡◌, refl, sym, ap, subst, ◌∙◌}
use mathlib.Core.Logic.{◌⊎◌, inl, inr, ⊎_elim}
use mathlib.Core.List.{List, [], ◌∷◌, ◌++◌, append_assoc}
use mathlib.Core.Bool.{Bool, true, false, cond, ◌&&◌, ◌||◌, or_assoc, or_comm}
use mathlib.Core.Option.{Option, none, some}
use Rattle.std.specs.Prelude.{Some, Result, Ok, Err}
use native.Mathlib.Nat.{add-zero, not-suc-le-zero}
use native.Mathlib.Decide.{dec_lt, ℕ_discrete}
use native.Mathlib.Omega.{arith}
use borrow.Author.Tests.{le-leb, lt-leb, lt-ltb}
use lib.Dec.{T, eqb, eqb→eq}
use lib.ListN.{length, take, get_or, set, length-set, length-replicate}
use lib.Seq.{get_or-set_same, get_or-set_other, get_or-take, length-take-le, ext_get_or}
use Rattle.sets.specs.Lists.{In, all, any, some?}
use Rattle.sets.proofs.TestLaws.{and_l, and_r, and_t, or_l, or_r, or_cases, T→true, T→false, T-ext, any_make, any_get, eqb_of, all_make}
use Rattle.clashes.specs.Divisions.{at, Canon, groups}
use Rattle.clashes.proofs.DivisionLaws.{groups_fit}
use Rattle.clashes.proofs.ColouringLaws.{canon_below}
use Rattle.lines.specs.Text.{Text, lines_of}
use Rattle.lines.specs.Numeral.{numeral, one_line}
use Rattle.lines.proofs.Back.{alone_back, one_back}
use Rattle.lists.specs.Read.{most_entries, longest_text}
use Rattle.sheets.specs.Check.{no_colours_up_to, accepted, refused, groups_word, size_word, placed, step_of, none as nobody, after, check_from, start, sheet_up_to, sheet_of}
use Rattle.sheets.specs.declared.SheetFault.TheVariants.{Clash}
use Rattle.sheets.specs.declared.SheetFault.{SheetFault}
use Rattle.sheets.specs.declared.Refused.{Refused}
use Rattle.sheets.specs.declared.Division.{Division}
use Rattle.sheets.specs.declared.Progress.{Progress}
use Rattle.sheets.specs.declared.Step.{Step}
use Rattle.sheets.specs.declared.Step.TheVariants.{Count, Place}
use Rattle.sheets.proofs.Steps.{at_member, at_size, at_groups}
use Rattle.sheet_texts.specs.Sheet.{members_of, member_lines, group_text, groups_text, sheet_text, clash_in, or_else, clash_from, clash_line}
use Rattle.sheet_texts.proofs.Members.{members_le}
use Rattle.sheet_texts.proofs.Lengths.{sheet_fits}
use Rattle.sheet_texts.proofs.Groups.{Rising, rising_from, Led, group_led, members_risen, member_of, of_member}

abbrev pub found : Option ℕ → Result Division Refused → Result Division Refused
found none o = o
found (some k) o = refused Clash k

found_else : (x y : Option ℕ) (o : Result Division Refused) → found (or_else x y) o ≡ found x (found y o)
found_else none y o = refl
found_else (some k) y o = refl

-- ---- sets of members

abbrev is_in : List ℕ → ℕ → Bool
is_in l j = some? (λ x. eqb x j) l

is_in-In : (l : List ℕ) (j : ℕ) → T (is_in l j) → In j l
is_in-In [] j h = h
is_in-In (x ∷ l) j h = ⊎_elim (λ e. inl (sym (eqb→eq x j e))) (λ m. inr (is_in-In l j m)) (or_cases (eqb x j) (is_in l j) h)

In-is_in : (l : List ℕ) (j : ℕ) → In j l → T (is_in l j)
In-is_in [] j h = h
In-is_in (x ∷ l) j h = ⊎_elim (λ e. or_l (eqb x j) (is_in l j) (eqb_of x j (sym e))) (λ m. or_r (eqb x j) (is_in l j) (In-is_in l j m)) h

pub some-In : (p : ℕ → Bool) (l : List ℕ) (x : ℕ) → In x l → T (p x) → T (some? p l)
some-In p [] x m h = m
some-In p (y ∷ l) x m h = ⊎_elim (λ e. or_l (p y) (some? p l) (subst (λ (z : ℕ). T (p z)) e h)) (λ i. or_r (p y) (some? p l) (some-In p l x i h)) m

pub In-some : (p : ℕ → Bool) (l : List ℕ) → T (some? p l) → (x : ℕ) × In x l × T (p x)
In-some p [] h = absurd h
In-some p (y ∷ l) h = ⊎_elim (λ a. (y, inl refl, a)) (λ a. let w = In-some p l a in (w.0, inr w.1, w.2)) (or_cases (p y) (some? p l) h)

-- a clash with one of the set is one with one of the list
clash_is : (n : ℕ) (p : ℕ → Bool) (mates : ℕ → Bool) (seen : List ℕ) → ((j : ℕ) → mates j ≡ is_in seen j) → ((j : ℕ) → In j seen → j < n)
    → any n (λ j. mates j && p j) ≡ some? p seen
clash_is n p mates seen e b =
    T-ext _ _
    (λ a. let (j, _, h) = any_get n (λ j. mates j && p j) a in some-In p seen j (is_in-In seen j (subst T (e j) (and_l (mates j) (p j) h))) (and_r (mates j) (p j) h))
    (λ a. let (x, m, h) = In-some p seen a in any_make n (λ j. mates j && p j) x (b x m) (and_t (mates x) (p x) (subst T (sym (e x)) (In-is_in seen x m)) h))

-- ---- all members of a group

abbrev placed_all : Progress → List ℕ → Progress
placed_all p [] = p
placed_all p (i ∷ l) = placed_all (placed p (i + 1)) l

abbrev add_all : (ℕ → Bool) → List ℕ → ℕ → Bool
add_all m [] = m
add_all m (i ∷ l) = add_all (λ j. m j || eqb i j) l

abbrev set_all : List ℕ → List ℕ → ℕ → List ℕ
set_all c [] g = c
set_all c (i ∷ l) g = set_all (set c i g) l g

add_is : (m : ℕ → Bool) (l : List ℕ) (j : ℕ) → add_all m l j ≡ (m j || is_in l j)
add_is m [] j = or_comm false (m j)
add_is m (i ∷ l) j = add_is (λ j. m j || eqb i j) l j ∙ or_assoc (m j) (eqb i j) (is_in l j)

set_length : (c l : List ℕ) (g : ℕ) → length (set_all c l g) ≡ length c
set_length c [] g = refl
set_length c (i ∷ l) g = set_length (set c i g) l g ∙ length-set c i g

-- an element that is set already, or is one of l
set_in : (c l : List ℕ) (g j : ℕ) → j < length c → (get_or c j 0 ≡ g) ⊎ In j l → get_or (set_all c l g) j 0 ≡ g
set_in c [] g j h m = ⊎_elim (λ e. e) (λ z. absurd z) m
set_in c (i ∷ l) g j h m = set_in (set c i g) l g j (omega (arith, length-set c i g)) (go (ℕ_discrete j i) m)
  where
    go : Dec (j ≡ i) → (get_or c j 0 ≡ g) ⊎ In j (i ∷ l) → (get_or (set c i g) j 0 ≡ g) ⊎ In j l
    go (yes e) m = inl (subst (λ (x : ℕ). get_or (set c i g) x 0 ≡ g) (sym e) (get_or-set_same c i g 0 (subst (λ (x : ℕ). x < length c) e h)))
    go (no e) m = ⊎_elim (λ d. inl (get_or-set_other c i j g 0 e ∙ d)) (λ w. ⊎_elim (λ z. absurd (e z)) (λ z. inr z) w) m

set_out : (c l : List ℕ) (g j : ℕ) → ¬ In j l → get_or (set_all c l g) j 0 ≡ get_or c j 0
set_out c [] g j h = refl
set_out c (i ∷ l) g j h = set_out (set c i g) l g j (λ m. h (inr m)) ∙ get_or-set_other c i j g 0 (λ e. h (inl e))

-- the counts after all members of a group
pub record After (p q : Progress) (l : List ℕ) : Type 0 where
  pub left : q.left ≡ p.left
  pub need : q.need ≡ p.need - length l
  pub opened : q.opened ≡ p.opened

placed-all : (p : Progress) (l : List ℕ) → After p (placed_all p l) l
placed-all p [] = record { left = refl; need = omega arith; opened = refl }
placed-all p (i ∷ l) =
    let r = placed-all (placed p (i + 1)) l in
    record { left = r.left; need = omega (arith, r.need); opened = r.opened }

placed_first : (p : Progress) (l : List ℕ) → p.fresh ≡ false → (placed_all p l).first ≡ p.first
placed_first p [] e = refl
placed_first p (i ∷ l) e = placed_first (placed p (i + 1)) l refl ∙ rw e

-- ---- one member

module _ (n : ℕ) (sevens : n < 10000000) (clash : ℕ → ℕ → Bool) where
  -- what holds before the members l of the group g, of which those in `seen` were read
  pub record Ready (g : ℕ) (p : Progress) (mates earlier : ℕ → Bool) (seen l : List ℕ) : Type 0 where
    pub need : p.need ≡ length l
    pub opened : p.opened ≡ g + 1
    pub rising : Rising n p.floor l
    pub apart : (j : ℕ) → In j l → earlier j ≡ false
    pub mates_are : (j : ℕ) → mates j ≡ is_in seen j
    pub below : (j : ℕ) → In j seen → j < n

  member_step : (g : ℕ) (p : Progress) (mates earlier : ℕ → Bool) (seen : List ℕ) (i : ℕ) (l : List ℕ) → Ready g p mates earlier seen (i ∷ l)
      → step_of n clash (Some p) mates earlier (numeral (i + 1)) ≡ cond (some? (clash i) seen) (Err Clash) (Ok (Place (placed p (i + 1)) i g))
  member_step g p mates earlier seen i l r =
      let w = r.rising in
      let e : i + 1 - 1 ≡ i = omega arith in
      let o : p.opened - 1 ≡ g = omega (arith, r.opened) in
      at_member n clash p mates earlier (numeral (i + 1)) (Some (i + 1)) (omega (arith, r.need)) (alone_back (i + 1) (omega arith))
      ∙ rw (le-leb 1 (i + 1) (omega arith), le-leb (i + 1) n (omega arith), lt-ltb p.floor (i + 1) (omega arith), e, r.apart i (inl refl), o, clash_is n (clash i) mates seen r.mates_are r.below)

  -- the members l, and then the rest of the sheet
  members_read : (g : ℕ) (p : Progress) (mates earlier : ℕ → Bool) (seen l rest : List ℕ) (colours : List ℕ) (k : ℕ) → Ready g p mates earlier seen l
      → check_from (lines_of (member_lines l ++ rest)) n clash k (Some p) mates earlier colours
      ≡ found (clash_in clash seen l k) (check_from (lines_of rest) n clash (k + length l) (Some (placed_all p l)) (add_all mates l) earlier (set_all colours l g))
  members_read g p mates earlier seen [] rest colours k r = rw (add-zero k)
  members_read g p mates earlier seen (i ∷ l) rest colours k r =
      let t = member_lines l ++ rest in
      ap (λ (x : List ℕ). check_from (lines_of x) n clash k (Some p) mates earlier colours) (append_assoc (one_line [] (i + 1)) (member_lines l) rest)
      ∙ ap (λ (x : Text). check_from x n clash k (Some p) mates earlier colours) (one_back [] (i + 1) t tt)
      ∙ ap (λ (x : Result Step SheetFault). after x k mates earlier colours (check_from (lines_of t) n clash (k + 1))) (member_step g p mates earlier seen i l r)
      ∙ go (some? (clash i) seen) (members_read g (placed p (i + 1)) (λ j. mates j || eqb i j) earlier (i ∷ seen) l rest (set colours i g) (k + 1) next)
    where
      next : Ready g (placed p (i + 1)) (λ j. mates j || eqb i j) earlier (i ∷ seen) l
      next = record {
        need = omega (arith, r.need);
        opened = r.opened;
        rising = r.rising.2;
        apart = λ j m. r.apart j (inr m);
        mates_are = λ j. ap (λ (b : Bool). b || eqb i j) (r.mates_are j) ∙ or_comm (is_in seen j) (eqb i j);
        below = λ j m. ⊎_elim (λ e. omega (arith, r.rising.1)) (r.below j) m;
      }

      go : (b : Bool)
          → check_from (lines_of (member_lines l ++ rest)) n clash (k + 1) (Some (placed p (i + 1))) (λ j. mates j || eqb i j) earlier (set colours i g)
          ≡ found (clash_in clash (i ∷ seen) l (k + 1)) (check_from (lines_of rest) n clash (k + 1 + length l) (Some (placed_all p (i ∷ l))) (add_all mates (i ∷ l)) earlier (set_all colours (i ∷ l) g))
          → after (cond b (Err Clash) (Ok (Place (placed p (i + 1)) i g))) k mates earlier colours (check_from (lines_of (member_lines l ++ rest)) n clash (k + 1))
          ≡ found (cond b (some k) (clash_in clash (i ∷ seen) l (k + 1)))
          (check_from (lines_of rest) n clash (k + suc (length l)) (Some (placed_all p (i ∷ l))) (add_all mates (i ∷ l)) earlier (set_all colours (i ∷ l) g))
      go true h = refl
      go false h = let e : k + 1 + length l ≡ k + suc (length l) = omega arith in h ∙ rw e

-- ---- the groups

module _ (most : ℕ) (c : List ℕ) (canon : Canon 0 c) (few : length c ≤ most) (sevens : length c < 10000000) (clash : ℕ → ℕ → Bool) where
  abbrev n : ℕ
  n = length c

  -- what holds before k groups, the first of which is group g
  pub record State (g k : ℕ) (p : Progress) (mates earlier : ℕ → Bool) (colours : List ℕ) : Type 0 where
    pub need : p.need ≡ 0
    pub left : p.left ≡ k
    pub opened : p.opened ≡ g
    pub before : (j : ℕ) → j < length c → g ≤ at c j → p.first ≤ j
    pub seen_back : (j : ℕ) → T (earlier j || mates j) → at c j < g
    pub seen : (j : ℕ) → j < length c → at c j < g → T (earlier j || mates j)
    pub size : length colours ≡ most
    pub coloured : (j : ℕ) → j < length c → at c j < g → get_or colours j 0 ≡ at c j

  -- after "size S"
  abbrev opening : ℕ → Progress → Progress
  opening g p = record { left = p.left - 1; need = length (members_of c 0 g); opened = p.opened + 1; fresh = true; first = p.first; floor = p.first }

  size_step : (g : ℕ) (p : Progress) (mates earlier : ℕ → Bool) → p.need ≡ 0 → 1 ≤ p.left → 1 ≤ length (members_of c 0 g)
      → step_of n clash (Some p) mates earlier (size_word ++ numeral (length (members_of c 0 g))) ≡ Ok (Count (opening g p))
  size_step g p mates earlier d l h =
      let m = length (members_of c 0 g) in
      at_size n clash p mates earlier (size_word ++ numeral m) (Some m) (omega arith) l (alone_back m (omega (arith, members_le c 0 g)))
      ∙ rw (le-leb 1 m h)

  module _ (g k : ℕ) (p : Progress) (mates earlier : ℕ → Bool) (colours : List ℕ) (st : State g (suc k) p mates earlier colours) (led : Led c g (members_of c 0 g)) where
    abbrev m : List ℕ
    m = members_of c 0 g

    ready : Ready n sevens clash g (opening g p) nobody (λ j. earlier j || mates j) [] m
    ready = record {
      need = refl;
      opened = ap (λ (x : ℕ). x + 1) st.opened;
      rising = rise;
      apart = λ j i. T→false (earlier j || mates j) (λ t. let a = st.seen_back j t in omega (arith, (of_member c g canon j i).1));
      mates_are = λ j. refl;
      below = λ j i. absurd i;
    }
      where
        rise : Rising n p.first (members_of c 0 g)
        rise =
            let f = led.first in
            let w = led.whole in
            let i = of_member c g canon f (subst (In f) (sym w) (inl refl)) in
            subst (Rising n p.first) (sym w) (rising_from n 0 p.first f led.rest (subst (Rising n 0) w (members_risen c g canon)) (st.before f i.0 (omega (arith, i.1))))

    next : State (g + 1) k (placed_all (opening g p) m) (add_all nobody m) (λ j. earlier j || mates j) (set_all colours m g)
    next =
        let a = placed-all (opening g p) m in
        record {
          need = omega (arith, a.need);
          left = omega (arith, a.left, st.left);
          opened = a.opened ∙ ap (λ (x : ℕ). x + 1) st.opened;
          before = λ j b e. let f = first_is in let l = led.leads j b (omega arith) in omega arith;
          seen_back =
              λ j t. ⊎_elim (λ x. omega (arith, st.seen_back j x)) (λ x. omega (arith, (of_member c g canon j (is_in-In m j (subst T (add_is nobody m j) x))).1))
              (or_cases (earlier j || mates j) (add_all nobody m j) t);
          seen = λ j b e. put_in j b e (dec_lt (at c j) g);
          size = set_length colours m g ∙ st.size;
          coloured = λ j b e. put_colour j b e (dec_lt (at c j) g);
        }
      where
        first_is : (placed_all (opening g p) m).first ≡ led.first + 1
        first_is = ap (λ (l : List ℕ). (placed_all (opening g p) l).first) led.whole ∙ placed_first (placed (opening g p) (led.first + 1)) led.rest refl

        put_in : (j : ℕ) → j < length c → at c j < g + 1 → Dec (at c j < g) → T ((earlier j || mates j) || add_all nobody m j)
        put_in j b e (yes l) = or_l (earlier j || mates j) (add_all nobody m j) (st.seen j b l)
        put_in j b e (no l) = or_r (earlier j || mates j) (add_all nobody m j) (subst T (sym (add_is nobody m j)) (In-is_in m j (member_of c g canon j b (omega arith))))

        put_colour : (j : ℕ) → j < length c → at c j < g + 1 → Dec (at c j < g) → get_or (set_all colours m g) j 0 ≡ at c j
        put_colour j b e (yes l) = set_out colours m g j (λ i. let a = (of_member c g canon j i).1 in omega arith) ∙ st.coloured j b l
        put_colour j b e (no l) = let z : at c j ≡ g = omega arith in set_in colours m g j (omega (arith, st.size)) (inr (member_of c g canon j b z)) ∙ sym z

    -- one group, and then the rest of the sheet
    group_read : (rest : List ℕ) (line : ℕ)
        → check_from (lines_of (group_text c g ++ rest)) n clash line (Some p) mates earlier colours
        ≡ found (clash_in clash [] m (line + 1)) (check_from (lines_of rest) n clash (line + 1 + length m) (Some (placed_all (opening g p) m)) (add_all nobody m) (λ j. earlier j || mates j) (set_all colours m g))
    group_read rest line =
        let t = member_lines m ++ rest in
        let b : 1 ≤ length m = omega (arith, ap length led.whole) in
        ap (λ (x : List ℕ). check_from (lines_of x) n clash line (Some p) mates earlier colours) (append_assoc (one_line size_word (length m)) (member_lines m) rest)
        ∙ ap (λ (x : Text). check_from x n clash line (Some p) mates earlier colours)
        (one_back size_word (length m) t ((λ e. omega arith), ((λ e. omega arith), ((λ e. omega arith), ((λ e. omega arith), ((λ e. omega arith), tt))))))
        ∙ ap (λ (x : Result Step SheetFault). after x line mates earlier colours (check_from (lines_of t) n clash (line + 1))) (size_step g p mates earlier st.need (omega (arith, st.left)) b)
        ∙ members_read n sevens clash g (opening g p) nobody (λ j. earlier j || mates j) [] m rest colours (line + 1) ready

  -- the group numbers are those that were written
  colours_are : (w : List ℕ) → length w ≡ most → ((j : ℕ) → j < length c → get_or w j 0 ≡ at c j) → take n w ≡ c
  colours_are w z h =
      let l = length-take-le n w (omega arith) in
      ext_get_or 0 (take n w) c l (λ j b. get_or-take n w j 0 (omega arith) ∙ h j (omega arith))

  groups_read : (k g : ℕ) (p : Progress) (mates earlier : ℕ → Bool) (colours : List ℕ) (line : ℕ) → State g k p mates earlier colours → g + k ≡ groups 0 c
      → (w : List ℕ) × (take n w ≡ c) × (check_from (lines_of (groups_text c g k)) n clash line (Some p) mates earlier colours ≡ found (clash_from clash c g k line) (accepted n (groups 0 c) w))
  groups_read zero g p mates earlier colours line st e =
      let z : g ≡ groups 0 c = omega arith in
      let b : (j : ℕ) → j < length c → at c j < g = λ j h. omega (arith, canon_below 0 c j h) in
      let a = T→true (all n (λ j. earlier j || mates j)) (all_make n (λ j. earlier j || mates j) (λ j h. st.seen j h (b j h))) in (
        colours,
        colours_are colours st.size (λ j h. st.coloured j h (b j h)),
        rw (lt-leb 1 p.need (omega (arith, st.need)), lt-leb 1 p.left (omega (arith, st.left)), a, st.opened, z),
      )
  groups_read (suc k) g p mates earlier colours line st e =
      let led = group_led c g canon (omega arith) in
      let m = members_of c 0 g in
      let r = groups_read k (g + 1) (placed_all (opening g p) m) (add_all nobody m) (λ j. earlier j || mates j) (set_all colours m g) (line + 1 + length m) (next g k p mates earlier colours st led) (omega arith) in (
        r.0,
        r.1,
        group_read g k p mates earlier colours st led (groups_text c (g + 1) k) line
            ∙ ap (found (clash_in clash [] m (line + 1))) r.2
            ∙ sym (found_else (clash_in clash [] m (line + 1)) (clash_from clash c (g + 1) k (line + 1 + length m)) (accepted n (groups 0 c) r.0)),
      )

  -- ---- the whole sheet

  abbrev begun : Progress
  begun = record { left = groups 0 c; need = 0; opened = 0; fresh = false; first = 0; floor = 0 }

  first_state : State 0 (groups 0 c) begun nobody (λ j. nobody j || nobody j) (no_colours_up_to most)
  first_state = record {
    need = refl;
    left = refl;
    opened = refl;
    before = λ j b e. omega arith;
    seen_back = λ j t. absurd t;
    seen = λ j b e. absurd (not-suc-le-zero e);
    size = length-replicate most 0;
    coloured = λ j b e. absurd (not-suc-le-zero e);
  }

  -- a written sheet, checked: 34 at the first clash, or accepted with the same k and the same group numbers
  pub sheet_up_to_read : (longest : ℕ) → length (sheet_text c) ≤ longest
      → (w : List ℕ) × (take (length c) w ≡ c) × (sheet_up_to most longest (length c) clash (sheet_text c)
      ≡ found (clash_line clash c) (accepted (length c) (groups 0 c) w))
  unfolding sheet_text clash_line
  sheet_up_to_read longest short =
      let k = groups 0 c in
      let fit = groups_fit 0 c canon in
      let r = groups_read k 0 begun nobody (λ j. nobody j || nobody j) (no_colours_up_to most) 2 first_state (omega arith) in (
        r.0,
        r.1,
        rw (le-leb (length (sheet_text c)) longest short)
            (ap (λ (x : Text). check_from x n clash 1 start nobody nobody (no_colours_up_to most))
            (one_back groups_word k (groups_text c 0 k) (
              (λ e. omega arith),
              ((λ e. omega arith), ((λ e. omega arith), ((λ e. omega arith), ((λ e. omega arith), ((λ e. omega arith), ((λ e. omega arith), tt)))))),
            ))
            ∙ ap (λ (x : Result Step SheetFault). after x 1 nobody nobody (no_colours_up_to most) (check_from (lines_of (groups_text c 0 k)) n clash 2))
            (at_groups n clash nobody nobody (groups_word ++ numeral k) (Some k) (alone_back k (omega arith)))
            ∙ r.2),
      )

-- with today's limits every sheet is short enough
pub sheet_read : (c : List ℕ) (canon : Canon 0 c) → length c ≤ most_entries → (clash : ℕ → ℕ → Bool)
    → (w : List ℕ) × (take (length c) w ≡ c) × (sheet_of (length c) clash (sheet_text c) ≡ found (clash_line clash c) (accepted (length c) (groups 0 c) w))
sheet_read c canon few clash = sheet_up_to_read most_entries c canon few (omega arith) clash longest_text (sheet_fits c canon few)
