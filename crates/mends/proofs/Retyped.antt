-- A sheet that was written, as typed: its groups are those of the division. And each entry stands in it once.
use Prim.Native.Nat.{ℕ, zero, suc, ◌+◌, ◌-◌, ◌≤◌, ◌<◌}
use mathlib.Core.Path.{◌≡◌, refl, sym, ap, subst, ◌∙◌}
use mathlib.Core.List.{List, [], ◌∷◌, ◌++◌, map, append_assoc, append-nil}
use mathlib.Core.Bool.{Bool, true, false}
use Rattle.std.specs.Prelude.{Option, Some, Result, Ok}
use native.Mathlib.Numerals.{add-one}
use native.Mathlib.Decide.{dec_lt}
use native.Mathlib.Omega.{arith}
use borrow.Author.Tests.{le-leb, eqb-true, ne_eqb, eq-eqb}
use lib.Dec.{T, eqb}
use lib.ListN.{length}
use Rattle.sets.specs.Lists.{bit, put, count}
use Rattle.sets.proofs.ListLaws.{count_append}
use Rattle.clashes.specs.Divisions.{at, Canon, groups}
use Rattle.clashes.proofs.DivisionLaws.{groups_fit}
use Rattle.clashes.proofs.ColouringLaws.{canon_below}
use Rattle.lines.specs.Text.{Text, lines_of}
use Rattle.lines.specs.Numeral.{numeral, one_line}
use Rattle.lines.proofs.Back.{alone_back, one_back}
use Rattle.sheets.specs.Check.{groups_word, size_word}
use Rattle.sheets.specs.declared.SheetFault.{SheetFault}
use Rattle.sheet_texts.specs.Sheet.{members_of, member_lines, groups_text, sheet_text}
use Rattle.sheet_texts.proofs.Members.{members_le}
use Rattle.sheet_texts.proofs.Groups.{Rising, group_led, members_risen}
use Rattle.mends.specs.declared.Counts.{Counts}
use Rattle.mends.specs.declared.Step.{Step}
use Rattle.mends.specs.declared.Step.TheVariants.{Size, Member}
use Rattle.mends.specs.Typed.{Typed, is, member, group, step_of, groups_of, after, typed_from, typed_of}
use Rattle.mends.proofs.Seen.{flat}
use Rattle.mends.proofs.Passing.{sheet_groups_from, sheet_groups}

abbrev counts : ℕ → ℕ → Counts
counts left need = record { left = left; need = need }

abbrev coming : ℕ → ℕ → Option Counts
coming left need = Some (counts left need)

abbrev all : List ℕ → Typed → Typed
all [] t = t
all (u ∷ us) t = member u (all us t)

all_is : (us vs : List ℕ) (gs : List (List ℕ)) → all us (is vs gs) ≡ is (us ++ vs) gs
all_is [] vs gs = refl
all_is (u ∷ us) vs gs = ap (member u) (all_is us vs gs)

-- ---- one line

member_step : (left need i : ℕ) → i + 1 < 10000000 → step_of (coming left (suc need)) (numeral (i + 1)) ≡ Ok (Member (counts left need) (suc i))
member_step left need i h =
    let e : suc need - 1 ≡ need = omega arith in
    rw (le-leb 1 (suc need) (omega arith), alone_back (i + 1) h, e, add-one i)

size_step : (left s : ℕ) → 1 ≤ s → s < 10000000 → step_of (coming (suc left) 0) (size_word ++ numeral s) ≡ Ok (Size (counts left s))
size_step left s l h =
    let e : suc left - 1 ≡ left = omega arith in
    rw (le-leb 1 (suc left) (omega arith), alone_back s h, le-leb 1 s l, e)

-- ---- the lines of a group, of all groups, of a sheet

module _ (c : List ℕ) (canon : Canon 0 c) (few : length c < 9999999) where
  members_typed : (f : ℕ) (l rest : List ℕ) (line left : ℕ) → Rising (length c) f l
      → typed_from (lines_of (member_lines l ++ rest)) line (coming left (length l)) ≡ all (map suc l) (typed_from (lines_of rest) (line + length l) (coming left 0))
  members_typed f [] rest line left r = let e : line ≡ line + 0 = omega arith in ap (λ (x : ℕ). typed_from (lines_of rest) x (coming left 0)) e
  members_typed f (i ∷ l) rest line left r =
      let t = member_lines l ++ rest in
      let e : line + 1 + length l ≡ line + suc (length l) = omega arith in
      ap (λ (x : List ℕ). typed_from (lines_of x) line (coming left (suc (length l)))) (append_assoc (one_line [] (i + 1)) (member_lines l) rest)
      ∙ ap (λ (x : Text). typed_from x line (coming left (suc (length l)))) (one_back [] (i + 1) t tt)
      ∙ ap (λ (x : Result Step SheetFault). after x line (typed_from (lines_of t) (line + 1))) (member_step left (length l) i (omega (arith, r.1)))
      ∙ ap (member (suc i))
      (members_typed (i + 1) l rest (line + 1) left r.2 ∙ ap (λ (x : ℕ). all (map suc l) (typed_from (lines_of rest) x (coming left 0))) e)

  groups_typed : (k g line : ℕ) → g + k ≤ groups 0 c → typed_from (lines_of (groups_text c g k)) line (coming k 0) ≡ is [] (sheet_groups_from c g k)
  groups_typed zero g line h = refl
  groups_typed (suc k) g line h =
      let led = group_led c g canon (omega arith) in
      let m = members_of c 0 g in
      let t = groups_text c (g + 1) k in
      let e : 1 ≤ length m = omega (arith, ap length led.whole) in
      let a = members_typed 0 m t (line + 1) k (members_risen c g canon) in
      let b = groups_typed k (g + 1) (line + 1 + length m) (omega arith) in
      ap (λ (x : List ℕ). typed_from (lines_of x) line (coming (suc k) 0)) (append_assoc (one_line size_word (length m)) (member_lines m) t)
      ∙ ap (λ (x : Text). typed_from x line (coming (suc k) 0)) (one_back size_word (length m) (member_lines m ++ t)
      ((λ e. omega arith), ((λ e. omega arith), ((λ e. omega arith), ((λ e. omega arith), ((λ e. omega arith), tt))))))
      ∙ ap (λ (x : Result Step SheetFault). after x line (typed_from (lines_of (member_lines m ++ t)) (line + 1))) (size_step k (length m) e (omega (arith, members_le c 0 g)))
      ∙ ap group (a ∙ ap (all (map suc m)) b ∙ all_is (map suc m) [] (sheet_groups_from c (g + 1) k))
      ∙ ap (λ (x : List ℕ). is [] (x ∷ sheet_groups_from c (g + 1) k)) (append-nil (map suc m))

  pub sheet_typed : typed_of (lines_of (sheet_text c)) ≡ is [] (sheet_groups c)
  unfolding sheet_text
  sheet_typed =
      let k = groups 0 c in
      ap typed_of (one_back groups_word k (groups_text c 0 k)
      ((λ e. omega arith), ((λ e. omega arith), ((λ e. omega arith), ((λ e. omega arith), ((λ e. omega arith), ((λ e. omega arith), ((λ e. omega arith), tt))))))))
      ∙ ap (λ (x : Option ℕ). after (groups_of x) 1 (typed_from (lines_of (groups_text c 0 (groups 0 c))) 2)) (alone_back k (omega (arith, groups_fit 0 c canon)))
      ∙ groups_typed k 0 2 (omega arith)

-- ---- each entry stands once

-- how often x is among the members of group g
members_count : (c : List ℕ) (i g j : ℕ) → j < length c → count (eqb (i + j)) (members_of c i g) ≡ bit (eqb (at c j) g)
members_count c i g j h = go c i j h
  where
    after_all : (c : List ℕ) (i g x : ℕ) → x < i → count (eqb x) (members_of c i g) ≡ 0
    after_all [] i g x l = refl
    after_all (y ∷ c) i g x l = pick (eqb y g) (after_all c (i + 1) g x (omega arith))
      where
        pick : (b : Bool) → count (eqb x) (members_of c (i + 1) g) ≡ 0 → count (eqb x) (put b i (members_of c (i + 1) g)) ≡ 0
        pick true r = rw (ne_eqb x i (λ e. omega arith)) (omega (arith, r))
        pick false r = r

    go : (c : List ℕ) (i j : ℕ) → j < length c → count (eqb (i + j)) (members_of c i g) ≡ bit (eqb (at c j) g)
    go [] i j h = absurd (omega arith)
    go (y ∷ c) i zero h = first (eqb y g) (after_all c (i + 1) g (i + 0) (omega arith))
      where
        first : (b : Bool) → count (eqb (i + 0)) (members_of c (i + 1) g) ≡ 0 → count (eqb (i + 0)) (put b i (members_of c (i + 1) g)) ≡ bit b
        first true r = rw (eq-eqb (i + 0) i (omega arith)) (omega arith)
        first false r = r
    go (y ∷ c) i (suc j) h = other (eqb y g) (let e : i + 1 + j ≡ i + suc j = omega arith in subst (λ (x : ℕ). count (eqb x) (members_of c (i + 1) g) ≡ bit (eqb (at c j) g)) e (go c (i + 1) j (omega arith)))
      where
        other : (b : Bool) → count (eqb (i + suc j)) (members_of c (i + 1) g) ≡ bit (eqb (at c j) g) → count (eqb (i + suc j)) (put b i (members_of c (i + 1) g)) ≡ bit (eqb (at c j) g)
        other true r = rw (ne_eqb (i + suc j) i (λ e. omega arith)) (omega (arith, r))
        other false r = r

module _ (c : List ℕ) (x : ℕ) (h : x < length c) where
  suc_count : (l : List ℕ) → count (eqb (suc x)) (map suc l) ≡ count (eqb x) l
  suc_count [] = refl
  suc_count (y ∷ l) = ap (λ (m : ℕ). bit (eqb (suc x) (suc y)) + m) (suc_count l) ∙ ap (λ (b : Bool). bit b + count (eqb x) l) (same x y)
    where
      same : (x y : ℕ) → eqb (suc x) (suc y) ≡ eqb x y
      same x y = pick (eqb x y) refl
        where
          pick : (b : Bool) → eqb x y ≡ b → eqb (suc x) (suc y) ≡ b
          pick true e = eq-eqb (suc x) (suc y) (omega (arith, eqb-true x y e))
          pick false e = ne_eqb (suc x) (suc y) (λ z. let w : eqb x y ≡ true = eq-eqb x y (omega arith) in absurd (subst T (sym w ∙ e) tt))

  group_count : (g : ℕ) → count (eqb (suc x)) (map suc (members_of c 0 g)) ≡ bit (eqb (at c x) g)
  group_count g =
      let e : 0 + x ≡ x = omega arith in
      suc_count (members_of c 0 g) ∙ subst (λ (y : ℕ). count (eqb y) (members_of c 0 g) ≡ bit (eqb (at c x) g)) e (members_count c 0 g x h)

  past_from : (k g : ℕ) → at c x < g → count (eqb (suc x)) (flat (sheet_groups_from c g k)) ≡ 0
  past_from zero g l = refl
  past_from (suc k) g l =
      omega (
        arith,
        count_append (eqb (suc x)) (map suc (members_of c 0 g)) (flat (sheet_groups_from c (g + 1) k)),
        group_count g,
        ap bit (ne_eqb (at c x) g (λ e. omega arith)),
        past_from k (g + 1) (omega arith),
      )

  once_from : (k g : ℕ) → g ≤ at c x → at c x < g + k → count (eqb (suc x)) (flat (sheet_groups_from c g k)) ≡ 1
  once_from zero g l u = absurd (omega arith)
  once_from (suc k) g l u = pick (dec_lt g (at c x)) (once_from k (g + 1))
    where
      whole : count (eqb (suc x)) (flat (sheet_groups_from c g (suc k))) ≡ bit (eqb (at c x) g) + count (eqb (suc x)) (flat (sheet_groups_from c (g + 1) k))
      whole =
          omega (
            arith,
            count_append (eqb (suc x)) (map suc (members_of c 0 g)) (flat (sheet_groups_from c (g + 1) k)),
            group_count g,
          )

      pick : Dec (g < at c x) → (g + 1 ≤ at c x → at c x < g + 1 + k → count (eqb (suc x)) (flat (sheet_groups_from c (g + 1) k)) ≡ 1)
          → count (eqb (suc x)) (flat (sheet_groups_from c g (suc k))) ≡ 1
      pick (yes b) r = omega (arith, whole, ap bit (ne_eqb (at c x) g (λ e. omega arith)), r (omega arith) (omega arith))
      pick (no b) r = omega (arith, whole, ap bit (eq-eqb (at c x) g (omega arith)), past_from k (g + 1) (omega arith))

  -- the number of each entry stands in the sheet's groups once
  pub stands_once : Canon 0 c → count (eqb (suc x)) (flat (sheet_groups c)) ≡ 1
  stands_once canon = once_from (groups 0 c) 0 (omega arith) (omega (arith, canon_below 0 c x h))
