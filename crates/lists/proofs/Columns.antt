-- Where a line goes astray. The column that the definition computes is the first byte at which the line can no longer begin any permitted line, or one
-- past its end (`column_astray`, for every grammar whose expectations can be met; `clash_astray`, for clash texts with any comment word); there is one
-- such column (`astray_one`); a permitted line has it one past its end (`permitted_column`). The fault is read off what is expected there (`spot_due`),
-- which is just what may follow (`follow_takes` of Reach.antt); in a clash text it is the same whichever permitted line is asked (`due_one`).
--
--   AllFit gs : what these lines expect can always be met
--
-- Assumes nothing.
use Prim.Native.Nat.{ℕ, zero, suc, ◌+◌, ◌-◌, ◌≤◌, ◌<◌, max, zero-le}
use mathlib.Core.Path.{◌≡◌, refl, sym, ap, subst, ◌∙◌}
use mathlib.Core.Logic.{inl, inr, ⊎_elim}
use mathlib.Core.List.{List, [], ◌∷◌, ◌++◌, append_assoc}
use mathlib.Core.Bool.{Bool, true, false, cond}
use mathlib.Core.Option.{Option, none, some}
use native.Mathlib.Nat.{le_of_suc-le-suc, not-suc-le-zero}
use native.Mathlib.Decide.{dec_le, dec_lt}
use native.Mathlib.Omega.{arith}
use borrow.Author.Tests.{leb-true, leb-false, eqb-true}
use lib.Dec.{T, leb, eqb}
use lib.ListN.{length, take, drop}
use Rattle.sets.specs.Lists.{In, greatest, better}
use Rattle.sets.proofs.TestLaws.{or_l, or_r, or_cases}
use Rattle.lists.specs.Shape.{c_word, p_word, e_word}
use Rattle.lists.specs.Expect.{letter, space, number, more, anything, Pieces, Grammar, onward, takes, follow, reach, left, permits, Begins, Due, Astray, furthest, column, digit_at, fault_at_lem, fault_in, spot_in, of_shape, spelled, two_numbers, clash_lines, permitted, spot_of}
use Rattle.lists.specs.declared.Fault.TheVariants.{Line, Unended}
use Rattle.lists.proofs.Reach.{Fit, reach_le, reach_begins, reach_most, reach_follow, takes_reach}

abbrev pub AllFit : Grammar → Type 0
AllFit [] = Unit {0}
AllFit (g ∷ gs) = Fit g × AllFit gs

-- ---- the furthest that some permitted line goes

furthest_le : (gs : Grammar) (l : List ℕ) → furthest gs l ≤ length l
furthest_le [] l = zero-le
furthest_le (g ∷ gs) l = let a = reach_le l g in let b = furthest_le gs l in omega arith

furthest_begins : (g : Pieces) (gs : Grammar) (l : List ℕ) → Fit g → AllFit gs → Begins (g ∷ gs) (take (furthest (g ∷ gs) l) l)
furthest_begins g [] l f fs =
    let r = reach_begins l g f in
    let e : max (reach l g) 0 ≡ reach l g = omega arith in
    (r.0, or_l (takes (take (max (reach l g) 0) l ++ r.0) g) false (subst (λ (k : ℕ). T (takes (take k l ++ r.0) g)) (sym e) r.1))
furthest_begins g (h ∷ hs) l f fs = go (dec_le (furthest (h ∷ hs) l) (reach l g)) (furthest_begins h hs l fs.0 fs.1)
  where
    go : Dec (furthest (h ∷ hs) l ≤ reach l g) → Begins (h ∷ hs) (take (furthest (h ∷ hs) l) l)
        → Begins (g ∷ h ∷ hs) (take (furthest (g ∷ h ∷ hs) l) l)
    go (yes b) q =
        let r = reach_begins l g f in
        let e : max (reach l g) (furthest (h ∷ hs) l) ≡ reach l g = omega arith in (
          r.0,
          or_l (takes (take (furthest (g ∷ h ∷ hs) l) l ++ r.0) g) (permits (h ∷ hs) (take (furthest (g ∷ h ∷ hs) l) l ++ r.0))
              (subst (λ (k : ℕ). T (takes (take k l ++ r.0) g)) (sym e) r.1),
        )
    go (no b) r =
        let e : max (reach l g) (furthest (h ∷ hs) l) ≡ furthest (h ∷ hs) l = omega arith in (
          r.0,
          or_r (takes (take (furthest (g ∷ h ∷ hs) l) l ++ r.0) g) (permits (h ∷ hs) (take (furthest (g ∷ h ∷ hs) l) l ++ r.0))
              (subst (λ (k : ℕ). T (permits (h ∷ hs) (take k l ++ r.0))) (sym e) r.1),
        )

furthest_most : (gs : Grammar) (l : List ℕ) (j : ℕ) → j ≤ length l → (y : List ℕ) → T (permits gs (take j l ++ y)) → j ≤ furthest gs l
furthest_most [] l j h y t = absurd t
furthest_most (g ∷ gs) l j h y t =
    ⊎_elim (λ a. omega (arith, reach_most l j y g h a)) (λ a. omega (arith, furthest_most gs l j h y a))
    (or_cases (takes (take j l ++ y) g) (permits gs (take j l ++ y)) t)

-- ---- the column

pub column_astray : (g : Pieces) (gs : Grammar) (l : List ℕ) → Fit g → AllFit gs → Astray (g ∷ gs) l (column (g ∷ gs) l)
column_astray g gs l f fs =
    let e : furthest (g ∷ gs) l ≡ furthest (g ∷ gs) l + 1 - 1 = omega arith in
    record {
      within = (omega arith, omega (arith, furthest_le (g ∷ gs) l));
      begins = subst (λ (k : ℕ). Begins (g ∷ gs) (take k l)) e (furthest_begins g gs l f fs);
      stuck = λ h b. omega (arith, furthest_most (g ∷ gs) l (furthest (g ∷ gs) l + 1) h b.0 b.1);
    }

-- what begins a permitted line does so with fewer bytes
rest_of : (i j : ℕ) (l : List ℕ) → i ≤ j → (z : List ℕ) × (take i l ++ z ≡ take j l)
rest_of zero j l h = (take j l, refl)
rest_of (suc i) zero l h = absurd (not-suc-le-zero h)
rest_of (suc i) (suc j) [] h = ([], refl)
rest_of (suc i) (suc j) (b ∷ l) h = let r = rest_of i j l (le_of_suc-le-suc h) in (r.0, ap (λ (x : List ℕ). b ∷ x) r.1)

begins_shorter : (gs : Grammar) (l : List ℕ) (i j : ℕ) → i ≤ j → Begins gs (take j l) → Begins gs (take i l)
begins_shorter gs l i j h b =
    let r = rest_of i j l h in (
      r.0 ++ b.0,
      subst (λ (x : List ℕ). T (permits gs x)) (ap (λ (x : List ℕ). x ++ b.0) (sym r.1) ∙ append_assoc (take i l) r.0 b.0)
          b.1,
    )

-- there is one such column
pub astray_one : (gs : Grammar) (l : List ℕ) (c d : ℕ) → Astray gs l c → Astray gs l d → c ≡ d
astray_one gs l c d a b = go (dec_lt c d) (dec_lt d c)
  where
    before : (c d : ℕ) → Astray gs l c → Astray gs l d → c < d → ⊥
    before c d a b h = a.stuck (omega (arith, b.within.1)) (begins_shorter gs l c (d - 1) (omega arith) b.begins)

    go : Dec (c < d) → Dec (d < c) → c ≡ d
    go (yes h) y = absurd (before c d a b h)
    go (no h) (yes k) = absurd (before d c b a k)
    go (no h) (no k) = omega arith

-- a permitted line has it one past its end
pub permitted_column : (gs : Grammar) (l : List ℕ) → T (permits gs l) → column gs l ≡ length l + 1
permitted_column gs l t = omega (arith, whole gs t, furthest_le gs l)
  where
    whole : (gs : Grammar) → T (permits gs l) → length l ≤ furthest gs l
    whole [] t = absurd t
    whole (g ∷ gs) t = ⊎_elim (λ a. omega (arith, takes_reach l g a)) (λ a. omega (arith, whole gs a)) (or_cases (takes l g) (permits gs l) t)

-- ---- the fault

-- the line that goes the furthest
abbrev Furthest : Pieces → Grammar → List ℕ → Type 0
Furthest g gs l = (h : Pieces) × (greatest (reach l) (g ∷ gs) ≡ some h) × (reach l h ≡ furthest (g ∷ gs) l) × In h (g ∷ gs)

furthest_line : (g : Pieces) (gs : Grammar) (l : List ℕ) → Furthest g gs l
furthest_line g [] l = (g, refl, omega arith, inl refl)
furthest_line g (i ∷ gs) l = go (furthest_line i gs l)
  where
    go : Furthest i gs l → Furthest g (i ∷ gs) l
    go r = pick (leb (reach l r.0) (reach l g)) refl
      where
        pick : (b : Bool) → leb (reach l r.0) (reach l g) ≡ b → Furthest g (i ∷ gs) l
        pick true e = (
          g,
          ap (better (reach l) g) r.1 ∙ ap (λ (x : Bool). cond x (some g) (some r.0)) e,
          omega (arith, leb-true (reach l r.0) (reach l g) e, r.2),
          inl refl,
        )
        pick false e = (
          r.0,
          ap (better (reach l) g) r.1 ∙ ap (λ (x : Bool). cond x (some g) (some r.0)) e,
          omega (arith, leb-false (reach l r.0) (reach l g) e, r.2),
          inr r.3,
        )

-- a line that is not permitted: some permitted line expects h at the column, and the fault is that of h
pub spot_due : (g : Pieces) (gs : Grammar) (l : List ℕ) → permits (g ∷ gs) l ≡ false
    → (h : Pieces) × Due (g ∷ gs) (take (column (g ∷ gs) l - 1) l) h ×
    ((spot_in (g ∷ gs) l).fault ≡ fault_at_lem h (digit_at (drop (column (g ∷ gs) l - 1) l)))
spot_due g gs l e =
    let r = furthest_line g gs l in
    let z : reach l r.0 ≡ furthest (g ∷ gs) l + 1 - 1 = omega (arith, r.2) in (
      left l r.0,
      (r.0, r.3, ap (λ (k : ℕ). follow (take k l) r.0) (sym z) ∙ reach_follow l r.0),
      ap (λ (b : Bool). cond b Unended (fault_in (greatest (reach l) (g ∷ gs)) l)) e ∙ ap (λ (o : Option Pieces). fault_in o l) r.1
          ∙ ap (λ (k : ℕ). fault_at_lem (left l r.0) (digit_at (drop k l))) z,
    )

fault_shape : (g : Pieces) (d : Bool) → T (of_shape (fault_at_lem g d))
fault_shape [] d = tt
fault_shape (letter x ∷ g) d = tt
fault_shape (space ∷ g) d = tt
fault_shape (number ∷ g) d = tt
fault_shape (more k ∷ g) true = tt
fault_shape (more k ∷ g) false = tt
fault_shape (anything ∷ g) d = tt

spot_shape_in : (gs : Grammar) (l : List ℕ) → T (of_shape (spot_in gs l).fault)
spot_shape_in gs l = go (permits gs l)
  where
    of : (o : Option Pieces) → T (of_shape (fault_in o l))
    of none = tt
    of (some g) = fault_shape (left l g) (digit_at (drop (reach l g) l))

    go : (b : Bool) → T (of_shape (cond b Unended (fault_in (greatest (reach l) gs) l)))
    go true = tt
    go false = of (greatest (reach l) gs)

-- ---- the lines of a clash text

fit_spelled : (w : List ℕ) (g : Pieces) → Fit g → Fit (spelled w g)
fit_spelled [] g f = f
fit_spelled (x ∷ w) g f = go (eqb x 32) (fit_spelled w g f)
  where
    go : (b : Bool) → Fit (spelled w g) → Fit (cond b space (letter x) ∷ spelled w g)
    go true r = r
    go false r = r

-- with any comment word
pub clash_astray : (c l : List ℕ) → Astray (clash_lines c) l (column (clash_lines c) l)
clash_astray c l = column_astray (spelled c (anything ∷ [])) _ l (fit_spelled c (anything ∷ []) tt) ((tt, (tt, tt)), ((tt, (tt, tt)), tt))

pub spot_astray : (l : List ℕ) → Astray permitted l (spot_of l).column
unfolding spot_of
spot_astray l = clash_astray c_word l

pub spot_shape : (l : List ℕ) → T (of_shape (spot_of l).fault)
unfolding spot_of
spot_shape l = spot_shape_in permitted l

-- a permitted line, which can only be unended: 23, one past its end
pub spot_whole : (l : List ℕ) → permits permitted l ≡ true → spot_of l ≡ record { fault = Unended; column = length l + 1 }
unfolding spot_of
spot_whole l e =
    let c = permitted_column permitted l (subst T (sym e) tt) in
    ap (λ (b : Bool). record { fault = cond b Unended (fault_in (greatest (reach l) permitted) l); column = column permitted l }) e
    ∙ ap (λ (k : ℕ). record { fault = Unended; column = k }) c

-- another: by what some permitted line expects there
pub spot_bad : (l : List ℕ) → permits permitted l ≡ false
    → (h : Pieces) × Due permitted (take ((spot_of l).column - 1) l) h × ((spot_of l).fault ≡ fault_at_lem h (digit_at (drop ((spot_of l).column - 1) l)))
unfolding spot_of
spot_bad l e = spot_due (spelled c_word (anything ∷ [])) (spelled p_word two_numbers ∷ spelled e_word two_numbers ∷ []) l e

-- a permitted line begins with a letter, which says which line it is
abbrev initial : Pieces → ℕ
initial [] = 0
initial (letter x ∷ g) = x
initial (space ∷ g) = 0
initial (number ∷ g) = 0
initial (more k ∷ g) = 0
initial (anything ∷ g) = 0

initial_taken : (i : Pieces) → In i permitted → (b : ℕ) (x : List ℕ) (g : Pieces) → follow (b ∷ x) i ≡ some g → initial i ≡ b
initial_taken i m b x g = ⊎_elim (λ e. by e (go 99 _)) (λ m. ⊎_elim (λ e. by e (go 112 _)) (λ m. ⊎_elim (λ e. by e (go 101 _)) (λ m. absurd m) m) m) m
  where
    by : {j : Pieces} → i ≡ j → (follow (b ∷ x) j ≡ some g → initial j ≡ b) → follow (b ∷ x) i ≡ some g → initial i ≡ b
    by e = subst (λ (y : Pieces). follow (b ∷ x) y ≡ some g → initial y ≡ b) (sym e)

    go : (z : ℕ) (r : Pieces) → follow (b ∷ x) (letter z ∷ r) ≡ some g → z ≡ b
    go z r = at (eqb z b) refl
      where
        at : (t : Bool) → eqb z b ≡ t → onward none (follow x) (cond t (some r) none) ≡ some g → z ≡ b
        at true e f = eqb-true z b e
        at false e f = let w : ◌≡◌ {A = ℕ} 0 1 = cc in absurd (omega arith)

initial_one : (i j : Pieces) → In i permitted → In j permitted → initial i ≡ initial j → i ≡ j
initial_one i j (inl e) (inl f) h = e ∙ sym f
initial_one i j (inl e) (inr (inl f)) h = absurd (omega (arith, ap initial e, ap initial f))
initial_one i j (inl e) (inr (inr (inl f))) h = absurd (omega (arith, ap initial e, ap initial f))
initial_one i j (inl e) (inr (inr (inr f))) h = absurd f
initial_one i j (inr (inl e)) (inl f) h = absurd (omega (arith, ap initial e, ap initial f))
initial_one i j (inr (inl e)) (inr (inl f)) h = e ∙ sym f
initial_one i j (inr (inl e)) (inr (inr (inl f))) h = absurd (omega (arith, ap initial e, ap initial f))
initial_one i j (inr (inl e)) (inr (inr (inr f))) h = absurd f
initial_one i j (inr (inr (inl e))) (inl f) h = absurd (omega (arith, ap initial e, ap initial f))
initial_one i j (inr (inr (inl e))) (inr (inl f)) h = absurd (omega (arith, ap initial e, ap initial f))
initial_one i j (inr (inr (inl e))) (inr (inr (inl f))) h = e ∙ sym f
initial_one i j (inr (inr (inl e))) (inr (inr (inr f))) h = absurd f
initial_one i j (inr (inr (inr e))) y h = absurd e

-- so two permitted lines that go on after the same bytes expect the same there, or each a first letter
pub due_one : (x : List ℕ) (g h : Pieces) → Due permitted x g → Due permitted x h → (d : Bool) → fault_at_lem g d ≡ fault_at_lem h d
due_one [] g h a b d = first g a.0 a.1 a.2 ∙ sym (first h b.0 b.1 b.2)
  where
    first : (g i : Pieces) → In i permitted → follow [] i ≡ some g → fault_at_lem g d ≡ Line
    first g i (inl e) f = let z : g ≡ i = cc in ap (λ (y : Pieces). fault_at_lem y d) (z ∙ e)
    first g i (inr (inl e)) f = let z : g ≡ i = cc in ap (λ (y : Pieces). fault_at_lem y d) (z ∙ e)
    first g i (inr (inr (inl e))) f = let z : g ≡ i = cc in ap (λ (y : Pieces). fault_at_lem y d) (z ∙ e)
    first g i (inr (inr (inr e))) f = absurd e
due_one (b ∷ x) g h p q d =
    let i = initial_one p.0 q.0 p.1 q.1 (initial_taken p.0 p.1 b x g p.2 ∙ sym (initial_taken q.0 q.1 b x h q.2)) in
    let z : some g ≡ some h = sym p.2 ∙ ap (follow (b ∷ x)) i ∙ q.2 in
    let e : g ≡ h = cc in
    ap (λ (y : Pieces). fault_at_lem y d) e
