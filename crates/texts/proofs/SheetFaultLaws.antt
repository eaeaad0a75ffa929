-- Faults of a sheet by their numbers, and the lines before a line.
--
--   number_of f   : the number of a fault of a sheet
--   After t0 i t : t are the lines of t0 after the first i
--   Found n clash t f k : the lines t are refused with the fault f at line k, or at the end
--
-- Assumes nothing.
use Prim.Native.Nat.{ℕ, zero, suc, ◌+◌, ◌≤◌, ◌<◌}
use mathlib.Core.Path.{◌≡◌, sym, ap, subst, ◌∙◌}
use mathlib.Core.Logic.{◌⊎◌, inl, ⊎_elim}
use mathlib.Core.List.{List, [], ◌∷◌}
use mathlib.Core.Bool.{Bool}
use native.Mathlib.Decide.{dec_lt}
use native.Mathlib.Omega.{arith}
use borrow.Author.Tests.{eqb-true}
use lib.Dec.{eqb}
use Rattle.sets.specs.Lists.{In}
use Rattle.refusals.specs.Table as table
use Rattle.lines.specs.Text.{Text, ended, line_no_lem, line_count, Within}
use Rattle.sheets.specs.Promise.{refusal_of_lem}
use Rattle.sheets.specs.declared.SheetFault.{SheetFault}
use Rattle.sheets.specs.declared.SheetFault.TheVariants.{Long, Line, Member, Order, Twice, Clash, Ends, Missing, Extra}
use Rattle.texts.specs.Faults.{Unended, place, Clean, InLine, AtEnd}
use Rattle.texts.specs.SheetFaults.{Group, Saying, laid, before, now_of, earlier_of, StandsIn, HasAt, Has, sheet_order, Lacks}
use Rattle.texts.proofs.Refusals.{if_cases, in_order}
use Rattle.texts.proofs.SheetKinds.{laid_one}

abbrev pub number_of : SheetFault → ℕ
number_of f = table.number_of (refusal_of_lem f)

-- ---- the rest of a text

pub record After (t0 : Text) (i : ℕ) (t : Text) : Type 0 where
  pub line : (k : ℕ) → line_no_lem t0 (i + k) ≡ line_no_lem t k
  pub cut_forth : (k : ℕ) → Unended t (suc k) → Unended t0 (suc (i + k))
  pub cut_back : (k : ℕ) → Unended t0 (suc (i + k)) → Unended t (suc k)
  pub many : line_count t0 ≡ i + line_count t

pub after_whole : (t : Text) → After t 0 t
after_whole t = record {
  line = λ k. let e : 0 + k ≡ k = omega arith in ap (line_no_lem t) e;
  cut_forth = λ k x. let e : suc k ≡ suc (0 + k) = omega arith in subst (Unended t) e x;
  cut_back = λ k x. let e : suc (0 + k) ≡ suc k = omega arith in subst (Unended t) e x;
  many = omega arith;
}

pub after_next : (t0 : Text) (i : ℕ) (l : List ℕ) (t : Text) → After t0 i (ended l t) → After t0 (suc i) t
after_next t0 i l t r = record {
  line = λ k. let e : suc i + k ≡ i + suc k = omega arith in ap (line_no_lem t0) e ∙ r.line (suc k);
  cut_forth = λ k x. let e : suc (i + suc k) ≡ suc (suc i + k) = omega arith in subst (Unended t0) e (r.cut_forth (suc k) x);
  cut_back = λ k x. let e : suc (suc i + k) ≡ suc (i + suc k) = omega arith in r.cut_back (suc k) (subst (Unended t0) e x);
  many = omega (arith, r.many);
}

-- ---- members

pub stands_split : (gs : List Group) (u : ℕ) → StandsIn gs u → In u (now_of gs) ⊎ StandsIn (earlier_of gs) u
stands_split [] u h = absurd h
stands_split (g ∷ gs) u h = h

pub split_stands : (gs : List Group) (u : ℕ) → In u (now_of gs) ⊎ StandsIn (earlier_of gs) u → StandsIn gs u
split_stands [] u h = ⊎_elim (λ x. absurd x) (λ x. absurd x) h
split_stands (g ∷ gs) u h = h

-- ---- by number

module _ (n : ℕ) (clash : ℕ → ℕ → Bool) where
  abbrev pub Found : Text → SheetFault → ℕ → Type 0
  Found t f k = InLine t (Has n clash t) sheet_order (number_of f) k ⊎ AtEnd t (Has n clash t) (Lacks n t) (number_of f) k

  -- the fault that a number says, where a line has it
  pub at_fault : (t : Text) (k : ℕ) (x : Saying) (f : ℕ) → HasAt n clash t k x f → (g : SheetFault) × (f ≡ number_of g)
  at_fault t k x f h =
      if_cases (eqb f 30) h (λ e _. (Line, eqb-true f 30 e))
      (λ _ h. if_cases (eqb f 31) h (λ e _. (Member, eqb-true f 31 e))
      (λ _ h. if_cases (eqb f 32) h (λ e _. (Order, eqb-true f 32 e))
      (λ _ h. if_cases (eqb f 33) h (λ e _. (Twice, eqb-true f 33 e))
      (λ _ h. if_cases (eqb f 34) h (λ e _. (Clash, eqb-true f 34 e))
      (λ _ h. if_cases (eqb f 37) h (λ e _. (Extra, eqb-true f 37 e)) (λ _ h. absurd h))))))

  at_known : (t : Text) (k : ℕ) (x : Saying) (f : ℕ) → HasAt n clash t k x f → In f sheet_order
  at_known t k x f h =
      let w = at_fault t k x f h in
      subst (λ (m : ℕ). In m sheet_order) (sym w.1) (go w.0 (subst (HasAt n clash t k x) w.1 h))
    where
      go : (g : SheetFault) → HasAt n clash t k x (number_of g) → In (number_of g) sheet_order
      go Line x = in_order sheet_order 30 tt
      go Member x = in_order sheet_order 31 tt
      go Order x = in_order sheet_order 32 tt
      go Twice x = in_order sheet_order 33 tt
      go Clash x = in_order sheet_order 34 tt
      go Extra x = in_order sheet_order 37 tt
      go Ends x = absurd x
      go Missing x = absurd x
      go Long x = absurd x

  pub has_known : (t : Text) (k f : ℕ) → Has n clash t k f → In f sheet_order
  has_known t zero f h = absurd h
  has_known t (suc i) f h = at_known t (suc i) h.0 f h.2

  -- the lines before a line say one thing
  module _ (t : Text) (i : ℕ) (x : Saying) (e : before t i ≡ laid x) where
    has_at : (f : ℕ) → Has n clash t (suc i) f → (g : SheetFault) × (f ≡ number_of g) × HasAt n clash t (suc i) x (number_of g)
    has_at f h =
        let y = laid_one h.0 x (sym h.1 ∙ e) in
        let a = subst (λ (z : Saying). HasAt n clash t (suc i) z f) y h.2 in
        let w = at_fault t (suc i) x f a in
        (w.0, w.1, subst (HasAt n clash t (suc i) x) w.1 a)

    pub line_clean : ((g : SheetFault) → ¬ HasAt n clash t (suc i) x (number_of g)) → Clean (Has n clash t) (suc i)
    line_clean c f h = let w = has_at f h in c w.0 w.2

    pub line_found : (f : SheetFault) → Within t (suc i) → ((j : ℕ) → j ≤ i → Clean (Has n clash t) j) → HasAt n clash t (suc i) x (number_of f)
        → ((g : SheetFault) → place sheet_order (number_of g) < place sheet_order (number_of f) → ¬ HasAt n clash t (suc i) x (number_of g)) → Found t f (suc i)
    line_found f w c a low = inl (record {
      within = w;
      fault = (x, e, a);
      first = λ j b. c j (omega arith);
      lowest = λ g b h. let v = has_at g h in low v.0 (subst (λ (m : ℕ). place sheet_order m < place sheet_order (number_of f)) v.1 b) v.2;
    })

  pub clean_more : (t : Text) (i : ℕ) → ((j : ℕ) → j ≤ i → Clean (Has n clash t) j) → Clean (Has n clash t) (suc i) → (j : ℕ) → j ≤ suc i → Clean (Has n clash t) j
  clean_more t i c d j b = go (dec_lt i j)
    where
      go : Dec (i < j) → Clean (Has n clash t) j
      go (yes a) = let z : suc i ≡ j = omega arith in subst (Clean (Has n clash t)) z d
      go (no a) = c j (omega arith)
