-- The words of a refusal leave one number and one line, and leave none where the text is without fault. Assumes nothing.
use Prim.Native.Nat.{ℕ, zero, suc, ◌≤◌, ◌<◌}
use mathlib.Core.Path.{◌≡◌, refl, sym, ap, subst, ◌∙◌}
use mathlib.Core.Logic.{◌⊎◌, inl, inr, ⊎_elim}
use mathlib.Core.List.{List, [], ◌∷◌}
use mathlib.Core.Bool.{Bool, true, false, cond}
use native.Mathlib.Omega.{arith}
use native.Mathlib.Decide.{dec_lt}
use borrow.Author.Tests.{leb-false, eqb-true, eqb-false}
use lib.Dec.{T, leb, eqb, eqb→eq}
use lib.ListN.{length}
use Rattle.sets.specs.Lists.{In, some?}
use Rattle.sets.proofs.TestLaws.{or_cases}
use Rattle.refusals.specs.Table.{number_of, If}
use Rattle.refusals.specs.declared.Refusal.TheVariants.{Long}
use Rattle.lines.specs.Text.{lines_of}
use Rattle.lists.specs.Read.{inside}
use Rattle.texts.specs.Faults.{Outside, place, InLine, AtEnd, Refusal, Faultless}

-- ---- selected by number

pub if_cases : {P Q R : Type 0} (b : Bool) → If b P Q → (b ≡ true → P → R) → (b ≡ false → Q → R) → R
if_cases true h f g = f refl h
if_cases false h f g = g refl h

if_not : (P : Type 0) {Q : Type 0} (b : Bool) → b ≡ false → Q → If b P Q
if_not P true e h = absurd (subst T e tt)
if_not P false e h = h

-- ---- places in an order

-- the number at a place
abbrev nth : List ℕ → ℕ → ℕ
nth [] i = 0
nth (g ∷ order) zero = g
nth (g ∷ order) (suc i) = nth order i

nth_place : (order : List ℕ) (f : ℕ) → In f order → nth order (place order f) ≡ f
nth_place [] f h = absurd h
nth_place (g ∷ order) f h = go (eqb f g) refl (nth_place order f)
  where
    go : (b : Bool) → eqb f g ≡ b → (In f order → nth order (place order f) ≡ f) → nth (g ∷ order) (cond b 0 (suc (place order f))) ≡ f
    go true e r = sym (eqb-true f g e)
    go false e r = ⊎_elim (λ x. absurd (eqb-false f g e x)) r h

-- a number that an order has, by looking it up
pub in_order : (order : List ℕ) (f : ℕ) → T (some? (eqb f) order) → In f order
in_order [] f h = absurd h
in_order (g ∷ order) f h = ⊎_elim (λ x. inl (eqb→eq f g x)) (λ x. inr (in_order order f x)) (or_cases (eqb f g) (some? (eqb f) order) h)

place_one : (order : List ℕ) (f g : ℕ) → In f order → In g order → place order f ≡ place order g → f ≡ g
place_one order f g a b e = sym (nth_place order f a) ∙ ap (nth order) e ∙ nth_place order g b

-- ---- the laws

module _ (longest : ℕ) (s : List ℕ) (has : ℕ → ℕ → Type 0) (order : List ℕ) (lacks : ℕ → Type 0) where
  abbrev Found : ℕ → ℕ → Type 0
  Found f k = InLine (lines_of s) has order f k ⊎ AtEnd (lines_of s) has lacks f k

  pub refusal_cases : (f k : ℕ) → Refusal longest s has order lacks f k
      → ((f ≡ number_of Long) × (k ≡ 0) × (longest < length s)) ⊎ ((length s ≤ longest) × Found f k)
  refusal_cases f k h = if_cases (eqb f (number_of Long)) h (λ e x. inl (eqb-true f 18 e, x.0, x.1)) (λ e x. inr x)

  module _ (known : (k f : ℕ) → has k f → In f order) (one : (f g : ℕ) → lacks f → lacks g → f ≡ g) where
    line_one : (f g k j : ℕ) → InLine (lines_of s) has order f k → InLine (lines_of s) has order g j → (f ≡ g) × (k ≡ j)
    line_one f g k j a b = go (dec_lt k j) (dec_lt j k)
      where
        same : k ≡ j → (f ≡ g) × (k ≡ j)
        same e = (place_one order f g (known k f a.fault) (known j g b.fault) (lows (dec_lt (place order f) (place order g)) (dec_lt (place order g) (place order f))), e)
          where
            lows : Dec (place order f < place order g) → Dec (place order g < place order f) → place order f ≡ place order g
            lows (yes l) y = absurd (b.lowest f l (subst (λ (m : ℕ). has m f) e a.fault))
            lows (no l) (yes h) = absurd (a.lowest g h (subst (λ (m : ℕ). has m g) (sym e) b.fault))
            lows (no l) (no h) = omega arith

        go : Dec (k < j) → Dec (j < k) → (f ≡ g) × (k ≡ j)
        go (yes l) y = absurd (b.first k l f a.fault)
        go (no l) (yes h) = absurd (a.first j h g b.fault)
        go (no l) (no h) = same (omega arith)

    apart : (f g k j : ℕ) → InLine (lines_of s) has order f k → AtEnd (lines_of s) has lacks g j → ⊥
    apart f g k j a b = b.clean k (omega (arith, a.within.1, b.line)) f a.fault

    found_one : (f g k j : ℕ) → Found f k → Found g j → (f ≡ g) × (k ≡ j)
    found_one f g k j (inl a) (inl b) = line_one f g k j a b
    found_one f g k j (inl a) (inr b) = absurd (apart f g k j a b)
    found_one f g k j (inr a) (inl b) = absurd (apart g f j k b a)
    found_one f g k j (inr a) (inr b) = (one f g a.fault b.fault, a.line ∙ sym b.line)

    pub refusal_one : (f g k j : ℕ) → Refusal longest s has order lacks f k → Refusal longest s has order lacks g j → (f ≡ g) × (k ≡ j)
    refusal_one f g k j a b =
        ⊎_elim
        (λ x. ⊎_elim (λ y. (x.0 ∙ sym y.0, x.1 ∙ sym y.1)) (λ y. absurd (omega (arith, x.2, y.0))) (refusal_cases g j b))
        (λ x. ⊎_elim (λ y. absurd (omega (arith, x.0, y.2))) (λ y. found_one f g k j x.1 y.1) (refusal_cases g j b))
        (refusal_cases f k a)

  -- a number that is a fault of a line or of the end is not 18
  pub refusal_make : ((k : ℕ) → ¬ has k (number_of Long)) → ¬ lacks (number_of Long) → length s ≤ longest → (f k : ℕ) → Found f k → Refusal longest s has order lacks f k
  refusal_make no_line no_end short f k h = if_not ((k ≡ 0) × (longest < length s)) (eqb f (number_of Long)) (go (eqb f (number_of Long)) refl h) (short, h)
    where
      go : (b : Bool) → eqb f (number_of Long) ≡ b → Found f k → b ≡ false
      go false e h = refl
      go true e (inl a) = absurd (no_line k (subst (has k) (eqb-true f 18 e) a.fault))
      go true e (inr a) = absurd (no_end (subst lacks (eqb-true f 18 e) a.fault))

  pub refusal_none : Faultless longest s has lacks → (f k : ℕ) → ¬ Refusal longest s has order lacks f k
  refusal_none x f k h =
      ⊎_elim (λ y. omega (arith, y.2, x.short))
      (λ y. ⊎_elim (λ a. x.clean k a.within.1 f a.fault) (λ a. x.full f a.fault) y.1) (refusal_cases f k h)

-- ---- entries

pub outside_is : (n u : ℕ) → inside n u ≡ false → Outside n u
outside_is n u e = pick (leb 1 u) refl e
  where
    pick : (b : Bool) → leb 1 u ≡ b → cond b (leb u n) false ≡ false → Outside n u
    pick true d e = inr (leb-false u n e)
    pick false d e = inl (leb-false 1 u d)
