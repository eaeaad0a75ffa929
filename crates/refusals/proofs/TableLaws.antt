-- The table's numbers tell its refusals apart, and none of them is 0, which says accepted; what is told with a refusal leaves its number as it
-- is, and its line and its column do not depend on each other. Assumes nothing.
use mathlib.Core.Path.{◌≡◌, refl, sym, ap, subst, ◌∙◌}
use mathlib.Core.Logic.{◌≢◌}
use mathlib.Core.Bool.{Bool, true, false, cond}
use mathlib.Core.List.{List, [], ◌∷◌}
use mathlib.Core.Option.{Option, none, some}
use Prim.Native.Nat.{ℕ}
use native.Mathlib.Omega.{arith}
use lib.Dec.{T, eqb, eqb→eq}
use Rattle.refusals.specs.Table.{Beside, nothing, a_row, the_nodes, a_line, a_spot, an_index, entry, number_of, accepted, with, told, told_at}
use Rattle.refusals.specs.declared.Refusal.{Refusal}
use Rattle.refusals.specs.declared.Refusal.TheVariants.{Many, Stray, Itself, OneSided, Short, Budget, Line, Headless, Second, Size, Vertex, Loop, Count, Room, Long, Full, Repeat, Digit, Space, Unended, SheetLine, Member, Order, Twice, Clash, Ends, Missing, Extra, Colours}

-- every refusal, in the table's order
abbrev pub all : List Refusal
all =
    Many ∷ Stray ∷ Itself ∷ OneSided ∷ Short ∷ Budget ∷ Line ∷ Headless ∷ Second ∷ Size ∷ Vertex ∷ Loop ∷ Count ∷ Room ∷ Long ∷ Full
    ∷ Repeat ∷ Digit ∷ Space ∷ Unended ∷ SheetLine ∷ Member ∷ Order ∷ Twice ∷ Clash ∷ Ends ∷ Missing ∷ Extra ∷ Colours ∷ []

-- who of these has the number n
abbrev whose : ℕ → List Refusal → Option Refusal
whose n [] = none
whose n (r ∷ rs) = cond (eqb n (number_of r)) (some r) (whose n rs)

-- the number of each leads back to it, and 0 to none
back : (r : Refusal) → whose (number_of r) all ≡ some r
back Many = refl
back Stray = refl
back Itself = refl
back OneSided = refl
back Short = refl
back Budget = refl
back Line = refl
back Headless = refl
back Second = refl
back Size = refl
back Vertex = refl
back Loop = refl
back Count = refl
back Room = refl
back Long = refl
back Full = refl
back Repeat = refl
back Digit = refl
back Space = refl
back Unended = refl
back SheetLine = refl
back Member = refl
back Order = refl
back Twice = refl
back Clash = refl
back Ends = refl
back Missing = refl
back Extra = refl
back Colours = refl

pub number_unique : (r q : Refusal) → number_of r ≡ number_of q → r ≡ q
number_unique r q e = let h : some r ≡ some q = sym (back r) ∙ ap (λ (n : ℕ). whose n all) e ∙ back q in cc

pub number_refuses : (r : Refusal) → number_of r ≢ accepted
number_refuses r e = let h : some r ≡ none = sym (back r) ∙ ap (λ (n : ℕ). whose n all) e in let z : ◌≡◌ {A = ℕ} 0 1 = cc in absurd (omega arith)

pub told_number : (r : Refusal) (x c : ℕ) → (told_at r x c).number ≡ number_of r
told_number r x c = go (entry r).beside
  where
    go : (b : Beside) → (with (entry r).number b x c).number ≡ (entry r).number
    go nothing = refl
    go a_row = refl
    go the_nodes = refl
    go a_line = refl
    go a_spot = refl
    go an_index = refl

-- the line is the same with any column, and the column with any line
pub told_line : (r : Refusal) (x c : ℕ) → (told_at r x c).line ≡ (told r x).line
told_line r x c = go (entry r).beside
  where
    go : (b : Beside) → (with (entry r).number b x c).line ≡ (with (entry r).number b x 0).line
    go nothing = refl
    go a_row = refl
    go the_nodes = refl
    go a_line = refl
    go a_spot = refl
    go an_index = refl

pub told_column : (r : Refusal) (x c : ℕ) → (told_at r x c).column ≡ (told_at r 0 c).column
told_column r x c = go (entry r).beside
  where
    go : (b : Beside) → (with (entry r).number b x c).column ≡ (with (entry r).number b 0 c).column
    go nothing = refl
    go a_row = refl
    go the_nodes = refl
    go a_line = refl
    go a_spot = refl
    go an_index = refl

-- ---- a test of every number, computed once, holds of each

abbrev pub passes : (ℕ → Bool) → List Refusal → Bool
passes p [] = true
passes p (r ∷ rs) = cond (p (number_of r)) (passes p rs) false

found : (p : ℕ → Bool) (n : ℕ) (r : Refusal) (rs : List Refusal) → passes p rs ≡ true → whose n rs ≡ some r → p n ≡ true
found p n r [] t e = let z : ◌≡◌ {A = ℕ} 0 1 = cc in absurd (omega arith)
found p n r (q ∷ rs) t e = here (p (number_of q)) refl t (found p n r rs)
  where
    at : (b : Bool) → eqb n (number_of q) ≡ b → cond b (some q) (whose n rs) ≡ some r → p (number_of q) ≡ true → (whose n rs ≡ some r → p n ≡ true) → p n ≡ true
    at true d f h later = ap p (eqb→eq n (number_of q) (subst T (sym d) tt)) ∙ h
    at false d f h later = later f

    here : (b : Bool) → p (number_of q) ≡ b → cond b (passes p rs) false ≡ true → (passes p rs ≡ true → whose n rs ≡ some r → p n ≡ true) → p n ≡ true
    here true d u later = at (eqb n (number_of q)) refl e d (later u)
    here false d u later = let z : ◌≡◌ {A = ℕ} 0 1 = cc in absurd (omega arith)

pub table_rule : (p : ℕ → Bool) → passes p all ≡ true → (r : Refusal) → p (number_of r) ≡ true
table_rule p t r = found p (number_of r) r all t (back r)
