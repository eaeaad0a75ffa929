-- Faults of a clash text by their numbers.
--
--   Found plain most t room f k : the lines t are refused with the fault f at line k, or at the end
--
-- Assumes nothing.
use Prim.Native.Nat.{ℕ}
use mathlib.Core.Path.{◌≡◌, sym, subst}
use mathlib.Core.Logic.{◌⊎◌}
use mathlib.Core.Bool.{Bool}
use borrow.Author.Tests.{eqb-true}
use lib.Dec.{eqb}
use Rattle.sets.specs.Lists.{In}
use Rattle.lines.specs.Text.{Text}
use Rattle.lists.specs.declared.Fault.{Fault}
use Rattle.lists.specs.declared.Fault.TheVariants.{Line, Headless, Second, Size, Room, Vertex, Loop, Count, Long, Repeat, Digit, Space, Unended}
use Rattle.lists.specs.Promise.{number_of}
use Rattle.texts.specs.Faults.{Clean, InLine, AtEnd}
use Rattle.texts.specs.ListFaults.{Has, list_order, Lacks}
use Rattle.texts.proofs.Refusals.{if_cases, in_order}

abbrev pub Found : Bool → ℕ → Text → ℕ → Fault → ℕ → Type 0
Found plain most t room f k = InLine t (Has plain most t room) list_order (number_of f) k ⊎ AtEnd t (Has plain most t room) (Lacks t) (number_of f) k

-- the fault that a number says, where a line has it
pub has_fault : (plain : Bool) (most : ℕ) (t : Text) (room k f : ℕ) → Has plain most t room k f → (g : Fault) × (f ≡ number_of g)
has_fault plain most t room k f h =
    if_cases (eqb f 10) h (λ e _. (Line, eqb-true f 10 e))
    (λ _ h. if_cases (eqb f 21) h (λ e _. (Digit, eqb-true f 21 e))
    (λ _ h. if_cases (eqb f 22) h (λ e _. (Space, eqb-true f 22 e))
    (λ _ h. if_cases (eqb f 23) h (λ e _. (Unended, eqb-true f 23 e))
    (λ _ h. if_cases (eqb f 11) h (λ e _. (Headless, eqb-true f 11 e))
    (λ _ h. if_cases (eqb f 12) h (λ e _. (Second, eqb-true f 12 e))
    (λ _ h. if_cases (eqb f 13) h (λ e _. (Size, eqb-true f 13 e))
    (λ _ h. if_cases (eqb f 17) h (λ e _. (Room, eqb-true f 17 e))
    (λ _ h. if_cases (eqb f 14) h (λ e _. (Vertex, eqb-true f 14 e))
    (λ _ h. if_cases (eqb f 15) h (λ e _. (Loop, eqb-true f 15 e))
    (λ _ h. if_cases (eqb f 20) h (λ e _. (Repeat, eqb-true f 20 e)) (λ _ h. absurd h)))))))))))

pub has_known : (plain : Bool) (most : ℕ) (t : Text) (room k f : ℕ) → Has plain most t room k f → In f list_order
has_known plain most t room k f h =
    let w = has_fault plain most t room k f h in
    subst (λ (m : ℕ). In m list_order) (sym w.1) (go w.0 (subst (Has plain most t room k) w.1 h))
  where
    go : (g : Fault) → Has plain most t room k (number_of g) → In (number_of g) list_order
    go Line x = in_order list_order 10 tt
    go Digit x = in_order list_order 21 tt
    go Space x = in_order list_order 22 tt
    go Unended x = in_order list_order 23 tt
    go Headless x = in_order list_order 11 tt
    go Second x = in_order list_order 12 tt
    go Size x = in_order list_order 13 tt
    go Room x = in_order list_order 17 tt
    go Vertex x = in_order list_order 14 tt
    go Loop x = in_order list_order 15 tt
    go Repeat x = in_order list_order 20 tt
    go Count x = absurd x
    go Long x = absurd x

pub clean_of : (plain : Bool) (most : ℕ) (t : Text) (room k : ℕ) → ((g : Fault) → ¬ Has plain most t room k (number_of g)) → Clean (Has plain most t room) k
clean_of plain most t room k c f h = let w = has_fault plain most t room k f h in c w.0 (subst (Has plain most t room k) w.1 h)
