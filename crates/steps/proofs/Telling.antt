-- A walk that tells the state it stands at where the budget has no more, and one that tells nothing there: what is known of either is known of the other.
-- Assumes nothing.
use mathlib.Core.Path.{refl}
use mathlib.Core.Option.{Option}
use mathlib.Core.List.{List}
use Rattle.std.specs.Prelude.{Option as Maybe, Some, None, Result, Ok, Err}
use Rattle.std.specs.Result.{result_ok}
use Prim.Native.Nat.{ℕ}
use native.Mathlib.Omega.{arith}
use lib.ListN.{take}
use Rattle.clashes.specs.Divisions.{groups}
use Rattle.zykov.specs.Walk.{State as Described, Rule}
use Rattle.wide.specs.declared.Set.{Set}
use Rattle.steps.specs.Going.{Lent, Comes, ComesTelling, Entered, EnteredTelling}
use Rattle.steps.specs.declared.State.{State}

-- what is told out of budget is left out
pub comes_untold : {n : ℕ} {s : State} {best : List ℕ} (r : Result State State) {o : Option Described} → ComesTelling n s best r o
    → Comes n s best (result_ok r) o
comes_untold (Ok t) c = record { is = c.is; goes = c.goes }
comes_untold (Err t) c = record { is = c.is; goes = tt }

pub entered_untold : {words n : ℕ} {live : Set} {l l' : Lent} {at : ℕ} {s : State} (R : Rule) (r : Result State State)
    → EnteredTelling words R n live l at s l' r → Entered words R n live l at s l' (result_ok r)
entered_untold R r e = record { comes = comes_untold r e.comes; kept = e.kept }

-- out of budget a state that is fair with the best division may be told
abbrev pub told : ℕ → List ℕ → State → Maybe State → Result State State
told n best s (Some t) = Ok t
told n best s None = Err (record { k = groups 0 (take n best); nodes = 0; leaves = 0; budget = s.budget })

pub comes_told : {n : ℕ} {s : State} {best : List ℕ} (r : Maybe State) {o : Option Described} → Comes n s best r o
    → ComesTelling n s best (told n best s r) o
comes_told (Some t) c = record { is = c.is; goes = c.goes }
comes_told None c = record { is = c.is; goes = record { fair = record { size = refl; few = omega arith }; budget = refl } }
