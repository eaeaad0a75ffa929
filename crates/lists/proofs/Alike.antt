-- The two readings: where the plain one meets no repeat, both find the same. Assumes nothing.
--
--   Alike x y : x is y, or refuses a repeat
use Prim.Native.Nat.{ℕ, ◌+◌}
use mathlib.Core.Path.{◌≡◌, refl}
use mathlib.Core.Logic.{◌⊎◌, inl, inr}
use mathlib.Core.List.{List}
use mathlib.Core.Bool.{Bool, true, false, cond}
use lib.Dec.{leb}
use lib.ListN.{length}
use Rattle.std.specs.Prelude.{Option, Some, Result, Ok, Err}
use Rattle.clashes.specs.Matrix.{matrix}
use Rattle.lines.specs.Text.{Text, done, unended, ended, lines_of}
use Rattle.lists.specs.Shape.{shape_of}
use Rattle.lists.specs.Expect.{spot_of}
use Rattle.lists.specs.Read.{no_rows_up_to, refused, step_up_to, join, after, read_from_up_to, start, read_up_to}
use Rattle.lists.specs.declared.Fault.TheVariants.{Long, Repeat}
use Rattle.lists.specs.declared.Head.{Head}
use Rattle.lists.specs.declared.Spot.{Spot}
use Rattle.lists.specs.declared.Unread.{Unread}
use Rattle.lists.specs.declared.Gathered.{Gathered}
use Rattle.lists.specs.declared.Step.{Step}
use Rattle.lists.specs.declared.Step.TheVariants.{Go, Edge}

module _ (most : ℕ) where
  abbrev pub Alike : Result Gathered Unread → Result Gathered Unread → Type 0
  Alike x y = (x ≡ y) ⊎ ((k : ℕ) × (x ≡ refused Repeat k))

  -- the lines t, of which the first is line k
  abbrev Both : Text → ℕ → ℕ → Option Head → List ℕ → Type 0
  Both t room k h g = Alike (read_from_up_to true most t room k h g) (read_from_up_to false most t room k h g)

  from_alike : (t : Text) (room k : ℕ) (h : Option Head) (g : List ℕ) → Both t room k h g
  from_alike done room k h g = inl refl
  from_alike (unended l) room k h g = inl refl
  from_alike (ended l t) room k h g = go (step_up_to most h room (spot_of l) (shape_of l)) (from_alike t room (k + 1))
    where
      go : (st : Result Step Spot) → ((h : Option Head) (g : List ℕ) → Both t room (k + 1) h g)
          → Alike (after true st g k (read_from_up_to true most t room (k + 1))) (after false st g k (read_from_up_to false most t room (k + 1)))
      go (Err p) r = inl refl
      go (Ok (Go x)) r = r x g
      go (Ok (Edge x i j)) r = pick (matrix g i j) (r (Some x) (join g i j))
        where
          pick : (b : Bool) → Both t room (k + 1) (Some x) (join g i j)
              → Alike (cond b (refused Repeat k) (read_from_up_to true most t room (k + 1) (Some x) (join g i j))) (read_from_up_to false most t room (k + 1) (Some x) (join g i j))
          pick true a = inr (k, refl)
          pick false a = a

  -- the law
  pub read_up_to_alike : (longest : ℕ) (s : List ℕ) (room : ℕ) → Alike (read_up_to true most longest s room) (read_up_to false most longest s room)
  read_up_to_alike longest s room = go (leb (length s) longest) (from_alike (lines_of s) room 1 start (no_rows_up_to most))
    where
      go : (b : Bool) → Both (lines_of s) room 1 start (no_rows_up_to most)
          → Alike (cond b (read_from_up_to true most (lines_of s) room 1 start (no_rows_up_to most)) (refused Long 0))
          (cond b (read_from_up_to false most (lines_of s) room 1 start (no_rows_up_to most)) (refused Long 0))
      go true a = a
      go false a = inl refl
