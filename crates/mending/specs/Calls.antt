-- A whole sheet that was gone through, and the call's last steps.
--
--   GoneAs n clash g      : g is all that is known of some sheet once it was gone through
--   WholeAs n clash s g   : of the sheet s
--   mended_of n clash g   : the groups of the mended sheet, in no order yet
--   Answered m old a new  : a is the answer, and new what the bytes old hold then, where mending gives m
--
-- Assumes nothing.
use Rattle.std.specs.Prelude.{ℕ, ◌≤◌, ◌≡◌, List, [], Bool, length, Result}
use Rattle.sets.specs.Lists.{over}
use Rattle.lines.specs.Text.{lines_of}
use Rattle.mends.specs.declared.Unmended.{Unmended}
use Rattle.mends.specs.Typed.{is, typed_of}
use Rattle.mends.specs.Mend.{Going, gone, again, admit}
use Rattle.mends.specs.Report.{dropped_text}
use Rattle.mends.specs.Promise.{Mending, answer_of, left_of}
use Rattle.mending.specs.Held.{going_of, Fits, dropped_of}
use Rattle.mending.specs.declared.Gone.{Gone}

pub record GoneAs (n : ℕ) (clash : ℕ → ℕ → Bool) (g : Gone) : Type 0 where
  pub groups : List (List ℕ)
  pub is : going_of g ≡ gone n clash groups
  pub fits : Fits n g

pub record WholeAs (n : ℕ) (clash : ℕ → ℕ → Bool) (s : List ℕ) (g : Gone) : Type 0 where
  pub through : GoneAs n clash g
  pub typed : typed_of (lines_of s) ≡ is [] through.groups
  pub bytes : g.bytes ≡ length (dropped_text (dropped_of n s))
  pub small : g.bytes ≤ 1048576

abbrev pub mended_of : ℕ → (ℕ → ℕ → Bool) → Going → List (ℕ → Bool)
mended_of n clash g = over (admit n clash) g.groups (again n g)

pub record Answered (m : Mending) (old : List ℕ) (a : Result ℕ Unmended) (new : List ℕ) : Type 0 where
  pub answer : a ≡ answer_of m (length old)
  pub lent : new ≡ left_of m old
