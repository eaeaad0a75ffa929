-- May a search of a lent list start? Refusals 1 to 5 of document 01, for a buffer of `room` colour bytes.
--
--   NoRoomUpTo                 : the cause of refusal 5: the list is one, and the buffer has fewer bytes than entries
--   OpenUpTo                   : there is no cause for refusals 1 to 5
--   RefusedUpTo .. number row  : what a refusal by this number in the table (crate refusals), with the row beside it, says is so
--
-- Each is stated for lists of up to `most` entries. Assumes nothing.
use Rattle.std.specs.Prelude.{List, ℕ, ◌≤◌, ◌<◌, eqb, length}
use Rattle.refusals.specs.Table.{number_of, If}
use Rattle.refusals.specs.declared.Refusal.TheVariants as refusal
use Rattle.clashes.specs.Matrix.{SoundUpTo, UnsoundUpTo}

module _ (most : ℕ) (rows : List ℕ) (room : ℕ) where
  pub record NoRoomUpTo : Type 0 where
    pub sound : SoundUpTo most rows
    pub bytes : room < length rows

  pub record OpenUpTo : Type 0 where
    pub sound : SoundUpTo most rows
    pub bytes : length rows ≤ room

  -- 1 to 4 are what is wrong with the rows
  abbrev pub RefusedUpTo : ℕ → ℕ → Type 0
  RefusedUpTo number row = If (eqb number (number_of refusal.Short)) NoRoomUpTo (UnsoundUpTo most rows number row)
