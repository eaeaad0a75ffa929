-- How the fault of a line is looked for: along the pattern of the one permitted line that its first byte begins. A pattern is spelled in bytes: 0 for a
-- number, a space for a space, * for anything, and any other byte for itself.
--
--   piece_of x      : what the byte x of a pattern stands for
--   pattern_of w   : the permitted line that the pattern w spells
--   due_of w d     : what is still expected in the pattern w
--   Taken w d b r  : r is what is expected after the byte b, if it can stand there
--   spot_from i l g : the fault and its column, where i bytes of the line are behind, l are left, and g is expected
--
-- Assumes nothing.
use Rattle.std.specs.Prelude.{ℕ, zero, suc, ◌+◌, ◌≡◌, List, [], ◌∷◌, Option, None, Some, cond, eqb, drop}
use Rattle.std.proofs.Math.Option.{none, some}
use Rattle.lists.specs.Expect.{Piece, letter, space, number, more, anything, Pieces, next, takes, reach, left, digit_at, fault_at_lem}
use Rattle.lists.specs.declared.Fault.TheVariants.{Unended}
use Rattle.lists.specs.declared.Spot.{Spot}
use Rattle.lists.specs.declared.Due.{Due}

abbrev pub piece_of : ℕ → Piece
piece_of x = cond (eqb x 48) number (cond (eqb x 32) space (cond (eqb x 42) anything (letter x)))

abbrev pub pattern_of : List ℕ → Pieces
pattern_of [] = []
pattern_of (x ∷ w) = piece_of x ∷ pattern_of w

-- within a number, one less than n digits more
abbrev pub held : ℕ → Pieces → Pieces
held zero g = g
held (suc k) g = more k ∷ g

abbrev pub due_of : List ℕ → Due → Pieces
due_of w d = held d.digits (pattern_of (drop d.at w))

abbrev pub Taken : List ℕ → Due → ℕ → Option Due → Type 0
Taken w d b (Some e) = next (due_of w d) b ≡ some (due_of w e)
Taken w d b None = next (due_of w d) b ≡ none

unfoldable pub spot_from : ℕ → List ℕ → Pieces → Spot
spot_from i l g = record { fault = cond (takes l g) Unended (fault_at_lem (left l g) (digit_at (drop (reach l g) l))); column = i + reach l g + 1 }
