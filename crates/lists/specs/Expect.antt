-- The permitted lines of a clash text as what may come next, piece by piece; and where a line went bad (document 02, Ask 1).
--
--   Piece           : what is expected next: a letter of a word; a space; a number's first digit; so many digits more at most, within a
--                     number; anything up to the line's end
--   Pieces          : what is still expected of a line, in order
--   next g b        : what is expected after the byte b, where g was; none if b cannot stand there
--   ends? g         : the line may end here
--   takes l g       : the bytes l are all that g expects
--   follow x g      : what is expected behind the bytes x, where g was expected; none if they cannot stand there
--   reach l g       : how many bytes of l can stand where g is expected: the longest beginning of l that g allows
--   left l g        : what is expected behind these
--   Grammar         : the lines that are permitted
--   permits gs l    : l is a permitted line
--   Begins gs x     : x begins a permitted line
--   Due gs x g      : behind the bytes x, g is what a permitted line expects
--   Astray gs l c   : at column c, counted from 1, the line l can no longer begin any permitted line, or c is one past its end
--   column gs l     : one more than the length of the longest beginning of l that begins a permitted line
--   digit_at l      : a digit stands at the front of l
--   fault_at_lem g d : the fault where g is expected and does not stand there; d is whether a digit does
--   spot_in gs l    : the fault of the line l and its column: that of its shape, or 23, if it is permitted
--   of_shape f      : f is a fault of shape: 10, 21, 22 or 23
--   spelled w g     : the word w, letter by letter with its spaces, and then g
--   clash_lines c   : the permitted lines of a clash text whose comments begin with c
--   permitted       : those of a clash text
--   spot_of l        : the fault of a line of a clash text and its column
--
-- Laws: proofs/Columns.antt (the column, and what is expected there) and proofs/Permitted.antt (permitted is where the shape is not bad).
-- Assumes nothing.
use Rattle.std.specs.Prelude.{ℕ, zero, suc, ◌+◌, ◌-◌, ◌≤◌, max, ◌≡◌, List, [], ◌∷◌, ◌++◌, Bool, true, false, cond, T, eqb, length, take, drop}
use Rattle.std.proofs.Math.Option.{Option, none, some}
use Rattle.sets.specs.Lists.{In, some?, greatest}
use Rattle.lines.specs.Number.{digit}
use Rattle.lists.specs.Shape.{c_word, p_word, e_word}
use Rattle.lists.specs.declared.Fault.{Fault}
use Rattle.lists.specs.declared.Fault.TheVariants.{Line, Headless, Second, Size, Vertex, Loop, Count, Room, Long, Repeat, Digit, Space, Unended}
use Rattle.lists.specs.declared.Spot.{Spot}

pub data Piece : Type 0 where
  letter : ℕ → Piece
  space : Piece
  number : Piece
  more : ℕ → Piece
  anything : Piece

abbrev pub Pieces : Type 0
Pieces = List Piece

abbrev pub Grammar : Type 0
Grammar = List Pieces

-- ---- one line

-- a number that begins with 0 has no digit more, another has six at most
abbrev pub next : Pieces → ℕ → Option Pieces
next [] b = none
next (letter x ∷ g) b = cond (eqb x b) (some g) none
next (space ∷ g) b = cond (eqb 32 b) (some g) none
next (number ∷ g) b = cond (digit b) (some (more (cond (eqb b 48) 0 6) ∷ g)) none
next (more zero ∷ g) b = cond (digit b) none (next g b)
next (more (suc k) ∷ g) b = cond (digit b) (some (more k ∷ g)) (next g b)
next (anything ∷ g) b = some (anything ∷ g)

abbrev pub ends? : Pieces → Bool
ends? [] = true
ends? (letter x ∷ g) = false
ends? (space ∷ g) = false
ends? (number ∷ g) = false
ends? (more k ∷ g) = ends? g
ends? (anything ∷ g) = true

-- what becomes of it after the next piece, if there is one
abbrev pub onward : {A : Type 0} → A → (Pieces → A) → Option Pieces → A
onward a f none = a
onward a f (some g) = f g

abbrev pub takes : List ℕ → Pieces → Bool
takes [] g = ends? g
takes (b ∷ l) g = onward false (takes l) (next g b)

abbrev pub follow : List ℕ → Pieces → Option Pieces
follow [] g = some g
follow (b ∷ x) g = onward none (follow x) (next g b)

abbrev pub reach : List ℕ → Pieces → ℕ
reach [] g = 0
reach (b ∷ l) g = onward 0 (λ h. suc (reach l h)) (next g b)

abbrev pub left : List ℕ → Pieces → Pieces
left [] g = g
left (b ∷ l) g = onward g (left l) (next g b)

-- ---- permitted lines

abbrev pub permits : Grammar → List ℕ → Bool
permits gs l = some? (takes l) gs

abbrev pub Begins : Grammar → List ℕ → Type 0
Begins gs x = (y : List ℕ) × T (permits gs (x ++ y))

abbrev pub Due : Grammar → List ℕ → Pieces → Type 0
Due gs x g = (h : Pieces) × In h gs × (follow x h ≡ some g)

-- "the first byte at which the line can no longer begin any permitted line, one past its end if it merely stopped"
pub record Astray (gs : Grammar) (l : List ℕ) (c : ℕ) : Type 0 where
  pub within : (1 ≤ c) × (c ≤ length l + 1)
  pub begins : Begins gs (take (c - 1) l)
  pub stuck : c ≤ length l → ¬ Begins gs (take c l)

abbrev pub furthest : Grammar → List ℕ → ℕ
furthest [] l = 0
furthest (g ∷ gs) l = max (reach l g) (furthest gs l)

abbrev pub column : Grammar → List ℕ → ℕ
column gs l = furthest gs l + 1

-- ---- the fault

abbrev pub digit_at : List ℕ → Bool
digit_at [] = false
digit_at (b ∷ l) = digit b

-- a letter of a word: 10; a digit that starts a number, or no digit more: 21; a space or the line's end, after a word or a number: 22
abbrev pub fault_at_lem : Pieces → Bool → Fault
fault_at_lem [] d = Space
fault_at_lem (letter x ∷ g) d = Line
fault_at_lem (space ∷ g) d = Space
fault_at_lem (number ∷ g) d = Digit
fault_at_lem (more k ∷ g) d = cond d Digit Space
fault_at_lem (anything ∷ g) d = Space

-- of the line that l follows the furthest; the first of them, where several are as good: they expect a first letter
abbrev pub fault_in : Option Pieces → List ℕ → Fault
fault_in none l = Line
fault_in (some g) l = fault_at_lem (left l g) (digit_at (drop (reach l g) l))

abbrev pub spot_in : Grammar → List ℕ → Spot
spot_in gs l = record { fault = cond (permits gs l) Unended (fault_in (greatest (reach l) gs) l); column = column gs l }

abbrev pub of_shape : Fault → Bool
of_shape Line = true
of_shape Headless = false
of_shape Second = false
of_shape Size = false
of_shape Vertex = false
of_shape Loop = false
of_shape Count = false
of_shape Room = false
of_shape Long = false
of_shape Repeat = false
of_shape Digit = true
of_shape Space = true
of_shape Unended = true

-- ---- the lines of a clash text

abbrev pub spelled : List ℕ → Pieces → Pieces
spelled [] g = g
spelled (x ∷ w) g = cond (eqb x 32) space (letter x) ∷ spelled w g

-- "N M" or "U V"
abbrev pub two_numbers : Pieces
two_numbers = number ∷ space ∷ number ∷ []

-- a comment's word and anything; "p edge N M"; "e U V"
abbrev pub clash_lines : List ℕ → Grammar
clash_lines c = spelled c (anything ∷ []) ∷ spelled p_word two_numbers ∷ spelled e_word two_numbers ∷ []

abbrev pub permitted : Grammar
permitted = clash_lines c_word

unfoldable pub spot_of : List ℕ → Spot
spot_of l = spot_in permitted l
