-- What reading a clash text gives: its lines are taken one by one, from what is known so far, until the first faulty one.
--
--   inside n u        : u is from 1 to n
--   lone f            : a fault that has no column
--   on_line p k       : the refusal with the fault and the column of p, at line k
--   edge_of h u v      : what "e U V" does after the p line
--   step_of h room p s : what a line of shape s does, where h is known, none before the p line: the first refusal that fits, or what is known
--                       then; p is its own fault of shape with its column, which counts where it has no permitted shape
--   mark g i j        : the rows g, with bit j set in row i
--   join g i j        : the rows g, with the edge between i and j, in both rows
--   finish h g k      : what is found at the end of the text, where the next line would be line k
--   after plain st g k next : line k does st, where g are the rows so far; the plain reading refuses an edge that they have
--   read_from plain t room k h g : the lines t, of which the first is line k, where h is known and g are the rows so far
--   read_of plain s room : the text s, read with so many rows lent: n and the rows, or the refusal, its line, and its column (0 unless it is one of
--                       shape)
--   answer_in f       : how many entries were found, or the refusal
--   written_of f old   : what the lent rows hold afterwards: the first n are the list's, the others as they were
--   most_entries, longest_text : today's limits: 64 entries, and 65,536 bytes of a text
--
-- There are two readings: the plain one (`plain` is true), which refuses an edge that stands a second time, either way round; and the one that
-- allows repeats.
-- What depends on a limit is stated for lists of up to `most` entries and texts of up to `longest` bytes (`step_up_to most`, .., `read_up_to plain most
-- longest`), a row being a natural number, and is then named for today's limits (`step_of`, .., `read_of`).
-- Assumes nothing.
use Rattle.std.specs.Prelude.{ℕ, ◌+◌, ◌-◌, ◌^◌, List, ◌++◌, Bool, false, Option, None, Some, Result, Ok, Err, cond, ◌&&◌, length, get_or, set, take, drop, replicate, leb, eqb}
use Rattle.std.specs.Int.Bits.{bit_or}
use Rattle.clashes.specs.Matrix.{matrix}
use Rattle.lines.specs.Text.{Text, done, unended, ended, lines_of}
use Rattle.lists.specs.Shape.{shape_of}
use Rattle.lists.specs.Expect.{spot_of}
use Rattle.lists.specs.declared.Shape.{Shape}
use Rattle.lists.specs.declared.Shape.TheVariants.{Comment, P, E}
use Rattle.lists.specs.declared.Fault.{Fault}
use Rattle.lists.specs.declared.Fault.TheVariants.{Headless, Second, Size, Room, Vertex, Loop, Count, Long, Repeat}
use Rattle.lists.specs.declared.Spot.{Spot}
use Rattle.lists.specs.declared.Head.{Head}
use Rattle.lists.specs.declared.Step.{Step}
use Rattle.lists.specs.declared.Step.TheVariants.{Go, Edge}
use Rattle.lists.specs.declared.Unread.{Unread}
use Rattle.lists.specs.declared.Gathered.{Gathered}

abbrev pub accepted : ℕ → List ℕ → Result Gathered Unread
accepted n g = Ok (record { n = n; rows = g })

abbrev pub lone : Fault → Spot
lone f = record { fault = f; column = 0 }

abbrev pub on_line : Spot → ℕ → Unread
on_line p k = record { why = p.fault; line = k; column = p.column }

-- at a line, and a column where the fault is one of shape
abbrev pub refused_at : Spot → ℕ → Result Gathered Unread
refused_at p k = Err (on_line p k)

abbrev pub refused : Fault → ℕ → Result Gathered Unread
refused f k = refused_at (lone f) k

-- an end of an edge is from 1 to n
abbrev pub inside : ℕ → ℕ → Bool
inside n u = cond (leb 1 u) (leb u n) false

-- an e line after the p line: 14, 15, or one edge more
abbrev pub edge_of : Head → ℕ → ℕ → Result Step Spot
edge_of h u v =
    cond (inside h.n u)
    (cond (inside h.n v)
    (cond (eqb u v) (Err (lone Loop)) (Ok (Edge (record { n = h.n; m = h.m; count = h.count + 1 }) (u - 1) (v - 1))))
    (Err (lone Vertex)))
    (Err (lone Vertex))

-- an e line: 11 before the p line
abbrev pub e_line : Option Head → ℕ → ℕ → Result Step Spot
e_line (Some h) u v = edge_of h u v
e_line None u v = Err (lone Headless)

abbrev pub mark : List ℕ → ℕ → ℕ → List ℕ
mark g i j = set g i (bit_or (get_or g i 0) (2 ^ j))

-- the edge between i and j, in both rows
abbrev pub join : List ℕ → ℕ → ℕ → List ℕ
join g i j = mark (mark g i j) j i

-- before the first line
abbrev pub start : Option Head
start = None

-- at the end of the text: 11, 16
abbrev pub finish : Option Head → List ℕ → ℕ → Result Gathered Unread
finish (Some h) g k = cond (eqb h.count h.m) (accepted h.n g) (refused Count k)
finish None g k = refused Headless k

-- ---- repeats refused or allowed

-- an edge that an earlier line has, either way round, stands in both its rows: 20
abbrev pub after : Bool → Result Step Spot → List ℕ → ℕ → (Option Head → List ℕ → Result Gathered Unread) → Result Gathered Unread
after plain (Err p) g k next = refused_at p k
after plain (Ok (Go h)) g k next = next h g
after plain (Ok (Edge h i j)) g k next = cond (plain && matrix g i j) (refused Repeat k) (next (Some h) (join g i j))

-- ---- up to `most` entries

module _ (most : ℕ) where
  -- no rows: what reading starts from
  abbrev pub no_rows_up_to : List ℕ
  no_rows_up_to = replicate most 0

  -- a p line
  abbrev pub p_line_up_to : Option Head → ℕ → ℕ → ℕ → Result Step Spot
  p_line_up_to (Some h) room n m = Err (lone Second)
  p_line_up_to None room n m =
      cond (leb n most)
      (cond (leb n room) (Ok (Go (Some (record { n = n; m = m; count = 0 })))) (Err (lone Room)))
      (Err (lone Size))

  -- within a line the order is 10 with 21, 22 and 23 in its place, 11, 12, 13, 17, 14, 15;
  -- and then 20, where the rows are known
  abbrev pub step_up_to : Option Head → ℕ → Spot → Option Shape → Result Step Spot
  step_up_to h room p None = Err p
  step_up_to h room p (Some Comment) = Ok (Go h)
  step_up_to h room p (Some (P n m)) = p_line_up_to h room n m
  step_up_to h room p (Some (E u v)) = e_line h u v

module _ (plain : Bool) (most : ℕ) where
  abbrev pub read_from_up_to : Text → ℕ → ℕ → Option Head → List ℕ → Result Gathered Unread
  read_from_up_to done room k h g = finish h g k
  read_from_up_to (unended l) room k h g = refused_at (spot_of l) k
  read_from_up_to (ended l t) room k h g = after plain (step_up_to most h room (spot_of l) (shape_of l)) g k (read_from_up_to t room (k + 1))

  -- and up to `longest` bytes
  abbrev pub read_up_to : ℕ → List ℕ → ℕ → Result Gathered Unread
  read_up_to longest s room =
      cond (leb (length s) longest) (read_from_up_to (lines_of s) room 1 start (no_rows_up_to most)) (refused Long 0)

-- ---- today's limits

abbrev pub most_entries : ℕ
most_entries = 64

abbrev pub longest_text : ℕ
longest_text = 65536

abbrev pub no_rows : List ℕ
no_rows = no_rows_up_to most_entries

abbrev pub step_of : Option Head → ℕ → Spot → Option Shape → Result Step Spot
step_of h room p s = step_up_to most_entries h room p s

abbrev pub read_from : Bool → Text → ℕ → ℕ → Option Head → List ℕ → Result Gathered Unread
read_from plain t room k h g = read_from_up_to plain most_entries t room k h g

abbrev pub read_of : Bool → List ℕ → ℕ → Result Gathered Unread
read_of plain s room = read_up_to plain most_entries longest_text s room

-- ---- the answer, and what the lent rows hold afterwards

abbrev pub answer_in : Result Gathered Unread → Result ℕ Unread
answer_in (Ok g) = Ok g.n
answer_in (Err u) = Err u

abbrev pub written_of : Result Gathered Unread → List ℕ → List ℕ
written_of (Ok g) old = take g.n g.rows ++ drop g.n old
written_of (Err u) old = old
