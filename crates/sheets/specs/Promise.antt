-- What the callable functions promise, and document 01's numbers of their answers.
--
--   refusal_of_lem f : the refusal of document 01's table (crate refusals) that a fault of the sheet is
--   at_fault a      : which text is at fault
--   text_number t   : the number that says which text it is: 0 for neither, 1 for the list, 2 for the sheet
--   held_by t list s : the text to show a part of, where t is at fault: the list, or else the sheet
--   refused_in_lem t r k c : the numbers of the refusal r of the text t, with the line k and the column c where the table names them
--   numbers_of_lem a : the numbers of a check's answer: the refusal's (0: accepted), its line and column, k, and which text is at fault; those
--                     that it does not name are 0
--   answer_in a      : what a check answers: k, or why the pair is refused
--   written_of a old : what the lent colour bytes hold after a check
--   CheckPromise plain list s old a new : checking the sheet s against the list, with the bytes old lent, answers a and leaves the bytes new;
--                     `plain` says by which reading the list is read
--   ShownOf s k r   : r is what is shown of the text s for line k: that line without its line feed, or, where none is named, the empty part
--                     at its start; past the last line, the empty part at its end
--   PreviewPromise plain list s room r : r is the part that is shown for such a check with so many colour bytes
--
-- Both promises are stated for any limits (`CheckPromiseUpTo plain most longest`, ..) and then named for today's.
-- Assumes nothing.
use Rattle.std.specs.Prelude.{ℕ, zero, suc, ◌≡◌, Bool, List, ◌++◌, length, take, drop, Result, Ok, Err}
use Rattle.std.specs.Borrow.{Bor}
use Rattle.lines.specs.Text.{place_of, line_end_lem}
use Rattle.lines.specs.Part.{PartOf}
use Rattle.refusals.specs.Table.{told_at, accepted}
use Rattle.refusals.specs.declared.Refusal.{Refusal}
use Rattle.refusals.specs.declared.Refusal.TheVariants as refusal
use Rattle.lists.specs.Promise.{refusal_of_lem as list_refusal_of}
use Rattle.lists.specs.Read.{most_entries, longest_text}
use Rattle.sheets.specs.Check.{check_up_to}
use Rattle.sheets.specs.declared.SheetFault.{SheetFault}
use Rattle.sheets.specs.declared.SheetFault.TheVariants.{Long, Line, Member, Order, Twice, Clash, Ends, Missing, Extra}
use Rattle.sheets.specs.declared.Unchecked.{Unchecked}
use Rattle.sheets.specs.declared.Unchecked.TheVariants.{OfList, Short, OfSheet}
use Rattle.sheets.specs.declared.Division.{Division}
use Rattle.sheets.specs.declared.Text.{Text}
use Rattle.sheets.specs.declared.Text.TheVariants.{Neither, TheList, TheSheet}
use Rattle.sheets.specs.declared.Numbers.{Numbers}

-- 18, and 30 to 37, by their names in the table
abbrev pub refusal_of_lem : SheetFault → Refusal
refusal_of_lem Long = refusal.Long
refusal_of_lem Line = refusal.SheetLine
refusal_of_lem Member = refusal.Member
refusal_of_lem Order = refusal.Order
refusal_of_lem Twice = refusal.Twice
refusal_of_lem Clash = refusal.Clash
refusal_of_lem Ends = refusal.Ends
refusal_of_lem Missing = refusal.Missing
refusal_of_lem Extra = refusal.Extra

-- ---- which text is at fault

abbrev pub text_number : Text → ℕ
text_number Neither = 0
text_number TheList = 1
text_number TheSheet = 2

abbrev pub at_fault : Result ℕ Unchecked → Text
at_fault (Ok k) = Neither
at_fault (Err (OfList u)) = TheList
at_fault (Err Short) = TheSheet
at_fault (Err (OfSheet r)) = TheSheet

abbrev pub held_by : {A : Type 0} → Text → A → A → A
held_by Neither list s = s
held_by TheList list s = list
held_by TheSheet list s = s

-- ---- a check's numbers

abbrev pub refused_in_lem : Text → Refusal → ℕ → ℕ → Numbers
refused_in_lem text r k c = let t = told_at r k c in record { number = t.number; line = t.line; column = t.column; groups = 0; text = text }

abbrev pub numbers_of_lem : Result ℕ Unchecked → Numbers
numbers_of_lem (Ok k) = record { number = accepted; line = 0; column = 0; groups = k; text = at_fault (Ok k) }
numbers_of_lem (Err (OfList u)) = refused_in_lem (at_fault (Err (OfList u))) (list_refusal_of u.why) u.line u.column
numbers_of_lem (Err Short) = refused_in_lem (at_fault (Err Short)) refusal.Short 0 0
numbers_of_lem (Err (OfSheet r)) = refused_in_lem (at_fault (Err (OfSheet r))) (refusal_of_lem r.why) r.line 0

-- ---- checking

abbrev pub answer_in : Result Division Unchecked → Result ℕ Unchecked
answer_in (Ok d) = Ok d.groups
answer_in (Err w) = Err w

abbrev pub written_of : Result Division Unchecked → List ℕ → List ℕ
written_of (Ok d) old = take d.entries d.colours ++ drop d.entries old
written_of (Err w) old = old

pub record CheckPromiseUpTo (plain : Bool) (most longest : ℕ) (list s old : List ℕ) (a : Result ℕ Unchecked) (new : List ℕ) : Type 0 where
  -- accepted with k, or refused with the first refusal that the texts have, its text, its line and its column
  pub answer : a ≡ answer_in (check_up_to plain most longest list s (length old))
  -- accepted: bytes 0 to n - 1 are the group numbers, the others as they were; refused: nothing is written
  pub lent : new ≡ written_of (check_up_to plain most longest list s (length old)) old

abbrev pub CheckPromise : Bool → List ℕ → List ℕ → List ℕ → Result ℕ Unchecked → List ℕ → Type 0
CheckPromise plain list s old a new = CheckPromiseUpTo plain most_entries longest_text list s old a new

-- ---- the preview

abbrev pub ShownOf : Bor (List ℕ) → ℕ → Bor (List ℕ) → Type 0
ShownOf s zero r = PartOf s 0 0 r
ShownOf s (suc k) r = PartOf s (place_of s.now k) (line_end_lem s.now (place_of s.now k)) r

abbrev pub PreviewPromiseUpTo : Bool → ℕ → ℕ → Bor (List ℕ) → Bor (List ℕ) → ℕ → Bor (List ℕ) → Type 0
PreviewPromiseUpTo plain most longest list s room r =
    let m = numbers_of_lem (answer_in (check_up_to plain most longest list.now s.now room)) in
    ShownOf (held_by m.text list s) m.line r

abbrev pub PreviewPromise : Bool → Bor (List ℕ) → Bor (List ℕ) → ℕ → Bor (List ℕ) → Type 0
PreviewPromise plain list s room r = PreviewPromiseUpTo plain most_entries longest_text list s room r
