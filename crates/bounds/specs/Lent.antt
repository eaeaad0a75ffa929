-- What is answered when a bound of a lent matrix is asked for: the number, with the clique's members; or one of document 01's refusals 1 to 4.
--
--   of_list f rows      : f of the graph of these rows' list, which is where a walk starts
--   verdict_of a       : the verdict on the matrix that an answer holds
--   value_of, members_of : the bound and the set that it gives, 0 where it is refused
--   answer_of v b c     : the answer for the verdict v, with b and c where it is valid
--   Answers f s rows a : a is the answer for these rows, where f is the bound and s the set: the verdict is theirs, and, where it is valid, value and
--                        members are those of the graph of their list
--   no_members         : the set beside a bound that has none
--   AllClash n clash c : c is a set of entries, all of them clashing with one another
--
-- Document 01's numbers of an answer are those of its verdict (`numbers` of the crate clashes), its bound and its set. Stated for lists of up to `most`
-- entries (`AnswersUpTo most`), and named for today's 64. Two answers that meet it are equal (`answers_unique` of proofs/LentLaws.antt). Assumes nothing.
use Rattle.std.specs.Prelude.{◌≡◌, ◌≢◌, Bool, List, ℕ, ◌<◌, T, length, Result, Ok, Err}
use Rattle.refusals.specs.declared.Invalid.{Invalid}
use Rattle.sets.specs.Set.{has}
use Rattle.clashes.specs.Matrix.{matrix, JudgedUpTo}
use Rattle.graphs.specs.Graph.{Graph, graph}
use Rattle.bounds.specs.declared.Bound.{Bound}

abbrev pub of_list : (ℕ → Graph → ℕ) → List ℕ → ℕ
of_list f rows = f (length rows) (graph (length rows) (matrix rows))

abbrev pub verdict_of : Result Bound Invalid → Result Unit Invalid
verdict_of (Ok b) = Ok tt
verdict_of (Err w) = Err w

abbrev pub value_of : Result Bound Invalid → ℕ
value_of (Ok b) = b.size
value_of (Err w) = 0

abbrev pub members_of : Result Bound Invalid → ℕ
members_of (Ok b) = b.members
members_of (Err w) = 0

abbrev pub answer_of : Result Unit Invalid → ℕ → ℕ → Result Bound Invalid
answer_of (Ok u) b c = Ok (record { size = b; members = c })
answer_of (Err w) b c = Err w

pub record AnswersUpTo (most : ℕ) (f s : ℕ → Graph → ℕ) (rows : List ℕ) (a : Result Bound Invalid) : Type 0 where
  pub verdict : JudgedUpTo most rows (verdict_of a)
  pub value : verdict_of a ≡ Ok tt → value_of a ≡ of_list f rows
  pub members : verdict_of a ≡ Ok tt → members_of a ≡ of_list s rows

abbrev pub Answers : (f s : ℕ → Graph → ℕ) → List ℕ → Result Bound Invalid → Type 0
Answers f s rows a = AnswersUpTo 64 f s rows a

abbrev pub no_members : ℕ → Graph → ℕ
no_members n g = 0

pub record AllClash (n : ℕ) (clash : ℕ → ℕ → Bool) (c : ℕ) : Type 0 where
  pub entries : (x : ℕ) → T (has c x) → x < n
  pub clashing : (x y : ℕ) → T (has c x) → T (has c y) → x ≢ y → T (clash x y)
