-- The two readings of a clash text, over the calls: what is written is read alike by both; so is a text that the plain one accepts, or refuses for
-- anything but a repeat; and then a sheet is checked alike, and the same is printed. Assumes nothing.
use mathlib.Core.Path.{◌≡◌}
use mathlib.Core.Bool.{true, false}
use mathlib.Core.List.{List}
use Prim.Native.Nat.{ℕ}
use lib.ListN.{take}
use Rattle.std.specs.Prelude.{Result, Ok, Err}
use Rattle.lists.specs.Promise.{ReadPromise, WritePromise}
use Rattle.lists.specs.declared.Fault.TheVariants.{Repeat}
use Rattle.lists.specs.declared.Unread.{Unread}
use Rattle.lists.proofs.Calls as lists
use Rattle.sheets.specs.Promise.{CheckPromise}
use Rattle.sheets.specs.declared.Unchecked.{Unchecked}
use Rattle.sheets.specs.declared.Unchecked.TheVariants.{OfList}
use Rattle.sheets.proofs.Alike as sheets

-- a text's refusal for a repeat in line k
abbrev pub repeated : ℕ → Unread
repeated k = record { why = Repeat; line = k; column = 0 }

-- whatever rows are lent
pub written_alike : (rows old out lent : List ℕ) (k : ℕ) (a b : Result ℕ Unread) (new other : List ℕ) → WritePromise rows old (Ok k) out
    → ReadPromise true (take k out) lent a new → ReadPromise false (take k out) lent b other → (a ≡ b) × (new ≡ other)
written_alike rows old out lent k a b new other = lists.calls_alike lent a b new other true false rows old out k

pub accepted_alike : (text lent : List ℕ) (n : ℕ) (b : Result ℕ Unread) (new other : List ℕ) → ReadPromise true text lent (Ok n) new
    → ReadPromise false text lent b other
    → (b ≡ Ok n) × (other ≡ new)
accepted_alike = lists.accepted_alike

pub read_alike : (text lent : List ℕ) (a b : Result ℕ Unread) (new other : List ℕ) → ReadPromise true text lent a new → ReadPromise false text lent b other
    → ((k : ℕ) → ¬ (a ≡ Err (repeated k))) → (a ≡ b) × (new ≡ other)
read_alike text lent a b new other = lists.reads_alike lent a b new other text

pub checked_alike : (list sheet lent : List ℕ) (a b : Result ℕ Unchecked) (new other : List ℕ) → CheckPromise true list sheet lent a new
    → CheckPromise false list sheet lent b other
    → ((k : ℕ) → ¬ (a ≡ Err (OfList (repeated k)))) → (a ≡ b) × (new ≡ other)
checked_alike = sheets.checks_alike
