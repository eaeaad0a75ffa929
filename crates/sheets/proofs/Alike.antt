-- Checks by the two readings of the list: they are alike, unless the plain one refuses a repeat. Assumes nothing.
use Rattle.std.specs.Prelude.{ℕ, ◌≡◌, ◌⊎◌, List, true, false, length, Result, Err}
use mathlib.Core.Path.{sym, ap, ◌∙◌}
use mathlib.Core.Logic.{inl, inr, ⊎_elim}
use Rattle.lists.specs.Read.{most_entries, longest_text, lone, on_line}
use Rattle.lists.specs.declared.Fault.TheVariants.{Repeat}
use Rattle.lists.specs.declared.Gathered.{Gathered}
use Rattle.lists.specs.declared.Unread.{Unread}
use Rattle.lists.proofs.Alike.{read_up_to_alike}
use Rattle.sheets.specs.Check.{against_up_to, check_up_to}
use Rattle.sheets.specs.Promise.{answer_in, written_of, CheckPromise}
use Rattle.sheets.specs.declared.Division.{Division}
use Rattle.sheets.specs.declared.Unchecked.{Unchecked}
use Rattle.sheets.specs.declared.Unchecked.TheVariants.{OfList}

-- a repeat, at line k of the list
abbrev pub repeated : ℕ → Unchecked
repeated k = OfList (on_line (lone Repeat) k)

module _ (most longest : ℕ) (list s : List ℕ) (room : ℕ) where
  -- of what reading found
  abbrev by : Result Gathered Unread → Result Division Unchecked
  by f = against_up_to most longest f s room

  pub check_up_to_alike : (check_up_to true most longest list s room ≡ check_up_to false most longest list s room)
      ⊎ ((k : ℕ) × (check_up_to true most longest list s room ≡ Err (repeated k)))
  check_up_to_alike = ⊎_elim (λ e. inl (ap by e)) (λ e. inr (e.0, ap by e.1)) (read_up_to_alike most longest list most)

-- the calls
pub checks_alike : (list s lent : List ℕ) (a b : Result ℕ Unchecked) (new other : List ℕ) → CheckPromise true list s lent a new
    → CheckPromise false list s lent b other
    → ((k : ℕ) → ¬ (a ≡ Err (repeated k))) → (a ≡ b) × (new ≡ other)
checks_alike list s lent a b new other x y h =
    ⊎_elim (λ e. (x.answer ∙ ap answer_in e ∙ sym y.answer, x.lent ∙ ap (λ (o : Result Division Unchecked). written_of o lent) e ∙ sym y.lent))
    (λ e. absurd (h e.0 (x.answer ∙ ap answer_in e.1))) (check_up_to_alike most_entries longest_text list s (length lent))
