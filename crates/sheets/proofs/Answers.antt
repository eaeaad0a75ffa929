-- What was found, handed over: an accepted pair's entries fit the lent bytes. Assumes nothing.
use Rattle.std.specs.Prelude.{ℕ, ◌+◌, ◌≤◌, Bool, ◌||◌, List, length, leb, Option, Some, None, Result, Ok, Err, IfOk}
use borrow.Author.Tests.{leb-true}
use Rattle.sets.specs.Lists.{all}
use Rattle.clashes.specs.Matrix.{matrix}
use Rattle.lines.specs.Text.{Text, done, unended, ended, lines_of}
use Rattle.lines.proofs.Basics.{cond_cases}
use Rattle.lists.specs.Read.{read_up_to, answer_in as list_answer}
use Rattle.lists.specs.declared.Gathered.{Gathered}
use Rattle.lists.specs.declared.Unread.{Unread}
use Rattle.lists.proofs.Fold.{Bounded, read_up_to_few}
use Rattle.sheets.specs.Check.{no_colours_up_to, of_sheet, step_of, met, finish, none, after, check_from, start, sheet_up_to, against_up_to, check_up_to}
use Rattle.sheets.specs.declared.SheetFault.{SheetFault}
use Rattle.sheets.specs.declared.Refused.{Refused}
use Rattle.sheets.specs.declared.Division.{Division}
use Rattle.sheets.specs.declared.Unchecked.{Unchecked}
use Rattle.sheets.specs.declared.Progress.{Progress}
use Rattle.sheets.specs.declared.Step.{Step}
use Rattle.sheets.specs.declared.Step.TheVariants.{Count, Place}

module _ (most room : ℕ) where
  pub record Fits (d : Division) : Type 0 where
    pub few : d.entries ≤ most
    pub fits : d.entries ≤ room

  abbrev Fit : Result Division Refused → Type 0
  Fit r = IfOk r Fits

  module _ (n : ℕ) (few : n ≤ most) (fits : n ≤ room) (clash : ℕ → ℕ → Bool) where
    finish_fits : (p : Option Progress) (m w : ℕ → Bool) (g : List ℕ) (k : ℕ) → Fit (finish n p m w g k)
    finish_fits None m w g k = tt
    finish_fits (Some p) m w g k =
        cond_cases Fit (met p) _ _
        (λ _. cond_cases Fit (all n (λ j. w j || m j)) _ _ (λ _. record { few = few; fits = fits }) (λ _. tt))
        (λ _. tt)

    from_fits : (t : Text) (k : ℕ) (p : Option Progress) (m w : ℕ → Bool) (g : List ℕ) → Fit (check_from t n clash k p m w g)
    from_fits done k p m w g = finish_fits p m w g k
    from_fits (unended l) k p m w g = tt
    from_fits (ended l t) k p m w g = go (step_of n clash p m w l) (from_fits t (k + 1))
      where
        go : (st : Result Step SheetFault) → ((p : Option Progress) (m w : ℕ → Bool) (g : List ℕ) → Fit (check_from t n clash (k + 1) p m w g))
            → Fit (after st k m w g (check_from t n clash (k + 1)))
        go (Err f) r = tt
        go (Ok (Count q)) r = r (Some q) _ _ g
        go (Ok (Place q i c)) r = r (Some q) _ w _

    sheet_fits : (longest : ℕ) (s : List ℕ) → Fit (sheet_up_to most longest n clash s)
    sheet_fits longest s = cond_cases Fit (leb (length s) longest) _ _ (λ _. from_fits (lines_of s) 1 start none none (no_colours_up_to most)) (λ _. tt)

  of_sheet_fits : (r : Result Division Refused) → Fit r → IfOk (of_sheet r) Fits
  of_sheet_fits (Ok d) h = h
  of_sheet_fits (Err r) h = tt

  pub check_fits : (plain : Bool) (longest : ℕ) (list s : List ℕ) → IfOk (check_up_to plain most longest list s room) Fits
  check_fits plain longest list s = go (read_up_to plain most longest list most) (read_up_to_few plain most longest list most)
    where
      go : (a : Result Gathered Unread) → Bounded most (list_answer a) → IfOk (against_up_to most longest a s room) Fits
      go (Err u) b = tt
      go (Ok f) b =
          cond_cases (λ (r : Result Division Unchecked). IfOk r Fits) (leb f.n room) _ _
          (λ e. of_sheet_fits (sheet_up_to most longest f.n (matrix f.rows) s) (sheet_fits f.n b (leb-true f.n room e) (matrix f.rows) longest s))
          (λ _. tt)
