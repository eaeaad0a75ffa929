-- `sheets::behind` meets its contract: the word, and then one number. Assumes nothing.
use Rattle.std.proofs.Common.{◌≡◌, ℕ, List, [], ◌∷◌, true, false, eqb, length, take, drop, refl, sym, ap, ◌∙◌}
use Rattle.std.specs.Prelude.{None}
use native.Mathlib.Decide.{ℕ_discrete}
use borrow.Author.Tests.{eq-eqb, ne_eqb}
use lib.Pointwise.{pointwise}
use Rattle.lines.specs.Words.{starts, alone_of}
use Rattle.sheets.specs.Check.{behind_of}
use Rattle.sheets.proofs.behind.Goals as goal

-- what the library asks of a prefix is `starts`
stripped : (w s : List ℕ) → pointwise eqb (take (length w) s) w ≡ starts w s
stripped [] s = refl
stripped (w ∷ ws) [] = refl
stripped (w ∷ ws) (b ∷ s) = go (ℕ_discrete w b) (stripped ws s)
  where
    go : Dec (w ≡ b) → pointwise eqb (take (length ws) s) ws ≡ starts ws s → pointwise eqb (take (length (w ∷ ws)) (b ∷ s)) (w ∷ ws) ≡ starts (w ∷ ws) (b ∷ s)
    go (yes e) r = rw (eq-eqb b w (sym e), eq-eqb w b e) r
    go (no n) r = rw (ne_eqb b w (λ e. n (sym e)), ne_eqb w b n)

behind_yes : (w s : List ℕ) → pointwise eqb (take (length w) s) w ≡ true → behind_of w s ≡ alone_of (drop (length w) s)
behind_yes w s e = rw (sym (stripped w s) ∙ e)

behind_no : (w s : List ℕ) → pointwise eqb (take (length w) s) w ≡ false → behind_of w s ≡ None
behind_no w s e = rw (sym (stripped w s) ∙ e)

pub returns-in_err-strip_prefix : goal.returns-in_err-strip_prefix
returns-in_err-strip_prefix c = c.from_residual.ensures ∙ sym (behind_no c.args.w.now c.args.s.now c.in_err-strip_prefix.ensures.cases)

pub returns : goal.returns
returns c =
    let h = c.in_ok-strip_prefix.ensures.cases in
    c.one.ensures ∙ ap alone_of h.1 ∙ sym (behind_yes c.args.w.now c.args.s.now h.0)
