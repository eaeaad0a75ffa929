-- `answers::of_text` meets its contract: the text is read, or its refusal is printed. Assumes nothing.
use Prim.Native.Nat.{ℕ}
use mathlib.Core.Path.{sym, ap, subst, ◌∙◌}
use mathlib.Core.List.{List}
use native.Mathlib.Omega.{arith}
use Rattle.refusals.specs.Table.{number_of, told, told_at}
use Rattle.refusals.specs.declared.Refusal.{Refusal}
use Rattle.answers.specs.Printed.{refused_text, IsText}
use Rattle.answers.proofs.Laws.{line_small, column_small, printed_read, printed_numbers, list_sound, list_few}
use Rattle.answers.proofs.of_text.Goals as goal

pub shared_ref_as_front-of_rows : goal.shared_ref_as_front-of_rows
shared_ref_as_front-of_rows c = list_few c.args.plain c.args.text.now _ (sym c.gather.ensures ∙ c.in-Ok.is)

pub of_rows-requires : goal.of_rows-requires
of_rows-requires c = list_sound c.args.plain c.args.text.now _ (sym c.gather.ensures ∙ c.in-Ok.is)

pub returns-in-Ok : goal.returns-in-Ok
returns-in-Ok c =
    subst (λ (x : List ℕ). IsText x c.of_rows.result) (sym (printed_read c.args.plain c.args.text.now _ (sym c.gather.ensures ∙ c.in-Ok.is))) c.of_rows.ensures

pub refused-requires : goal.refused-requires
refused-requires c =
    let s = c.args.text.now in
    let r = c.from-r.result in
    let e = sym c.gather.ensures ∙ c.in-Err.is in
    (omega (arith, c.line.ensures, line_small c.args.plain s 64 _ r e), omega (arith, c.column.ensures, column_small c.args.plain s 64 _ r e))

pub returns-in-Err : goal.returns-in-Err
returns-in-Err c =
    let u = c.in-Err.unread in
    let r = c.from-r.result in
    let t = c.refused.result in
    subst (λ (x : List ℕ). IsText x t) (sym (printed_numbers c.args.plain c.args.text.now u (sym c.gather.ensures ∙ c.in-Err.is)))
    (subst (λ (q : Refusal). IsText (refused_text (number_of q) (told q u.line).line (told_at q 0 u.column).column) t) c.from-r.ensures
    (subst (λ (m : ℕ). IsText (refused_text (number_of r) (told r u.line).line m) t) c.column.ensures
    (subst (λ (m : ℕ). IsText (refused_text (number_of r) m c.column.result) t) c.line.ensures c.refused.ensures)))
