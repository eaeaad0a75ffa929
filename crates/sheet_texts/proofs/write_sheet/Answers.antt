-- `sheet_texts::write_sheet` meets its contract: what is composed is numbered by first use. Assumes nothing.
use Rattle.std.proofs.Common.{◌≡◌, Ok, sym, ◌∙◌, rules}
use Rattle.sheet_texts.proofs.FirstUse.{used_is}
use Rattle.sheet_texts.proofs.write_sheet.Goals as goal

pub compose-composed-requires : goal.compose-composed-requires
compose-composed-requires c =
    let e : c.number.result ≡ Ok c.in_ok-k.k = search rules in
    let w = used_is 0 0 c.args.colours.now _ (sym c.number.ensures ∙ e) in
    (c.if-colours-gt-MOST.false, w.0, w.1)
