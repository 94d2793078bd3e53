use Rattle.std.proofs.Common.{sym, map}
use Rattle.xlsx_formats.specs.Formattings.{style_said}
use Rattle.xlsx_core.specs.ShownSheet.{code_at}
use Rattle.xlsx_core.proofs.shown_codes.shown_of.Goals as goal

pub returns-in_err-cut_at-clause-codes : goal.returns-in_err-cut_at-clause-codes
returns-in_err-cut_at-clause-codes c = λ are.
    c.cut_at.ensures.codes (code_at (map style_said c.args.styles.now)) (sym c.code_placed.ensures)
    are

pub returns-clause-codes : goal.returns-clause-codes
returns-clause-codes c = λ are.
    c.cut_at.ensures.codes (code_at (map style_said c.args.styles.now)) (sym c.code_placed.ensures)
    are

pub returns-clause-text : goal.returns-clause-text
returns-clause-text c = λ are.
    let codes = code_at (map style_said c.args.styles.now) in
    let now = c.cut_at.ensures.codes codes (sym c.code_placed.ensures) are in
    rw c.place_of-place.ensures.code at
    (c.shown_at.ensures codes (rw c.deref.ensures.value now))
