use Rattle.std.proofs.Common.{◌≡◌, codes, rules}
use Rattle.std.proofs.lemmas.Result.{err_from_is_err_and}
use Rattle.attr_text.specs.Words.{value_of}
use Rattle.xlsx_sections.specs.Words.{decoded_at}
use Rattle.xlsx_styles.specs.Fonts.{said_of, name_changed, with_decoded}
use Rattle.xlsx_styles.proofs.FontErrors.{decoded_fails}
use Rattle.xlsx_styles.proofs.font.change_name.Goals as goal

pub returns-in_err-decode_at-clause-err : goal.returns-in_err-decode_at-clause-err
returns-in_err-decode_at-clause-err c =
    let p = err_from_is_err_and c.from_residual-in_err-decode_at.result
    c.from_residual-in_err-decode_at.ensures.1 in
    let font = said_of c.args.font.now in
    rw (p.1, p.2) (λ behind.
    let decoded = decoded_at behind c.in-Some.name.now in
    let same : name_changed behind font (value_of (codes "val") c.args.tag.attributes.now)
    ≡ with_decoded font decoded = search rules in
    rw same (decoded_fails font c.args.at behind decoded c.in_err-decode_at.field-0.0
    (c.in_err-decode_at.ensures.err behind)))
