use Rattle.std.proofs.Common.{◌≡◌, rules}
use Rattle.std.proofs.lemmas.Result.{err_from_is_err_and}
use Rattle.part_events.specs.Words.{tag_of}
use Rattle.xlsx_sections.specs.Words.{decoded_at, placed_at}
use Rattle.xlsx_formats.specs.FormatCodes.{with_code, written_format}
use Rattle.xlsx_formats.proofs.CodesRead.{code_fails}
use Rattle.xlsx_formats.proofs.number_formats.keep_format.Goals as goal

pub returns-in_err-code-clause-err : goal.returns-in_err-code-clause-err
returns-in_err-code-clause-err c =
    let p = err_from_is_err_and c.from_residual-in_err-code.result
    c.from_residual-in_err-code.ensures.1 in
    let id = c.in-Some-Some.id.now in
    rw (p.1, p.2) (λ behind.
    let decoded = decoded_at behind c.in-Some-Some.code.now in
    let same : written_format (placed_at (tag_of c.args.tag) behind) ≡ with_code id decoded =
    search rules in
    rw same (code_fails id c.args.at behind decoded c.in_err-code.field-0.0
    (c.in_err-code.ensures.err behind)))
