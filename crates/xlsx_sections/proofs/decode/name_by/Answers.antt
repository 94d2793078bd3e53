use Rattle.std.proofs.Common.{◌≡◌, rules}
use Rattle.std.proofs.lemmas.Result.{err_from_is_err_and}
use Rattle.part_events.specs.Words.{tag_of}
use Rattle.xlsx_sections.specs.Refusal.{placed_at, decoded_at}
use Rattle.xlsx_sections.specs.Names.{some_text, name_by}
use Rattle.xlsx_sections.proofs.TextsRead.{some_text_fails}
use Rattle.xlsx_sections.proofs.decode.name_by.Goals as goal

pub returns-in_err-decode_at-in-Some-clause-err : goal.returns-in_err-decode_at-in-Some-clause-err
returns-in_err-decode_at-in-Some-clause-err c =
    let p = err_from_is_err_and c.from_residual-in_err-decode_at-in-Some.result
    c.from_residual-in_err-decode_at-in-Some.ensures.1 in
    rw (p.1, p.2) (λ behind.
    let decoded = decoded_at behind c.in-Some.name.now in
    let same : name_by (placed_at (tag_of c.args.tag) behind) ≡ some_text decoded = search rules in
    rw same (some_text_fails c.args.at behind decoded c.in_err-decode_at-in-Some.field-0.0
    (c.in_err-decode_at-in-Some.ensures.err behind)))
