use Rattle.std.proofs.Common.{◌≡◌, rules}
use Rattle.std.proofs.lemmas.Result.{err_from_is_err_and}
use Rattle.part_events.specs.Words.{tag_of}
use Rattle.xlsx_sections.specs.Words.{placed_at, decoded_at, some_text}
use Rattle.xlsx_sections.proofs.TextsRead.{some_text_fails}
use Rattle.xlsx_relationships.specs.Relationships.{target_of}
use Rattle.xlsx_relationships.proofs.relationships.office_target.Goals as goal

pub returns-in_err-decode_at-in-Some-Some-clause-err
    : goal.returns-in_err-decode_at-in-Some-Some-clause-err
returns-in_err-decode_at-in-Some-Some-clause-err c =
    let p = err_from_is_err_and c.from_residual-in_err-decode_at-in-Some-Some.result
    c.from_residual-in_err-decode_at-in-Some-Some.ensures.1 in
    rw (p.1, p.2) (λ behind.
    let decoded = decoded_at behind c.in-Some-Some.target.now in
    let same : target_of (placed_at (tag_of c.args.tag) behind) ≡ some_text decoded =
    search rules in
    rw same (some_text_fails c.args.at behind decoded c.in_err-decode_at-in-Some-Some.field-0.0
    (c.in_err-decode_at-in-Some-Some.ensures.err behind)))
