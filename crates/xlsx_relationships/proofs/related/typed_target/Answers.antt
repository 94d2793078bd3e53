use Rattle.std.proofs.Common.{◌≡◌, rules}
use Rattle.part_events.specs.Words.{tag_of}
use Rattle.xlsx_sections.specs.Words.{some_text, placed_at, decoded_at}
use Rattle.xlsx_sections.proofs.Failing.{given_back}
use Rattle.xlsx_sections.proofs.TextsRead.{some_text_fails}
use Rattle.xlsx_relationships.specs.RelatedParts.{typed_target}
use Rattle.xlsx_relationships.proofs.related.typed_target.Goals as goal

pub returns-in_err-decode_at-clause-err : goal.returns-in_err-decode_at-clause-err
returns-in_err-decode_at-clause-err c =
    given_back _ c.from_residual-in_err-decode_at.result
    c.from_residual-in_err-decode_at.ensures.1
    (λ behind.
    let decoded = decoded_at behind c.text_or-2.result.now in
    let same : typed_target c.args.wanted.now (placed_at (tag_of c.args.tag) behind)
    ≡ some_text decoded = search rules in
    rw same (some_text_fails c.args.at behind decoded c.in_err-decode_at.field-0.0
    (c.in_err-decode_at.ensures.err behind)))
