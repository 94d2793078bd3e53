use Rattle.std.proofs.Common.{◌≡◌, rules}
use Rattle.std.specs.Option.{option_copied}
use Rattle.std.proofs.lemmas.Result.{err_from_is_err_and}
use Rattle.xlsx_sections.specs.Words.{some_text}
use Rattle.xlsx_sections.proofs.TextsRead.{some_text_fails}
use Rattle.xlsx_relationships.specs.Words.{link_text}
use Rattle.xlsx_areas.specs.Hyperlinks.{optional_text}
use Rattle.xlsx_areas.proofs.hyperlinks.optional_text.Goals as goal

pub returns-in_err-link_text-in-Some-clause-err : goal.returns-in_err-link_text-in-Some-clause-err
returns-in_err-link_text-in-Some-clause-err c =
    let p = err_from_is_err_and c.from_residual.result c.from_residual.ensures.1 in
    rw (p.1, p.2) (λ behind.
    let own = link_text behind c.in-Some.text.now in
    let same : optional_text behind (option_copied c.args.text) ≡ some_text own = search rules in
    rw same (some_text_fails c.args.at behind own c.in_err-link_text-in-Some.field-0.0
    (c.in_err-link_text-in-Some.ensures.err behind)))
