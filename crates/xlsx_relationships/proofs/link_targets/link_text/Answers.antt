use Rattle.std.proofs.lemmas.Result.{err_from_is_err_and}
use Rattle.xlsx_sections.specs.Words.{decoded_at}
use Rattle.xlsx_relationships.proofs.TargetsKept.{link_text_fails}
use Rattle.xlsx_relationships.proofs.link_targets.link_text.Goals as goal

pub returns-in_err-decoded-clause-err : goal.returns-in_err-decoded-clause-err
returns-in_err-decoded-clause-err c =
    let p = err_from_is_err_and c.from_residual.result c.from_residual.ensures.1 in
    rw (p.1, p.2) (λ behind. link_text_fails c.args.at behind
    (decoded_at behind c.args.text.now) c.in_err-decoded.field-0.0
    (c.in_err-decoded.ensures.err behind))
