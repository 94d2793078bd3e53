use Rattle.part_events.specs.Words.{tag_of}
use Rattle.xlsx_sections.specs.Words.{placed_at}
use Rattle.xlsx_sections.proofs.Failing.{given_back}
use Rattle.xlsx_relationships.specs.RelatedParts.{typed_target}
use Rattle.xlsx_relationships.proofs.RelatedRead.{lead_fails}
use Rattle.xlsx_relationships.proofs.related.leads_to.Goals as goal

pub returns-in_err-target-clause-err : goal.returns-in_err-target-clause-err
returns-in_err-target-clause-err c =
    given_back _ c.from_residual.result c.from_residual.ensures.1
    (λ behind. lead_fails c.args.path.now c.args.at behind
    (typed_target c.args.wanted.now (placed_at (tag_of c.args.tag) behind))
    c.in_err-target.field-0.0 (c.in_err-target.ensures.err behind))
