use Rattle.std.proofs.Common.{refl, option_map}
use Rattle.part_events.specs.Words.{tag_of}
use Rattle.xlsx_sections.specs.Answers.{or_earlier}
use Rattle.xlsx_sections.specs.Refusal.{placed_at}
use Rattle.xlsx_sections.proofs.Failing.{given_back}
use Rattle.xlsx_sections.proofs.Refused.{handed_on}
use Rattle.xlsx_sections.proofs.keeping_lists.LastKeeps.take.Goals as goal

pub returns-in_err-item-clause-err : goal.returns-in_err-item-clause-err
returns-in_err-item-clause-err g c =
    let kept = option_map g.R.Reads.said c.args.self.now.item in
    given_back _ c.from_residual.result c.from_residual.ensures.1
    (λ i behind. handed_on c.args.at behind (or_earlier kept)
    (g.R.Reads.meaning c.args.self.now.by (placed_at (tag_of c.args.tag) behind))
    c.in_err-item.field-0.0 (λ refusal. refl) (c.in_err-item.ensures.err behind))
