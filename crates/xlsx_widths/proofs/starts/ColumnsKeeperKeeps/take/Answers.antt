use Rattle.std.proofs.Common.{map, refl}
use Rattle.part_events.specs.Words.{tag_of}
use Rattle.xlsx_sections.proofs.Failing.{given_back}
use Rattle.xlsx_sections.proofs.Refused.{handed_on}
use Rattle.xlsx_widths.specs.Widths.{band_kept, columns_behind, columns_of}
use Rattle.xlsx_widths.proofs.starts.ColumnsKeeperKeeps.take.Goals as goal

pub returns-in_err-columns-clause-err : goal.returns-in_err-columns-clause-err
returns-in_err-columns-clause-err c =
    given_back _ c.from_residual.result c.from_residual.ensures.1
    (λ i behind. handed_on c.args._at behind
    (columns_behind (map band_kept c.args.self.now.columns.items)) (columns_of (tag_of c.args.tag))
    c.in_err-columns.field-0.0 (λ refusal. refl)
    (c.in_err-columns.ensures.err c.args._at behind))
