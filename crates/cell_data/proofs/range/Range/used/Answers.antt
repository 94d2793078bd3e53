use Rattle.cell_data.specs.Range.{bounds_of, cells_of}
use Rattle.cell_data.proofs.Areas.{lie_from_start, used_in_sheet}
use Rattle.cell_data.proofs.range.Range.used.Goals as goal

pub returns-clause-from : goal.returns-clause-from
returns-clause-from g c =
    lie_from_start (bounds_of c.args.self.now) (cells_of c.args.self.now) c.args.self.now.inside

pub returns-clause-sheet : goal.returns-clause-sheet
returns-clause-sheet g c =
    used_in_sheet (bounds_of c.args.self.now) (cells_of c.args.self.now) c.args.self.now.limits
    c.args.self.now.inside
