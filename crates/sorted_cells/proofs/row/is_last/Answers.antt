use Rattle.std.proofs.Common.{◌∙◌, sym, ap}
use Rattle.sorted_cells.specs.Rows.{is_last}
use Rattle.sorted_cells.proofs.Pushing.{last_is}
use Rattle.sorted_cells.proofs.row.is_last.Goals as goal

pub returns-in-Some : goal.returns-in-Some
returns-in-Some c =
    sym (ap (is_last c.args.number) c.in-Some.ensures.cases.0
    ∙ last_is c.args.number c.in-Some.field-0-1.now c.in-Some.last.now)
