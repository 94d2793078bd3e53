use Rattle.std.proofs.Common.{◌≡◌, ◌∙◌, subst, sym, true, Option}
use Rattle.cell_data.specs.Words.{cells_of}
use Rattle.cell_refs.specs.Words.{lie_inside}
use Rattle.cell_refs.specs.declared.dimensions.Dimensions.{Dimensions}
use Rattle.xlsx_commands.proofs.RowsPlaced.{all_kept}
use Rattle.xlsx_commands.proofs.sheet_rows.from_first_cell.Goals as goal

pub returns-in-Some-clause-cells : goal.returns-in-Some-clause-cells
returns-in-Some-clause-cells c =
    let area = c.in-Some.area in
    let cells = cells_of c.args.values in
    c.range.ensures.cells
    ∙ all_kept area cells
    (subst (λ (bounds : Option Dimensions). lie_inside bounds cells ≡ true)
    (sym c.in-Some.ensures.value) c.args.values.inside)
