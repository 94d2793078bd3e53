use Rattle.std.proofs.Common.{◌∙◌, ap}
use Rattle.cell_data.specs.Cells.{placed_cells}
use Rattle.cell_refs.specs.Words.{lie_inside, are_sheet_bounds, least_area, last_of_each}
use Rattle.sorted_cells.specs.Words.{kept_cells}
use Rattle.cell_data.proofs.Areas.{least_inside, sheet_bounds, placed_in_sheet}
use Rattle.cell_data.proofs.LeastAreas.{least_last}
use Rattle.cell_data.proofs.range.Range.from_sparse.Goals as goal

pub in_area-requires-clause-inside : goal.in_area-requires-clause-inside
in_area-requires-clause-inside g c =
    let kept = kept_cells c.in_ok-cells.cells in
    ap (λ area. lie_inside area kept) c.least_area-bounds.ensures ∙ least_inside kept

pub in_area-requires-clause-sheet : goal.in_area-requires-clause-sheet
in_area-requires-clause-sheet g c =
    let cells = placed_cells c.args.cells.items in
    let kept = c.in_ok-cells.ensures ∙ ap last_of_each c.in_ok-gathered.ensures in
    ap are_sheet_bounds
    (c.least_area-bounds.ensures ∙ ap least_area kept ∙ least_last cells)
    ∙ sheet_bounds cells (placed_in_sheet c.args.cells.items c.requires)

pub returns-clause-bounds : goal.returns-clause-bounds
returns-clause-bounds g c =
    let kept = c.in_ok-cells.ensures ∙ ap last_of_each c.in_ok-gathered.ensures in
    c.in_area.ensures.bounds ∙ c.least_area-bounds.ensures ∙ ap least_area kept
    ∙ least_last (placed_cells c.args.cells.items)
