use Rattle.std.proofs.Common.{◌∙◌, ap, sym}
use Rattle.cell_refs.specs.Words.{are_sheet_bounds, last_of_each, least_area, lie_inside}
use Rattle.sorted_cells.specs.Words.{kept_cells}
use Rattle.sorted_cells.proofs.Rising.{kept_rises}
use Rattle.cell_data.proofs.Placing.{rising_last}
use Rattle.xlsx_core.specs.Worksheets.{header_area}
use Rattle.xlsx_core.proofs.StandingRanges.{header_bounds, header_inside, kept_below}
use Rattle.xlsx_core.proofs.ranges.range_of.Goals as goal

pub in_area-requires-clause-inside : goal.in_area-requires-clause-inside
in_area-requires-clause-inside g c =
    let kept = kept_cells c.args.cells in
    ap (λ area. lie_inside area kept)
    (c.header_area-area.ensures ∙ ap (header_area c.args.header_row) c.least_area.ensures)
    ∙ header_inside c.args.header_row kept c.requires

pub in_area-requires-clause-sheet : goal.in_area-requires-clause-sheet
in_area-requires-clause-sheet g c =
    ap are_sheet_bounds
    (c.header_area-area.ensures ∙ ap (header_area c.args.header_row) c.least_area.ensures)
    ∙ header_bounds c.args.header_row (kept_cells c.args.cells) c.requires

pub returns : goal.returns
returns g c =
    let header = c.args.header_row in
    let kept = kept_cells c.args.cells in
    let below = sym (kept_below header kept c.requires) in
    record {
      cells = c.in_area.ensures.cells ∙ rising_last kept (kept_rises c.args.cells)
          ∙ ap last_of_each below;
      bounds = c.in_area.ensures.bounds ∙ c.header_area-area.ensures
          ∙ ap (header_area header) c.least_area.ensures
          ∙ ap (λ cells. header_area header (least_area cells)) below;
      blank = c.in_area.ensures.blank;
    }
