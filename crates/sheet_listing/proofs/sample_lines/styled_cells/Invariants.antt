use Rattle.std.proofs.Common.{◌≡◌, ◌++◌, map}
use Rattle.cell_styles.specs.Words.{styled_entry}
use Rattle.sorted_cells.specs.Words.{kept_cells}
use Rattle.sheet_listing.specs.SheetListing.{placed_ids}
use Rattle.sheet_listing.proofs.sample_lines.styled_cells.Given as goal

abbrev pub invariant-loop-row : goal.invariant-loop-row
invariant-loop-row l =
    kept_cells l.cells ++ map styled_entry l.row-iterator ≡ placed_ids l.fn.styles
