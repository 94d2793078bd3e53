use Rattle.std.proofs.Common.{◌≡◌, ◌++◌, All, string_bytes}
use Rattle.cell_data.specs.Words.{IsPlacedInSheet, cells_of}
use Rattle.sorted_cells.specs.Words.{placed_left}
use Rattle.sheet_listing.specs.SheetListing.{cell_values, value_lines}
use Rattle.sheet_listing.proofs.lines.value_lines_of.Given as goal

abbrev pub invariant-loop-position : goal.invariant-loop-position
invariant-loop-position l = record {
  printed : string_bytes l.out ++ value_lines (cell_values (placed_left l.position-iterator))
      ≡ value_lines (cell_values (cells_of l.values));
  sheet : All IsPlacedInSheet (placed_left l.position-iterator);
}
