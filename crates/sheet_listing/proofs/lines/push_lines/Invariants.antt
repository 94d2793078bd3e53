use Rattle.std.proofs.Common.{◌≡◌, ◌+◌, ◌++◌, length, string_bytes}
use Rattle.cell_styles.specs.Words.{style_named}
use Rattle.cell_data.specs.Words.{AreInOrder}
use Rattle.sorted_cells.specs.Words.{placed_left}
use Rattle.sheet_listing.specs.SheetListing.{ids_left}
use Rattle.sheet_listing.proofs.SheetListingLemmas.{lines_left}
use Rattle.sheet_listing.proofs.lines.push_lines.Given as goal

abbrev pub invariant-positions : goal.invariant-positions
invariant-positions l = record {
  printed : string_bytes l.out
      ++ lines_left l.form (style_named l.styles) (placed_left l.values_left)
      (placed_left l.formulas_left)
      (ids_left l.ids_left)
      ≡ string_bytes l.fn.out
      ++ lines_left l.form (style_named l.styles) (placed_left l.fn.values)
      (placed_left l.fn.formulas)
      (ids_left l.fn.ids);
  values_order : AreInOrder (placed_left l.values_left);
  formulas_order : AreInOrder (placed_left l.formulas_left);
  ids_order : AreInOrder (ids_left l.ids_left);
}

abbrev pub decreases-positions : goal.decreases-positions
decreases-positions l =
    length (placed_left l.values_left) + length (placed_left l.formulas_left)
    + length (ids_left l.ids_left)
