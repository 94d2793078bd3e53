use Rattle.std.proofs.Common.{◌≡◌, ◌<◌, ◌++◌, map, length}
use Rattle.cell_data.specs.Words.{value_of_data, with_meaning}
use Rattle.sorted_cells.specs.Words.{kept_cells, owned_left}
use Rattle.xlsx_cells.specs.Words.{styled_entries}
use Rattle.xlsx_open.specs.Words.{shared_said}
use Rattle.xlsx_core.specs.ShownCodes.{AreCutFrom}
use Rattle.xlsx_core.specs.ShownSheet.{code_at, shown_cells}
use Rattle.xlsx_core.proofs.shown_sheet.shown_texts.Given as goal

abbrev pub invariant-cells : goal.invariant-cells
invariant-cells l = record {
  count : length l.shared.style_sheet.styles.items < length l.cut.items;
  cut : AreCutFrom (code_at (shared_said l.shared).styles) l.cut.items;
  texts : map (with_meaning value_of_data) (kept_cells l.own)
      ≡ shown_cells (shared_said l.shared) l.is_1904 (styled_entries l.yielded);
  whole : l.yielded ++ owned_left l.pos-iterator ≡ kept_cells l.fn.cells;
}
