use Rattle.std.proofs.Common.{◌≡◌, ◌++◌, map, string_bytes}
use Rattle.cell_data.specs.Words.{value_of_data, with_meaning}
use Rattle.sorted_cells.specs.Words.{kept_cells, owned_left}
use Rattle.xlsx_cells.specs.Words.{with_texts, value_entries}
use Rattle.xlsx_core.proofs.ranges.with_texts.Given as goal

abbrev pub invariant-cells : goal.invariant-cells
invariant-cells l = record {
  texts : map (with_meaning value_of_data) (kept_cells l.own)
      ≡ with_texts (map string_bytes l.strings) (value_entries l.yielded);
  whole : l.yielded ++ owned_left l.pos-iterator ≡ kept_cells l.fn.cells;
}
