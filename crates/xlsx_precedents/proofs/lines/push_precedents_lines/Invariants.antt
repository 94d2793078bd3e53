use Rattle.std.proofs.Common.{◌≡◌, ◌++◌, map, string_bytes}
use Rattle.cell_data.specs.Words.{AreInSheet, cells_of}
use Rattle.sorted_cells.specs.Words.{placed_left}
use Rattle.escaped_text.specs.Escaped.{AddsBehind}
use Rattle.xlsx_precedents.specs.Lines.{precedents_lines}
use Rattle.xlsx_precedents.specs.Precedents.{formula_of_cell}
use Rattle.xlsx_precedents.proofs.lines.push_precedents_lines.Given as goal

abbrev pub invariant-loop-pos : goal.invariant-loop-pos
invariant-loop-pos l = record {
  lines : string_bytes l.out ++ precedents_lines (map formula_of_cell (placed_left l.pos-iterator))
      ≡ string_bytes l.fn.out ++ precedents_lines (map formula_of_cell (cells_of l.fn.formulas));
  extends : AddsBehind (string_bytes l.fn.out) (string_bytes l.out);
  sheet : AreInSheet (placed_left l.pos-iterator);
}
