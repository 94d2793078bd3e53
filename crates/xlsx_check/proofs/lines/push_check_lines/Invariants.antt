use Rattle.std.proofs.Common.{◌≡◌, ◌++◌, All, map, string_bytes}
use Rattle.cell_data.specs.Words.{IsPlacedInSheet}
use Rattle.escaped_text.specs.Escaped.{AddsBehind}
use Rattle.sorted_cells.specs.Words.{placed_left}
use Rattle.xlsx_check.specs.Denoting.{values_of}
use Rattle.xlsx_check.specs.Lines.{formulas_of, check_lines}
use Rattle.xlsx_check.proofs.lines.push_check_lines.Given as goal

abbrev pub invariant-loop-position : goal.invariant-loop-position
invariant-loop-position l = record {
  printed : string_bytes l.out
      ++ check_lines (values_of l.values)
      (map (λ cell. (cell.0, string_bytes cell.1)) (placed_left l.position-iterator))
      ≡ string_bytes l.fn.out ++ check_lines (values_of l.values) (formulas_of l.formulas);
  extends : AddsBehind (string_bytes l.fn.out) (string_bytes l.out);
  sheet : All IsPlacedInSheet (placed_left l.position-iterator);
}
