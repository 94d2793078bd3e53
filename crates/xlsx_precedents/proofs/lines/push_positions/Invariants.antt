use Rattle.std.proofs.Common.{◌≡◌, ◌++◌, drop, string_bytes}
use Rattle.std.specs.List.{flat_map}
use Rattle.escaped_text.specs.Escaped.{AddsBehind}
use Rattle.list_lines.specs.Lines.{position_line}
use Rattle.xlsx_precedents.proofs.lines.push_positions.Given as goal

abbrev pub invariant-loop-pos : goal.invariant-loop-pos
invariant-loop-pos l = record {
  lines : string_bytes l.out ++ flat_map position_line (drop l.pos-index l.cells)
      ≡ string_bytes l.fn.out ++ flat_map position_line l.cells;
  extends : AddsBehind (string_bytes l.fn.out) (string_bytes l.out);
}
