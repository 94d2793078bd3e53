use Rattle.std.proofs.Common.{◌≡◌, ◌++◌, IsUtf8, length, string_bytes}
use Rattle.escaped_text.specs.Escaped.{AddsBehind, escaped}
use Rattle.xlsx_graph.specs.GraphLines.{doubled}
use Rattle.xlsx_graph.proofs.graph_lines.push_doubled.Given as goal

abbrev pub invariant-parts : goal.invariant-parts
invariant-parts l = record {
  extends : AddsBehind (string_bytes l.fn.out) (string_bytes l.out);
  lines : string_bytes l.out ++ escaped (doubled l.rest)
      ≡ string_bytes l.fn.out ++ escaped (doubled l.text);
  utf8 : IsUtf8 l.rest;
}

abbrev pub decreases-parts : goal.decreases-parts
decreases-parts l = length l.rest
