use Rattle.std.proofs.Common.{◌≡◌, ◌++◌, drop, map, string_bytes}
use Rattle.xlsx_properties.specs.Kept.{held}
use Rattle.xlsx_commands.specs.PropertyLists.{property_lines, lines_said}
use Rattle.xlsx_commands.proofs.property_lines.push_said.Given as goal

abbrev pub invariant-loop-own : goal.invariant-loop-own
invariant-loop-own l =
    string_bytes l.out ++ lines_said l.form (λ own. held own l.properties)
    (map (λ own. (own.0.now, own.1)) (drop l.own-index l.all))
    ≡ string_bytes l.fn.out ++ property_lines l.form (λ own. held own l.properties)
