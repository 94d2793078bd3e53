use Rattle.std.proofs.Common.{◌≡◌, ◌++◌, map, string_bytes}
use Rattle.xlsx_properties.specs.Kept.{entry_texts, custom_texts}
use Rattle.xlsx_commands.specs.PropertyLists.{custom_lines}
use Rattle.xlsx_commands.proofs.property_lines.push_customs.Given as goal

abbrev pub invariant-loop-name : goal.invariant-loop-name
invariant-loop-name l =
    string_bytes l.out ++ custom_lines l.form (map entry_texts l.name-iterator)
    ≡ string_bytes l.fn.out ++ custom_lines l.form (custom_texts l.properties)
