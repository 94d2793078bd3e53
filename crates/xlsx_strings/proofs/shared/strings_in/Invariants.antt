use Rattle.std.proofs.Common.{[], map, string_bytes}
use Rattle.xlsx_sections.proofs.ListsRead.{KeepsList}
use Rattle.xlsx_strings.specs.Strings.{is_string, string_said}
use Rattle.xlsx_strings.proofs.shared.strings_in.Given as goal

abbrev pub invariant-strings : goal.invariant-strings
invariant-strings g l =
    let old = l.fn.xml in
    let now = l.xml in
    KeepsList is_string string_said l.base [] (map string_bytes l.strings.items) old now

abbrev pub decreases-strings : goal.decreases-strings
decreases-strings g l = l.xml.source.left
