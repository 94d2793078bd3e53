use Rattle.std.proofs.Common.{◌≡◌, ◌++◌, drop, string_bytes}
use Rattle.xlsx_commands.specs.SheetLists.{merge_lines}
use Rattle.xlsx_commands.proofs.merge_lines.lines_of_areas.Given as goal

abbrev pub invariant-loop-area : goal.invariant-loop-area
invariant-loop-area l =
    string_bytes l.out ++ merge_lines l.form (drop l.area-index l.areas) ≡ merge_lines l.form
    l.areas
