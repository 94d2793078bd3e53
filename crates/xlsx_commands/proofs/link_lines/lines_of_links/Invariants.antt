use Rattle.std.proofs.Common.{◌≡◌, ◌++◌, drop, map, string_bytes}
use Rattle.xlsx_areas.specs.Hyperlinks.{link_said}
use Rattle.xlsx_commands.specs.SheetLists.{link_lines}
use Rattle.xlsx_commands.proofs.link_lines.lines_of_links.Given as goal

abbrev pub invariant-loop-link : goal.invariant-loop-link
invariant-loop-link l =
    string_bytes l.out ++ link_lines l.form (map link_said (drop l.link-index l.links))
    ≡ link_lines l.form (map link_said l.links)
