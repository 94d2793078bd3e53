use Rattle.std.proofs.Common.{◌≡◌, take}
use Rattle.part_events.specs.Words.{closed}
use Rattle.workbook_file.specs.FileParts.{file_parts}
use Rattle.workbook_file.proofs.workbook_file.WorkbookFile.into_memory.Given as goal

abbrev pub invariant-parts : goal.invariant-parts
invariant-parts l = l.held ≡ closed (take l.place (file_parts l.self-inside.archive)) 0
