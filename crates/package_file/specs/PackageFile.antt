-- The workbook file that is written of a package: its parts as markup, each an entry of an archive.
use Rattle.std.specs.Prelude.{ℕ, List, map}
use Rattle.std.specs.List.{flat_map}
use Rattle.part_events.specs.Words.{Event, Part}
use Rattle.markup.specs.Words.{spelled_event}
use Rattle.zip_writer.specs.Written.{File, written}

-- the bytes of a part: its events as they are spelled, one behind the other
abbrev pub part_bytes : List Event → List ℕ
part_bytes events = flat_map spelled_event events

-- the file that is written of a part: its name, and its events as they are spelled
abbrev pub part_file : Part → File
part_file part = record { name = part.name; bytes = part_bytes part.events }

-- the files that are written of parts, in order
abbrev pub part_files : List Part → List File
part_files parts = map part_file parts

-- the workbook file of a package of these parts
abbrev pub package_file : List Part → List ℕ
package_file parts = written (part_files parts)

-- the most bytes that a workbook file may have
abbrev pub longest_file : ℕ
longest_file = 268435456
