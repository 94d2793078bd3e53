use Rattle.std.proofs.Common.{◌≡◌, true}
use Rattle.part_events.specs.Words.{starts_by, section_ahead}
use Rattle.xlsx_sections.specs.Words.{KeepsStarts}
use Rattle.xlsx_formats.specs.FormatCodes.{is_number_format}
use Rattle.xlsx_formats.proofs.CodesRead.{KeepsCodes}
use Rattle.xlsx_formats.proofs.number_formats.read_number_formats.Given as goal

abbrev pub invariant-starts : goal.invariant-starts
invariant-starts g l =
    let old = l.fn.xml in
    let now = l.xml in
    record {
      keeps : KeepsStarts l.base old now;
      codes_kept :
          old.source.is_visible ≡ true →
          KeepsCodes (starts_by is_number_format (section_ahead l.base old))
          (starts_by is_number_format (section_ahead l.base now)) l.fn.kept l.kept;
    }

abbrev pub decreases-starts : goal.decreases-starts
decreases-starts g l = l.xml.source.left
