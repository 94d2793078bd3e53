use Rattle.std.proofs.Common.{◌≡◌, true}
use Rattle.std.specs.Arc.{arc_str_bytes}
use Rattle.part_events.specs.Words.{section_ahead}
use Rattle.xlsx_sections.specs.Words.{KeepsSection}
use Rattle.xlsx_relationships.specs.Words.{related_by_id}
use Rattle.xlsx_workbook.proofs.Contents.{KeepsContents}
use Rattle.xlsx_workbook.proofs.workbook.contents_in.Given as goal

abbrev pub invariant-events : goal.invariant-events
invariant-events g l =
    let old = l.fn.xml in
    let now = l.xml in
    let related = related_by_id l.places.relationships.now in
    record {
      section : KeepsSection l.base old now;
      keeps :
          old.source.is_visible ≡ true →
          KeepsContents (arc_str_bytes l.places.folder.now) related
          (section_ahead l.base old) l.found
          (section_ahead l.base now);
    }

abbrev pub decreases-events : goal.decreases-events
decreases-events g l = l.xml.source.left
