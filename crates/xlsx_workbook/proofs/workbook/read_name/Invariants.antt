use Rattle.std.proofs.Common.{◌≡◌, length, true, string_bytes}
use Rattle.std.specs.Prelude.{is_some}
use Rattle.std.specs.Arc.{arc_str_bytes}
use Rattle.part_events.specs.Words.{ahead, content, behind, section_ahead, behind_section}
use Rattle.xlsx_sections.specs.Words.{KeepsSection}
use Rattle.xlsx_relationships.specs.Words.{related_by_id}
use Rattle.xlsx_workbook.specs.Workbook.{KeepsSheets, names_of}
use Rattle.xlsx_workbook.proofs.Contents.{JoinsText}
use Rattle.xlsx_workbook.proofs.workbook.read_name.Given as goal

abbrev pub invariant-events : goal.invariant-events
invariant-events g l =
    let old = l.fn.xml in
    let now = l.xml in
    let related = related_by_id l.places.relationships.now in
    record {
      section : KeepsSection l.base old now;
      element : KeepsSection l.depth old now;
      depth : l.depth ≡ length old.names;
      own : l.name ≡ l.fn.name;
      wanted : l.wanted ≡ is_some l.name;
      names : names_of l.found ≡ names_of l.fn.found;
      scopes : l.found.scopes ≡ l.fn.found.scopes;
      sheets :
          old.source.is_visible ≡ true →
          KeepsSheets (arc_str_bytes l.places.folder.now) related l.fn.found
          (section_ahead l.base old) l.found
          (section_ahead l.base now);
      text :
          old.source.is_visible ≡ true → l.wanted ≡ true →
          JoinsText (content 0 (ahead old)) (string_bytes l.text) (section_ahead l.depth now);
      behind : old.source.is_visible ≡ true → behind_section l.depth now ≡ behind 0 (ahead old);
    }

abbrev pub decreases-events : goal.decreases-events
decreases-events g l = l.xml.source.left
