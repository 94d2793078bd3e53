-- The relationships of a written package lead to its workbook, and those of the workbook to its
-- sheet.
use Rattle.std.proofs.Common.{◌≡◌, ℕ, List, Option, Some, refl, sym, ap, ◌∙◌, subst}
use Rattle.std.specs.Prelude.{Ok, codes, IsSomeAnd}
use Rattle.xlsx_relationships.specs.Words.{path_in, related_in}
use Rattle.std.specs.Option.{option_and_then}
use Rattle.part_events.specs.Words.{Event, Part, part_of}
use Rattle.xlsx_sections.specs.Words.{closed_section, closed_section_of}
use Rattle.xlsx_workbook.specs.Words.{relationships_part}
use Rattle.xlsx_open.specs.Words.{HasPath, HasRelationships}
use Rattle.xlsx_writer.specs.Words.{PlacedFormulas, PlacedValues, root_events, related_events}
use Rattle.xlsx_writer.specs.Words.{sheet_markup, to_workbook}
use Rattle.xlsx_writer.specs.WrittenSheet.{written_parts}
use Rattle.xlsx_writer.specs.declared.form.WrittenForm.{WrittenForm}
use Rattle.xlsx_writer.specs.declared.form.WrittenForm.TheVariants.{PackageText, WorkbookFile}
use Rattle.round_trip.proofs.RootsRead.{relationships_read, root_nested, workbook_listed}
use Rattle.round_trip.proofs.RootsRead.{listed_nested, written_related, related_read, path_read}

-- what holds of what stands in a section, holds of the section of the part
pub found_section : (P : List Event → Type 0) (section path : List ℕ) (parts : List Part)
    (events inside : List Event) → part_of parts path ≡ Some events
    → closed_section section events ≡ Some inside → P inside
    → IsSomeAnd (closed_section_of section path parts) P
found_section P section path parts events inside found stands holds =
    subst (λ (own : Option (List Event)). IsSomeAnd own P)
    (sym (ap (option_and_then (closed_section section)) found ∙ stands)) holds

module _ (name : List ℕ) (values : PlacedValues) (formulas : PlacedFormulas) where
  root_found : (form : WrittenForm) →
      part_of (written_parts form name values formulas) (codes "_rels/.rels")
      ≡ Some (root_events form)
  unfolding written_parts
  root_found PackageText = refl
  root_found WorkbookFile = refl

  -- the package's relationships lead to the workbook
  pub path_is_found : (form : WrittenForm) →
      HasPath (written_parts form name values formulas) (codes "xl/workbook.xml")
  path_is_found form =
      found_section (λ inside. path_in inside ≡ Ok (Some (codes "xl/workbook.xml")))
      (codes "Relationships") (codes "_rels/.rels") (written_parts form name values formulas)
      (root_events form) to_workbook (root_found form)
      (relationships_read form to_workbook root_nested) path_read

  beside_found : (form : WrittenForm) →
      part_of (written_parts form name values formulas)
      (relationships_part (codes "xl/workbook.xml"))
      ≡ Some (related_events form)
  unfolding written_parts
  beside_found PackageText = refl
  beside_found WorkbookFile = refl

  -- the workbook's relationships lead to the sheet
  pub relationships_are_found : (form : WrittenForm) →
      HasRelationships (written_parts form name values formulas) (codes "xl/workbook.xml")
      (written_related form)
  relationships_are_found form =
      found_section (λ inside. (id : List ℕ) → related_in inside id
      ≡ Ok (written_related form id))
      (codes "Relationships") (relationships_part (codes "xl/workbook.xml"))
      (written_parts form name values formulas) (related_events form) (workbook_listed form)
      (beside_found form) (relationships_read form (workbook_listed form) (listed_nested form))
      (related_read form)

  -- the sheet has its part
  pub sheet_part_is_found : (form : WrittenForm) →
      part_of (written_parts form name values formulas) (codes "xl/worksheets/sheet1.xml")
      ≡ Some (sheet_markup form values formulas)
  unfolding written_parts
  sheet_part_is_found PackageText = refl
  sheet_part_is_found WorkbookFile = refl
