-- The workbook's own part, as it is written, has one sheet of its name, and counts its dates as its
-- values do.
use Rattle.std.proofs.Common.{◌≡◌, ℕ, Bool, true, false, List, [], ◌∷◌, ◌++◌, Some, None, Option}
use Rattle.std.proofs.Common.{Ok, refl, sym, ap, ◌∙◌, append-nil}
use Rattle.std.specs.Prelude.{codes, if◌then◌else◌}
use Rattle.attr_text.specs.Words.{lookup, value_of, value_of_local}
use Rattle.part_events.specs.Words.{Event, part_of, PlacedTag}
use Rattle.written_markup.specs.Words.{element, attribute, IsNested, none, attributes_of}
use Rattle.written_markup.specs.Words.{AreWritablePairs, encoded}
use Rattle.written_markup.proofs.Nested.{nested_element, nested_in_row}
use Rattle.written_markup.proofs.PairsReadBack.{lookup_written, value_written, local_value_written}
use Rattle.written_markup.proofs.TextsReadBack.{decoded_encoded, encoded_without_quote}
use Rattle.std.specs.List.{list_any}
use Rattle.xlsx_sections.specs.Words.{and_others, closed_section, decoded_or}
use Rattle.xlsx_relationships.specs.Words.{Related}
use Rattle.xlsx_workbook.specs.Words.{names_in, workbook_part, PlacedSheet, sheets_in, sheet_of}
use Rattle.xlsx_workbook.specs.Words.{sheet_by, epoch_in, identified_sheet, named_sheet}
use Rattle.xlsx_open.specs.Words.{Opening, HasWorkbook, epoch_or_1900, SharedSaid}
use Rattle.xlsx_writer.specs.Words.{PlacedFormulas, PlacedValues, workbook_markup, is_from_1904}
use Rattle.xlsx_writer.specs.Words.{workbook_attributes}
use Rattle.xlsx_writer.specs.WrittenSheet.{written_parts}
use Rattle.xlsx_writer.specs.declared.form.WrittenForm.{WrittenForm}
use Rattle.xlsx_writer.specs.declared.form.WrittenForm.TheVariants.{PackageText, WorkbookFile}
use Rattle.xlsx_workbook.specs.declared.sheet.SheetType.TheVariants.{WorkSheet}
use Rattle.xlsx_workbook.specs.declared.sheet.SheetVisible.TheVariants.{Visible}
use Rattle.round_trip.proofs.RootsRead.{root_read, written_related, sheet_related, leads_to_sheet}

-- the sheet of the workbook, by its name
abbrev pub written_sheet : List ℕ → PlacedSheet
written_sheet name = record {
  name = name;
  typ = WorkSheet;
  visible = Visible;
  path = codes "xl/worksheets/sheet1.xml";
}

-- the workbook's dates count from 1904: some time does
abbrev pub written_epoch : PlacedValues → Bool
written_epoch values = list_any (λ entry. is_from_1904 entry.1) values

-- the attributes of the sheet in the workbook's list, as pairs
abbrev sheet_pairs : List ℕ → List (List ℕ × List ℕ)
sheet_pairs name =
    (codes "name", encoded name) ∷ (codes "sheetId", codes "1") ∷ (codes "r:id", codes "rId1") ∷ []

-- the attributes of the sheet as they are written
abbrev sheet_attributes : List ℕ → List ℕ
sheet_attributes name =
    attribute (codes "name") (encoded name)
    ++ (attribute (codes "sheetId") (codes "1") ++ attribute (codes "r:id") (codes "rId1"))

sheet_attributes_are : (name : List ℕ) → sheet_attributes name ≡ attributes_of (sheet_pairs name)
sheet_attributes_are name =
    ap (λ (bytes : List ℕ). attribute (codes "name") (encoded name)
    ++ (attribute (codes "sheetId") (codes "1") ++ bytes))
    (sym (append-nil (attribute (codes "r:id") (codes "rId1"))))

sheet_pairs_writable : (name : List ℕ) → AreWritablePairs (sheet_pairs name)
sheet_pairs_writable name = (
  record { key = refl; value = encoded_without_quote name },
  (record { key = refl; value = refl }, (record { key = refl; value = refl }, tt)),
)

-- the list of the one sheet
abbrev sheets_element : List ℕ → List Event
sheets_element name =
    element (codes "sheets") [] (element (codes "sheet") (sheet_attributes name) [])

-- what tells that dates count from 1904, where they do
abbrev epoch_events : Bool → List Event
epoch_events epoch =
    if epoch then element (codes "workbookPr") (attribute (codes "date1904") (codes "1")) [] else []

-- what stands in the workbook's section
abbrev workbook_inside : Bool → List ℕ → List Event
workbook_inside epoch name = epoch_events epoch ++ sheets_element name

-- the start of the sheet
abbrev sheet_start : List ℕ → PlacedTag
sheet_start name = record {
  tag = record { name = codes "sheet"; attributes = sheet_attributes name };
  behind = 2;
}

inside_nested : (epoch : Bool) (name : List ℕ) → IsNested (workbook_inside epoch name)
inside_nested epoch name =
    nested_in_row (epoch_events epoch) (sheets_element name) (told epoch)
    (nested_element (codes "sheets") [] (element (codes "sheet") (sheet_attributes name) [])
    (nested_element (codes "sheet") (sheet_attributes name) [] none)) where
      told : (epoch : Bool) → IsNested (epoch_events epoch)
      told true =
          nested_element (codes "workbookPr") (attribute (codes "date1904") (codes "1")) [] none
      told false = none

-- ---- the sheet

-- the workbook's folder
abbrev folder : List ℕ
folder = codes "xl/"

sheet_identified : (related : List ℕ → Option Related) →
    related (codes "rId1") ≡ Some sheet_related → (name : List ℕ) →
    sheet_of folder related (sheet_start name) ≡ Ok (written_sheet name)
sheet_identified related leads name =
    let keys = codes "name" ∷ codes "state" ∷ [] in
    let pairs = sheet_pairs name in
    ap (λ found. sheet_by folder related (sheet_start name) found)
    (ap (lookup keys) (sheet_attributes_are name)
    ∙ lookup_written keys pairs (sheet_pairs_writable name))
    ∙ ap (identified_sheet folder related 2 (Some (encoded name) ∷ None ∷ []))
    (ap (value_of_local (codes "id")) (sheet_attributes_are name)
    ∙ local_value_written (codes "id") pairs (sheet_pairs_writable name))
    ∙ ap (λ own. named_sheet folder related (codes "rId1") (codes "visible")
    (decoded_or 2 own)) (decoded_encoded name)
    ∙ (rw leads refl)

sheets_found : (related : List ℕ → Option Related) →
    related (codes "rId1") ≡ Some sheet_related → (epoch : Bool) (name : List ℕ) →
    sheets_in folder related (workbook_inside epoch name) ≡ Ok (written_sheet name ∷ [])
sheets_found related leads true name =
    ap (λ found. and_others found (Ok [])) (sheet_identified related leads name)
sheets_found related leads false name =
    ap (λ found. and_others found (Ok [])) (sheet_identified related leads name)

names_none : (epoch : Bool) (name : List ℕ) → names_in (workbook_inside epoch name) ≡ Ok []
names_none true name = refl
names_none false name = refl

-- ---- the first year

told_epoch : value_of (codes "date1904") (attribute (codes "date1904") (codes "1"))
    ≡ Ok (Some (codes "1"))
told_epoch =
    let pairs : List (List ℕ × List ℕ) = (codes "date1904", codes "1") ∷ [] in
    ap (value_of (codes "date1904"))
    (sym (append-nil (attribute (codes "date1904") (codes "1"))))
    ∙ value_written (codes "date1904") pairs (record { key = refl; value = refl }, tt)

epoch_found : (epoch : Bool) (name : List ℕ)
    → epoch_or_1900 (epoch_in (workbook_inside epoch name)) ≡ Ok epoch
epoch_found true name = rw told_epoch refl
epoch_found false name = refl

-- ---- the part

own_found : (form : WrittenForm) (name : List ℕ) (values : PlacedValues) (formulas : PlacedFormulas)
    → part_of (written_parts form name values formulas) (workbook_part (codes "xl/workbook.xml"))
    ≡ Some (workbook_markup form name values)
unfolding written_parts
own_found PackageText name values formulas = refl
own_found WorkbookFile name values formulas = refl

workbook_section : (form : WrittenForm) (name : List ℕ) (values : PlacedValues)
    → closed_section (codes "workbook") (workbook_markup form name values)
    ≡ Some (workbook_inside (written_epoch values) name)
workbook_section form name values =
    root_read (codes "workbook") (workbook_attributes form)
    (workbook_inside (written_epoch values) name) (inside_nested (written_epoch values) name) refl

-- what a written package opens as, where its sheets share this
abbrev pub opening_of : List ℕ → PlacedValues → SharedSaid → Opening
opening_of name values shared = record {
  sheets = written_sheet name ∷ [];
  names = [];
  shared = shared;
  is_1904 = written_epoch values;
}

-- the workbook's own part says the sheet and the first year
pub workbook_is_read : (form : WrittenForm) (name : List ℕ) (values : PlacedValues)
    (formulas : PlacedFormulas) (shared : SharedSaid)
    → HasWorkbook (written_parts form name values formulas) (codes "xl/workbook.xml")
    (written_related form) (opening_of name values shared)
workbook_is_read form name values formulas shared =
    rw (own_found form name values formulas, workbook_section form name values)
    (record {
      sheets = sheets_found (written_related form) (leads_to_sheet form)
          (written_epoch values) name;
      names = names_none (written_epoch values) name;
      epoch = epoch_found (written_epoch values) name;
    })
