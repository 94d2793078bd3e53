-- What `props` prints of a workbook that opens, and why it can't.
use Rattle.std.specs.Prelude.{◌≡◌, ◌⊎◌, ℕ, List, [], ◌++◌, Option, Some, None}
use Rattle.std.specs.BTreeMap.{is_at}
use Rattle.std.specs.Cmp.Lexicographic.{slice_cmp}
use Rattle.std.specs.List.{flat_map}
use Rattle.std.specs.List.Sorted.{IsStrictlySortedBy}
use Rattle.std.specs.Map.{keys_of, lookup}
use Rattle.std.specs.Ordering.{nat_cmp}
use Rattle.part_events.specs.Words.{Part}
use Rattle.list_lines.specs.Lines.{property_line, custom_line}
use Rattle.list_lines.specs.declared.content.LineForm.{LineForm}
use Rattle.xlsx_error.specs.declared.error.XlsxError.{XlsxError}
use Rattle.looks.specs.Words.{look_said}
use Rattle.xlsx_properties.specs.Kept.{properties_kept}
use Rattle.xlsx_properties.specs.Parts.{PropertiesCause, properties_look, properties_with}
use Rattle.xlsx_properties.specs.Property.{named_properties}
use Rattle.xlsx_properties.specs.declared.property.Property.{Property}
use Rattle.xlsx_properties.specs.declared.workbook_properties.WorkbookProperties.{
  WorkbookProperties,
}
use Rattle.xlsx_open.specs.Words.{OpensSoundly, OpeningCause}

-- the text of a name among names with their texts
abbrev pub text_of_name : List (List ℕ × List ℕ) → List ℕ → Option (List ℕ)
text_of_name customs name = lookup (is_at (slice_cmp nat_cmp name)) customs

-- the names of properties rise, byte by byte
abbrev pub AreByName : List (List ℕ × List ℕ) → Type 0
AreByName customs = IsStrictlySortedBy (slice_cmp nat_cmp) (keys_of customs)

-- the line of a property, where the workbook says its text
abbrev pub line_if_said : LineForm → List ℕ → Option (List ℕ) → List ℕ
line_if_said form name None = []
line_if_said form name (Some text) = property_line form name text

-- a line for each of these properties that the workbook says
abbrev pub lines_said :
    LineForm → (Property → Option (List ℕ)) → List (List ℕ × Property) → List ℕ
lines_said form texts all = flat_map (λ own. line_if_said form own.0 (texts own.1)) all

-- a line for each property that the workbook says, in the order in which they are listed
abbrev pub property_lines : LineForm → (Property → Option (List ℕ)) → List ℕ
property_lines form texts = lines_said form texts named_properties

-- a line for each property that users named
abbrev pub custom_lines : LineForm → List (List ℕ × List ℕ) → List ℕ
custom_lines form customs = flat_map (λ own. custom_line form own.0 own.1) customs

-- the workbook opens, and these are the properties that its parts say
pub record HasProperties (parts : List Part) (kept : WorkbookProperties) : Type 0 where
  pub opens : OpensSoundly parts
  pub say : look_said properties_look parts ≡ Some (properties_kept kept)

-- the workbook opens, and these are the lines of its properties
pub record ArePropertyLines (form : LineForm) (parts : List Part) (lines : List ℕ) : Type 0 where
  pub texts : Property → Option (List ℕ)
  pub customs : List (List ℕ × List ℕ)
  pub opens : OpensSoundly parts
  pub say :
      look_said properties_look parts ≡ Some (properties_with texts (text_of_name customs))
  pub by_name : AreByName customs
  pub listed : lines ≡ property_lines form texts ++ custom_lines form customs

-- why the properties of a workbook aren't listed
abbrev pub ListedPropertiesCause : List Part → XlsxError → Type 0
ListedPropertiesCause parts error =
    OpeningCause parts error ⊎ (OpensSoundly parts × PropertiesCause parts error)
