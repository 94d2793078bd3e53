-- The pivot tables of the sheets of a workbook.
use Rattle.std.specs.Prelude.{ℕ, List, [], ◌∷◌, codes, Option}
use Rattle.part_events.specs.Words.{Part}
use Rattle.xlsx_error.specs.declared.error.XlsxError.{XlsxError}
use Rattle.xlsx_sections.specs.Words.{Ask}
use Rattle.xlsx_parts.specs.Words.{SheetPath}
use Rattle.looks.specs.Words.{Look, LookCause, and_then, for_each, look_ask, look_said, mapped}
use Rattle.xlsx_relationships.specs.Words.{each_related}
use Rattle.xlsx_pivots.specs.PivotErrors.{IsPivotsError}
use Rattle.xlsx_pivots.specs.PivotParts.{name_look}
use Rattle.xlsx_pivots.specs.Targets.{definitions_look, records_look}

-- the type of the relationships from a sheet to its pivot tables
abbrev pub pivot_type : List ℕ
pivot_type = codes "http://schemas.openxmlformats.org/officeDocument/2006/relationships/pivotTable"

-- a pivot table: its name and its sheet's, and the paths of the parts of its cache
pub record PivotSaid : Type 0 where
  pub name : List ℕ
  pub sheet : List ℕ
  pub definitions : List ℕ
  pub records : List ℕ

-- a pivot table by its fields
abbrev pub pivot_with : List ℕ → List ℕ → List ℕ → List ℕ → PivotSaid
pivot_with sheet name definitions records = record {
  name = name;
  sheet = sheet;
  definitions = definitions;
  records = records;
}

-- the pivot table of a name and its definitions, by where the records of these lie
abbrev pub kept_at_look : List ℕ → List ℕ → List ℕ → List ℕ → Look PivotSaid
kept_at_look folder sheet name definitions =
    mapped (pivot_with sheet name definitions) (records_look folder definitions)

-- the pivot table of a name, by where the definitions lie of the part at a path
abbrev pub named_look : List ℕ → List ℕ → List ℕ → List ℕ → Look PivotSaid
named_look folder sheet path name =
    and_then (definitions_look path) (kept_at_look folder sheet name)

-- the pivot table of the part at a path, by its own part, its relationships, and those of its
-- definitions
abbrev pub pivot_look : List ℕ → List ℕ → List ℕ → Look PivotSaid
pivot_look folder sheet path = and_then (name_look path) (named_look folder sheet path)

-- one pivot table as a list
abbrev pub one_pivot : PivotSaid → List PivotSaid
one_pivot pivot = pivot ∷ []

-- the pivot table of a part, as a list
abbrev pub one_pivot_look : List ℕ → List ℕ → List ℕ → Look (List PivotSaid)
one_pivot_look folder sheet path = mapped one_pivot (pivot_look folder sheet path)

-- the pivot tables of a sheet, in the order of its relationships
abbrev pub pivots_on_look : List ℕ → SheetPath → Look (List PivotSaid)
pivots_on_look folder sheet = each_related (one_pivot_look folder sheet.name) pivot_type sheet.path

-- the pivot tables of many sheets, one sheet after the other
abbrev pub pivots_look : List ℕ → List SheetPath → Look (List PivotSaid)
pivots_look folder sheets = for_each (pivots_on_look folder) sheets

-- the pivot tables that the parts of a package say many sheets to have
abbrev pub pivots_of : List Part → List ℕ → List SheetPath → Option (List PivotSaid)
pivots_of parts folder sheets = look_said (pivots_look folder sheets) parts

-- why the pivot tables of many sheets can't be taken, whatever the workbook's folder is
abbrev pub PivotsCause : List Part → List SheetPath → XlsxError → Type 0
PivotsCause parts sheets error = LookCause (pivots_look [] sheets) parts error

-- what is asked for the pivot tables of a sheet
abbrev pub pivots_on_ask : List ℕ → SheetPath → Ask (List PivotSaid)
pivots_on_ask folder sheet = look_ask IsPivotsError (pivots_on_look folder sheet)

-- what is asked for the pivot tables of many sheets
abbrev pub pivots_ask : List ℕ → List SheetPath → Ask (List PivotSaid)
pivots_ask folder sheets = look_ask IsPivotsError (pivots_look folder sheets)
