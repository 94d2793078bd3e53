-- Where each command looks in a package, and packages that have the same parts there.
use Rattle.std.specs.Prelude.{◌≡◌, ⊤, ℕ, List, [], ◌∷◌, Option, Some, codes, Bool, true, false}
use Rattle.part_events.specs.Words.{Part}
use Rattle.xlsx_parts.specs.Words.{SheetPath, sheet_at}
use Rattle.looks.specs.Words.{HaveSameLook}
use Rattle.xlsx_properties.specs.Parts.{properties_look}
use Rattle.xlsx_workbook.specs.Words.{workbook_part, relationships_part, strings_part, styles_part}
use Rattle.xlsx_workbook.specs.Words.{theme_part}
use Rattle.xlsx_tables.specs.Tables.{tables_look, SheetTable}
use Rattle.xlsx_pivots.specs.Words.{pivots_on_look}
use Rattle.xlsx_open.specs.Words.{Opening, OpensAs, HasPath}
use Rattle.xlsx_core.specs.Words.{HaveSamePart, HaveSameSheet, path_named, placed_links_look}
use Rattle.xlsx_commands.specs.Words.{HasCache, Command, cells, sheets, names, merges, links, props}
use Rattle.xlsx_commands.specs.Words.{csv, csv_table, tables, table, pivots, pivot, precedents}
use Rattle.xlsx_commands.specs.Words.{dependents, check, part, upgrade, resave, sample, comments}
use Rattle.xlsx_commands.specs.Words.{resave_file, json_rows, table_objects, all_dependents}
use Rattle.xlsx_commands.specs.Words.{workbook_graph, sample_name, sheets_opened, HasNamedTable}
use Rattle.xlsx_commands.specs.Words.{NamedLook, OpensAt, named_comments, named_widths, widths}

-- a fact of each of a list
abbrev pub Each : {X : Type 0} → (X → Type 0) → List X → Type 0
Each fact [] = ⊤
Each fact (x ∷ xs) = fact x × Each fact xs

-- two packages have the same workbook at this path, with the same relationships, shared strings and
-- styles, whatever their themes are
pub record HaveSameContents (one two : List Part) (path : List ℕ) : Type 0 where
  pub relationships : HaveSamePart one two (relationships_part path)
  pub workbook : HaveSamePart one two (workbook_part path)
  pub strings : HaveSamePart one two (strings_part path)
  pub styles : HaveSamePart one two (styles_part path)

-- two packages have the same parts from which the workbook is opened: the relationships of the
-- package, and the book to which these lead; a theme gives styles their colors alone, and never
-- refuses
pub record HaveSameOpening (one two : List Part) : Type 0 where
  pub root : HaveSamePart one two (codes "_rels/.rels")
  pub book : (path : List ℕ) → HasPath one path → HaveSameContents one two path

-- two packages have the same parts from which the workbook is opened, and the same part of the
-- sheet of this name, whose values and formulas are so the same
pub record HaveSameCells (one two : List Part) (name : List ℕ) : Type 0 where
  pub opening : HaveSameOpening one two
  pub sheet :
      (opening : Opening) (path : List ℕ) → OpensAs one opening →
      path_named name opening.sheets ≡ Some path → HaveSamePart one two path

-- two packages have the same parts that tell where the parts of sheets are
pub record HaveSamePlaceParts (one two : List Part) : Type 0 where
  pub root : HaveSamePart one two (codes "_rels/.rels")
  pub relationships :
      (path : List ℕ) → HasPath one path → HaveSamePart one two (relationships_part path)
  pub workbook : (path : List ℕ) → HasPath one path → HaveSamePart one two (workbook_part path)

-- two packages have the same parts from which the workbook is opened, and the same where a look at
-- the sheet of this name goes
pub record HaveSameNamedLook {A : Type 0} (look : NamedLook A) (one two : List Part) (name : List ℕ)
    : Type 0 where
  pub opening : HaveSameOpening one two
  pub parts :
      (path : Option (List ℕ)) → OpensAt one name path → HaveSameLook (look name path) one two

-- two packages have the same parts of properties: the core part, the program's and the users' own
abbrev pub HaveSameProperties : List Part → List Part → Type 0
HaveSameProperties one two = HaveSameLook properties_look one two

-- two packages have the same parts of the tables of the sheet at this path
abbrev pub HaveSameTables : List Part → List Part → List ℕ → Type 0
HaveSameTables one two path = HaveSameLook (tables_look path) one two

-- two packages have the same pivot tables of the sheet at this path; where these are looked up goes
-- neither by the folder of the workbook nor by the sheet's name
abbrev pub HaveSamePivots : List Part → List Part → List ℕ → Type 0
HaveSamePivots one two path = HaveSameLook (pivots_on_look [] (sheet_at [] path)) one two

-- a fact of the path of each sheet's part
abbrev pub OfEachSheet : (List ℕ → Type 0) → List Part → Type 0
OfEachSheet same parts =
    (opening : Opening) → OpensAs parts opening →
    Each (λ (sheet : SheetPath). same sheet.path) (sheets_opened opening.sheets)

-- two packages have the same tables, and the same part of each sheet, whose formulas are so the
-- same
pub record HaveSameGraph (one two : List Part) : Type 0 where
  pub opening : HaveSameOpening one two
  pub tables : OfEachSheet (HaveSameTables one two) one
  pub sheets : OfEachSheet (HaveSamePart one two) one

-- two packages have the same part of the sheet on which the first table of this name stands
abbrev pub HaveSameTableSheet : List Part → List Part → List ℕ → Type 0
HaveSameTableSheet one two name =
    (own : SheetTable) (opening : Opening) (path : List ℕ) → HasNamedTable one name own →
    OpensAs one opening → path_named own.sheet opening.sheets ≡ Some path →
    HaveSamePart one two path

-- two packages have the same tables, and the same data of the first of this name
pub record HaveSameTableData (one two : List Part) (name : List ℕ) : Type 0 where
  pub opening : HaveSameOpening one two
  pub tables : OfEachSheet (HaveSameTables one two) one
  pub sheet : HaveSameTableSheet one two name

-- two packages have the same theme of their workbook, by which styles are told
abbrev pub HaveSameTheme : List Part → List Part → Type 0
HaveSameTheme one two =
    (path : List ℕ) → HasPath one path → HaveSamePart one two (theme_part path)

-- two packages have the same data of the first table of this name, as they are read or as they are
-- shown
abbrev pub HaveSameTableRows : Bool → List Part → List Part → List ℕ → Type 0
HaveSameTableRows false one two name = HaveSameTableData one two name
HaveSameTableRows true one two name = HaveSameTableData one two name × HaveSameTheme one two

-- two packages have the same definitions and records of the first pivot table of this name on a
-- sheet of that name
pub record HaveSameCache (one two : List Part) (sheet name : List ℕ) : Type 0 where
  pub opening : HaveSameOpening one two
  pub pivots : OfEachSheet (HaveSamePivots one two) one
  pub cache :
      (definitions records : List ℕ) → HasCache one sheet name definitions records →
      HaveSamePart one two definitions × HaveSamePart one two records

-- two packages have the same parts from which the values of the sheet of this name are read, or
-- shown
abbrev pub HaveSameRows : Bool → List Part → List Part → List ℕ → Type 0
HaveSameRows false one two name = HaveSameCells one two name
HaveSameRows true one two name = HaveSameSheet one two name

-- Two packages have the same parts where a command looks. Other parts, and the order of all, may
-- differ, and so may the theme but where the colors of styles are told.
unfoldable pub HaveSameFootprint : Command → List Part → List Part → Type 0
HaveSameFootprint (cells form name) one two = HaveSameSheet one two name
HaveSameFootprint (sheets form) one two = HaveSameOpening one two
HaveSameFootprint (names form) one two = HaveSameOpening one two
HaveSameFootprint (merges form name) one two = HaveSameCells one two name
HaveSameFootprint (links form name) one two = HaveSameNamedLook placed_links_look one two name
HaveSameFootprint (comments form name) one two = HaveSameNamedLook named_comments one two name
HaveSameFootprint (widths form name) one two = HaveSameNamedLook named_widths one two name
HaveSameFootprint (props form) one two = HaveSameOpening one two × HaveSameProperties one two
HaveSameFootprint (csv name asked) one two = HaveSameRows asked.shown one two name
HaveSameFootprint (csv_table name asked) one two = HaveSameTableRows asked.shown one two name
HaveSameFootprint (json_rows name asked) one two = HaveSameRows asked.shown one two name
HaveSameFootprint (table_objects name options) one two = HaveSameTableData one two name
HaveSameFootprint (tables form) one two =
    HaveSameOpening one two × OfEachSheet (HaveSameTables one two) one
HaveSameFootprint (table name) one two = HaveSameTableData one two name
HaveSameFootprint (pivots form) one two =
    HaveSameOpening one two × OfEachSheet (HaveSamePivots one two) one
HaveSameFootprint (pivot sheet name) one two = HaveSameCache one two sheet name
HaveSameFootprint (precedents name) one two = HaveSameCells one two name
HaveSameFootprint (dependents name position) one two = HaveSameCells one two name
HaveSameFootprint (all_dependents name position) one two = HaveSameGraph one two
HaveSameFootprint (workbook_graph list) one two = HaveSameGraph one two
HaveSameFootprint (check name) one two = HaveSameCells one two name
HaveSameFootprint (part name) one two = HaveSameOpening one two
HaveSameFootprint upgrade one two = one ≡ two
HaveSameFootprint (resave name) one two = HaveSameCells one two name
HaveSameFootprint (resave_file name) one two = HaveSameCells one two name
HaveSameFootprint (sample rows) one two = HaveSameSheet one two sample_name
