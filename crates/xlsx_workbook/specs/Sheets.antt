-- What the starts of sheets say, and whether the workbook counts its dates from 1904.
use Rattle.std.specs.Prelude.{ℕ, List, [], ◌∷◌, Bool, ◌||◌, if◌then◌else◌, codes, Option, Some}
use Rattle.std.specs.Prelude.{None, unwrap_or, option_map, Result, Ok, Err}
use Rattle.std.specs.Str.{bytes_eq}
use Rattle.attr_text.specs.Words.{lookup, value_of, value_of_local}
use Rattle.attr_text.specs.declared.fault.AttrFault.{AttrFault}
use Rattle.part_events.specs.Words.{Tag, Event, PlacedTag, starts_by, is_named}
use Rattle.xlsx_sections.specs.Words.{all_answers, last_answer, with_two, Refusal, plain}
use Rattle.xlsx_sections.specs.Words.{lookup_fault, unknown_state, unrelated, unknown_type}
use Rattle.xlsx_sections.specs.Words.{decoded_at}
use Rattle.xlsx_relationships.specs.Words.{last_piece, Related}
use Rattle.xlsx_workbook.specs.Paths.{sheet_part}
use Rattle.xlsx_workbook.specs.declared.sheet.SheetType.{SheetType}
use Rattle.xlsx_workbook.specs.declared.sheet.SheetType.TheVariants.{WorkSheet, ChartSheet}
use Rattle.xlsx_workbook.specs.declared.sheet.SheetType.TheVariants.{DialogSheet}
use Rattle.xlsx_workbook.specs.declared.sheet.SheetVisible.{SheetVisible}
use Rattle.xlsx_workbook.specs.declared.sheet.SheetVisible.TheVariants.{Visible, Hidden, VeryHidden}

-- a sheet of the workbook, and where its part is
pub record PlacedSheet : Type 0 where
  pub name : List ℕ
  pub typ : SheetType
  pub visible : SheetVisible
  pub path : List ℕ

-- the state that a text names; a sheet without one is visible
abbrev pub state_named : List ℕ → Option SheetVisible
state_named text =
    if bytes_eq text (codes "visible") then Some Visible
    else (if bytes_eq text (codes "hidden") then Some Hidden
    else (if bytes_eq text (codes "veryHidden") then Some VeryHidden else None))

-- the type of a sheet that a text names
abbrev pub type_named : List ℕ → Option SheetType
type_named text =
    if bytes_eq text (codes "worksheet") then Some WorkSheet
    else (if bytes_eq text (codes "chartsheet") then Some ChartSheet
    else (if bytes_eq text (codes "dialogsheet") then Some DialogSheet else None))

-- a sheet by its type, or the refusal of a type that is unknown
abbrev pub typed_sheet :
    List ℕ → SheetVisible → List ℕ → Option SheetType → Result PlacedSheet Refusal
typed_sheet name state path None = Err (plain (unknown_type path))
typed_sheet name state path (Some typ) =
    Ok (record { name = name; typ = typ; visible = state; path = path })

-- a sheet by its relationship, or the refusal that it has none
abbrev pub related_sheet :
    List ℕ → List ℕ → SheetVisible → Option Related → Result PlacedSheet Refusal
related_sheet folder name state None = Err (plain unrelated)
related_sheet folder name state (Some related) =
    typed_sheet name state (sheet_part folder related.target) (type_named (last_piece related.typ))

-- a sheet by its state, or the refusal of a state that is unknown
abbrev pub stated_sheet :
    List ℕ → (List ℕ → Option Related) → List ℕ → List ℕ → List ℕ → Option SheetVisible →
    Result PlacedSheet Refusal
stated_sheet folder related id written name None = Err (plain (unknown_state written))
stated_sheet folder related id written name (Some state) =
    related_sheet folder name state (related id)

-- a sheet, once its name is resolved
abbrev pub named_sheet :
    List ℕ → (List ℕ → Option Related) → List ℕ → List ℕ → Result (List ℕ) Refusal →
    Result PlacedSheet Refusal
named_sheet folder related id state (Ok name) =
    stated_sheet folder related id state name (state_named state)
named_sheet folder related id state (Err refusal) = Err refusal

-- a sheet, by the texts of its id, its name and its state
abbrev pub sheet_from :
    List ℕ → (List ℕ → Option Related) → ℕ → Option (List ℕ) → Option (List ℕ) →
    Option (List ℕ) → Result PlacedSheet Refusal
sheet_from folder related behind id name state =
    named_sheet folder related (unwrap_or id []) (unwrap_or state (codes "visible"))
    (decoded_at behind (unwrap_or name []))

-- a sheet, by the id that was looked up
abbrev pub identified_sheet :
    List ℕ → (List ℕ → Option Related) → ℕ → List (Option (List ℕ)) →
    Result (Option (List ℕ)) AttrFault → Result PlacedSheet Refusal
identified_sheet folder related behind values (Ok id) =
    with_two (sheet_from folder related behind id) (Err (plain unrelated)) values
identified_sheet folder related behind values (Err fault) = Err (plain (lookup_fault fault))

-- a sheet, by what was looked up at its start
abbrev pub sheet_by :
    List ℕ → (List ℕ → Option Related) → PlacedTag → Result (List (Option (List ℕ))) AttrFault →
    Result PlacedSheet Refusal
sheet_by folder related start (Ok values) =
    identified_sheet folder related start.behind values
    (value_of_local (codes "id") start.tag.attributes)
sheet_by folder related start (Err fault) = Err (plain (lookup_fault fault))

-- the sheet of a start, in the folder of its workbook and by the workbook's relationships
abbrev pub sheet_of :
    List ℕ → (List ℕ → Option Related) → PlacedTag → Result PlacedSheet Refusal
sheet_of folder related start =
    sheet_by folder related start
    (lookup (codes "name" ∷ codes "state" ∷ []) start.tag.attributes)

-- a start of the element `sheet`, a sheet of the workbook
abbrev pub is_sheet : Tag → Bool
is_sheet tag = is_named (codes "sheet" ∷ []) tag

-- the sheets of a workbook's section, in order
abbrev pub sheets_in :
    List ℕ → (List ℕ → Option Related) → List Event → Result (List PlacedSheet) Refusal
sheets_in folder related inside =
    all_answers (sheet_of folder related) (starts_by is_sheet inside)

-- a text is `1` or `true`
abbrev pub is_true_text : List ℕ → Bool
is_true_text text = bytes_eq text (codes "1") || bytes_eq text (codes "true")

-- whether dates count from 1904, by what was looked up
abbrev pub epoch_by : Result (Option (List ℕ)) AttrFault → Result (Option Bool) Refusal
epoch_by (Ok value) = Ok (option_map is_true_text value)
epoch_by (Err fault) = Err (plain (lookup_fault fault))

-- whether a start says that dates count from 1904
abbrev pub epoch_of : PlacedTag → Result (Option Bool) Refusal
epoch_of start = epoch_by (value_of (codes "date1904") start.tag.attributes)

-- a start of the element `workbookPr`, which tells the properties of the workbook
abbrev pub is_properties : Tag → Bool
is_properties tag = is_named (codes "workbookPr" ∷ []) tag

-- whether dates count from 1904, by the last start that tells the properties of the workbook and
-- says so
abbrev pub epoch_in : List Event → Result (Option Bool) Refusal
epoch_in inside = last_answer epoch_of (starts_by is_properties inside)
