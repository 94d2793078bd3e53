-- What is written step by step: the formulas with how they are written, and the rows of positions.
use Rattle.std.specs.Prelude.{◌≡◌, ◌⊎◌, ℕ, ◌<◌, ◌==◌, Bool, true, false, if◌then◌else◌, List, []}
use Rattle.std.specs.Prelude.{◌∷◌, ◌++◌, codes, map, drop, Option, Some, None}
use Rattle.std.specs.FinMap.{find}
use Rattle.std.specs.List.{flat_map}
use Rattle.std.specs.Option.{option_map, unwrap_or}
use Rattle.cell_refs.specs.Words.{position_cmp, row_reference}
use Rattle.cell_refs.specs.declared.TheConstants.{MAX_ROWS, MAX_COLUMNS}
use Rattle.cell_data.specs.Words.{CellValue, nothing, value_of_data, none_earlier, IsOfFirst}
use Rattle.cell_data.specs.Words.{positions_alone, positions_of}
use Rattle.cell_data.specs.declared.value.Data.{Data}
use Rattle.part_events.specs.Words.{Event, start, end}
use Rattle.written_markup.specs.Words.{element, attribute}
use Rattle.xlsx_writer.specs.Groups.{PlacedFormulas, WrittenFormula, plain, master, derived}
use Rattle.xlsx_writer.specs.Groups.{written_formula}
use Rattle.xlsx_writer.specs.WrittenSheet.{PlacedValues, value_events, cell_attributes}
use Rattle.xlsx_writer.specs.WrittenSheet.{formula_events, SheetRow, in_rows}
use Rattle.xlsx_writer.specs.declared.form.WrittenForm.{WrittenForm}
use Rattle.xlsx_writer.specs.declared.groups.FormulaForm.{FormulaForm}
use Rattle.xlsx_writer.specs.declared.groups.FormulaForm.TheVariants as form
use Rattle.xlsx_writer.specs.declared.groups.GroupedFormula.{GroupedFormula}
use Rattle.xlsx_writer.specs.declared.sheet.FormsLeft.{FormsLeft}

-- formulas by their positions, each as it is written
abbrev pub PlacedForms : Type 0
PlacedForms = List ((ℕ × ℕ) × WrittenFormula)

-- a formula of this text as it is written
abbrev pub written_as : FormulaForm → List ℕ → WrittenFormula
written_as form.Plain text = plain text
written_as (form.Master last index) text = master text last index
written_as (form.Derived index) text = derived index

-- a formula as it was found to be written
abbrev pub written_of : GroupedFormula → WrittenFormula
written_of formula = written_as formula.form formula.text.now

-- a formula as it was found to be written, by its position
abbrev pub form_entry : GroupedFormula → (ℕ × ℕ) × WrittenFormula
form_entry formula = (formula.position, written_of formula)

-- the last row of a group stands on a sheet
abbrev pub IsLastInSheet : FormulaForm → Type 0
IsLastInSheet (form.Master last index) = last < MAX_ROWS
IsLastInSheet form.Plain = Unit {0}
IsLastInSheet (form.Derived index) = Unit {0}

-- the last row of a formula's group stands on a sheet
abbrev pub IsFormInSheet : GroupedFormula → Type 0
IsFormInSheet formula = IsLastInSheet formula.form

-- formulas as they were found to be written, by their positions
abbrev pub form_entries : List GroupedFormula → PlacedForms
form_entries formulas = map form_entry formulas

-- the formulas that are left to write
abbrev pub left_of : FormsLeft → List GroupedFormula
left_of forms = drop forms.next forms.all.now

-- the formulas that are left to write, by their positions
abbrev pub forms_left : FormsLeft → PlacedForms
forms_left forms = form_entries (left_of forms)

-- each of the formulas as it is written
abbrev pub placed_forms : WrittenForm → PlacedFormulas → PlacedForms
placed_forms form formulas =
    map (λ entry. (entry.0, written_formula form formulas entry.0 entry.1)) formulas

-- the value that was given for a cell, or nothing
abbrev pub value_to_write : Option Data → CellValue
value_to_write value = unwrap_or (option_map value_of_data value) nothing

-- the `f` of a cell, where it has a formula
abbrev pub given_formula : ℕ × ℕ → Option WrittenFormula → List Event
given_formula position None = []
given_formula position (Some formula) = formula_events position formula

-- the cell of a position with its value, and its formula as it is written
abbrev pub cell_to_write : WrittenForm → ℕ × ℕ → CellValue → Option WrittenFormula → List Event
cell_to_write form position value formula =
    element (codes "c") (cell_attributes position value)
    (given_formula position formula ++ value_events form value)

-- the cell of a position among values and formulas
abbrev pub cell_among : WrittenForm → PlacedValues → PlacedForms → ℕ × ℕ → List Event
cell_among form values forms position =
    cell_to_write form position (unwrap_or (find position_cmp position values) nothing)
    (find position_cmp position forms)

-- the positions of values and formulas, each once, row by row
abbrev pub positions_among : PlacedValues → PlacedForms → List (ℕ × ℕ)
positions_among values forms = positions_of (positions_alone values ++ positions_alone forms)

-- the first positions, as long as they stand in this row
abbrev pub row_front : ℕ → List (ℕ × ℕ) → List (ℕ × ℕ)
row_front row [] = []
row_front row (position ∷ positions) =
    if position.0 == row then position ∷ row_front row positions else []

-- the positions behind the first ones that stand in this row
abbrev pub row_behind : ℕ → List (ℕ × ℕ) → List (ℕ × ℕ)
row_behind row [] = []
row_behind row (position ∷ positions) =
    if position.0 == row then row_behind row positions else position ∷ positions

-- the start of the element `row` of a row of this number
abbrev pub row_start : ℕ → List Event
row_start row =
    start (record { name = codes "row"; attributes = attribute (codes "r") (row_reference row) })
    ∷ []

-- the end of an element `row`
abbrev pub row_end : List Event
row_end = end (codes "row") ∷ []

-- a row with the cells of its positions
abbrev pub row_by : (ℕ × ℕ → List Event) → SheetRow → List Event
row_by cell found =
    element (codes "row") (attribute (codes "r") (row_reference found.row))
    (flat_map cell found.positions)

-- the elements of rows, each with the cells of its positions
abbrev pub rows_of_positions : (ℕ × ℕ → List Event) → List (ℕ × ℕ) → List Event
rows_of_positions cell positions = flat_map (row_by cell) (in_rows positions)

-- what is still to be written where this row is open, or none
abbrev pub rows_to_write : (ℕ × ℕ → List Event) → Option ℕ → List (ℕ × ℕ) → List Event
rows_to_write cell None positions = rows_of_positions cell positions
rows_to_write cell (Some row) positions =
    flat_map cell (row_front row positions)
    ++ (row_end ++ rows_of_positions cell (row_behind row positions))

-- what ends the open row, where one is open
abbrev pub leaving : Option ℕ → List Event
leaving None = []
leaving (Some row) = row_end

-- the row that is open, if one is, is this one
abbrev pub is_open_row : Option ℕ → ℕ → Bool
is_open_row None row = false
is_open_row (Some current) row = current == row

-- what ends the open row and begins another one, where that isn't the open one
abbrev pub entering : Option ℕ → ℕ → List Event
entering open_row row = if is_open_row open_row row then [] else leaving open_row ++ row_start row

-- what is still to be written of values and formulas where this row is open, or none
abbrev pub data_left : WrittenForm → Option ℕ → PlacedValues → PlacedForms → List Event
data_left form row values forms =
    rows_to_write (cell_among form values forms) row (positions_among values forms)

-- the first position that has a value or a formula
pub record IsFirstOfBoth
    {X Y : Type 0} (values : List ((ℕ × ℕ) × X)) (formulas : List ((ℕ × ℕ) × Y))
    (position : ℕ × ℕ) : Type 0 where
  pub in_rows : position.0 < MAX_ROWS
  pub in_columns : position.1 < MAX_COLUMNS
  pub before_values : none_earlier position values ≡ true
  pub before_formulas : none_earlier position formulas ≡ true
  pub is_used : IsOfFirst position values ⊎ IsOfFirst position formulas
