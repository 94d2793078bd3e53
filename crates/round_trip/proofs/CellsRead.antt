-- What is read of one written cell: its position, its formulas and its style id, wherever it
-- stands.
use Rattle.std.proofs.Common.{◌≡◌, ℕ, ◌<◌, List, [], ◌∷◌, ◌++◌, length, Some, None, Option, refl}
use Rattle.std.proofs.Common.{sym, ap, ap₂, ◌∙◌, append-nil}
use Rattle.std.specs.Prelude.{Ok, codes, Result}
use Rattle.cell_refs.proofs.References.{corner_of_reference, row_of_reference}
use Rattle.cell_refs.specs.Words.{corner, row_of, row_reference}
use Rattle.cell_data.specs.Words.{CellValue, nothing, integer, number, text, shared_text, truth}
use Rattle.cell_data.specs.Words.{time, iso_time, failure}
use Rattle.cell_data.specs.declared.value.ExcelDateTimeType.{ExcelDateTimeType}
use Rattle.cell_data.specs.declared.value.ExcelDateTimeType.TheVariants.{DateTime, TimeDelta}
use Rattle.part_events.specs.Words.{Tag, Event, end, children, is_any}
use Rattle.written_markup.specs.Words.{element, attribute, IsNested, none, text_events}
use Rattle.written_markup.proofs.Nested.{nested_in_row, nested_element, text_events_nested}
use Rattle.written_markup.proofs.Nested.{content_of_element, behind_element, outermost_of_elements}
use Rattle.xlsx_sections.specs.Words.{some_answers, and_others_if, named_by, some_placed, Refusal}
use Rattle.xlsx_sections.specs.Words.{answer_further, count_behind}
use Rattle.xlsx_formulas.specs.Words.{FormulaText, formula_text, child_formula, formulas_in}
use Rattle.xlsx_formulas.specs.Words.{some_formula}
use Rattle.xlsx_cells.specs.Words.{Mark, or_implied, cell_position, row_named, at_position}
use Rattle.xlsx_cells.specs.Words.{placed_formulas, id_looked_up, id_named, with_id, placed_id}
use Rattle.xlsx_writer.specs.Words.{PlacedFormulas, formula_held, WrittenFormula, plain, master}
use Rattle.xlsx_writer.specs.Words.{derived, written_formula, cell_attributes, style_written}
use Rattle.xlsx_writer.specs.Words.{value_events, value_written, formula_events, optional_formula}
use Rattle.xlsx_writer.specs.Words.{master_attributes, derived_attributes, time_style}
use Rattle.xlsx_writer.specs.Words.{value_attributes}
use Rattle.round_trip.specs.ReadFormulas.{written_formula_read, formulas_read, formulas_read_by}
use Rattle.round_trip.specs.ReadSheet.{id_of, time_id}
use Rattle.round_trip.proofs.CellPairs.{position_looked_up, style_looked_up, row_looked_up}
use Rattle.round_trip.proofs.DataRead.{IsPassed, CellGives, cell_tag, row_tag}
use Rattle.xlsx_writer.specs.declared.form.WrittenForm.{WrittenForm}

-- ---- its position

pub cell_placed : (before : List Mark) (position : ℕ × ℕ) (value : CellValue) →
    position.0 < 1048576 → position.1 < 16384 →
    cell_position before (cell_tag (cell_attributes position value)) ≡ Ok position
cell_placed before position value in_rows in_columns =
    ap (λ found. or_implied before (named_by corner found))
    (position_looked_up position value in_rows)
    ∙ ap (λ place. or_implied before (some_placed place))
    (corner_of_reference position.0 position.1 in_rows in_columns)

pub row_placed : (row : ℕ) → row < 1048576 →
    row_named (row_tag (attribute (codes "r") (row_reference row))) ≡ Ok (Some row)
row_placed row inside =
    ap (named_by row_of) (row_looked_up row inside)
    ∙ ap some_placed (row_of_reference row inside)

-- ---- what stands in it

-- what holds of nothing, and of the `v` of each text, holds of what stands for a value
value_by : (form : WrittenForm) (P : List Event → Type 0) → P [] →
    ((attributes written : List ℕ) → P (element (codes "v") attributes (text_events written))) →
    (value : CellValue) → P (value_events form value)
value_by form P lacks has nothing = lacks
value_by form P lacks has (integer n) = has [] (value_written form (integer n))
value_by form P lacks has (number n) = has [] (value_written form (number n))
value_by form P lacks has (text bytes) =
    has (value_attributes form (text bytes)) (value_written form (text bytes))
value_by form P lacks has (shared_text place) = has [] (value_written form (shared_text place))
value_by form P lacks has (truth holds) = has [] (value_written form (truth holds))
value_by form P lacks has (time days kind is_1904) =
    has [] (value_written form (time days kind is_1904))
value_by form P lacks has (iso_time bytes) = has [] (value_written form (iso_time bytes))
value_by form P lacks has (failure error) = has [] (value_written form (failure error))

pub value_nested : (form : WrittenForm) (value : CellValue) → IsNested (value_events form value)
value_nested form =
    value_by form IsNested none
    (λ attributes written.
    nested_element (codes "v") attributes (text_events written) (text_events_nested written))

pub formula_nested : (position : ℕ × ℕ) (w : WrittenFormula) → IsNested (formula_events position w)
formula_nested position (plain formula) = nested_element _ _ _ (text_events_nested formula)
formula_nested position (master formula last index) =
    nested_element _ _ _ (text_events_nested formula)
formula_nested position (derived index) = nested_element _ _ _ none

pub optional_nested : (form : WrittenForm) (formulas : PlacedFormulas) (position : ℕ × ℕ)
    (o : Option (List ℕ)) →
    IsNested (optional_formula form formulas position o)
optional_nested form formulas position None = none
optional_nested form formulas position (Some formula) =
    formula_nested position (written_formula form formulas position formula)

-- what stands in the cell of a position with a value
abbrev pub cell_inside : WrittenForm → PlacedFormulas → ℕ × ℕ → CellValue → List Event
cell_inside form formulas position value =
    optional_formula form formulas position
    (formula_held formulas position) ++ value_events form value

pub cell_nested : (form : WrittenForm) (formulas : PlacedFormulas) (position : ℕ × ℕ)
    (value : CellValue) →
    IsNested (cell_inside form formulas position value)
cell_nested form formulas position value =
    nested_in_row (optional_formula form formulas position (formula_held formulas position))
    (value_events form value) (optional_nested form formulas position
    (formula_held formulas position))
    (value_nested form value)

pub nested_passed : (inside : List Event) → IsNested inside → IsPassed inside
nested_passed inside is = record {
  content = λ name rest. content_of_element inside name rest is;
  behind = λ name rest. behind_element inside name rest is;
}

-- ---- its formulas

-- a `v` writes no formula
no_formula : (attributes : List ℕ) (inside : List Event) → IsNested inside →
    some_answers child_formula (children (element (codes "v") attributes inside)) ≡ Ok []
no_formula attributes inside is =
    ap (λ (es : List Event). some_answers child_formula (children es))
    (sym (append-nil (element (codes "v") attributes inside)))
    ∙ ap (some_answers child_formula)
    (outermost_of_elements is_any (codes "v") attributes inside [] is refl)

value_no_formula : (form : WrittenForm) (value : CellValue) →
    some_answers child_formula (children (value_events form value)) ≡ Ok []
value_no_formula form =
    value_by form (λ (es : List Event). some_answers child_formula (children es) ≡ Ok []) refl
    (λ attributes written.
    no_formula attributes (text_events written) (text_events_nested written))

-- the start of an `f`
abbrev pub formula_tag : List ℕ → Tag
formula_tag attributes = record { name = codes "f"; attributes = attributes }

-- an `f` before a `v` is the cell's one formula
one_formula : (form : WrittenForm) (attributes : List ℕ) (inside : List Event) (found : FormulaText)
    (value : CellValue) → IsNested inside →
    formula_text (formula_tag attributes) inside ≡ Ok found →
    formulas_in (element (codes "f") attributes inside ++ value_events form value) ≡ Ok (found ∷ [])
one_formula form attributes inside found value is reads =
    ap (some_answers child_formula)
    (outermost_of_elements is_any (codes "f") attributes inside (value_events form value) is refl)
    ∙ ap₂ and_others_if
    (ap (λ (answer : Result FormulaText Refusal). answer_further (count_behind (record {
      tag = formula_tag attributes;
      inside = inside;
      behind = length (inside ++ end (codes "f") ∷ value_events form value);
    })) (some_formula answer)) reads)
    (value_no_formula form value)

-- how a formula's `f` reads
abbrev pub FormulaReads : ℕ × ℕ → WrittenFormula → Type 0
FormulaReads position (plain formula) =
    formula_text (formula_tag []) (text_events formula)
    ≡ Ok (written_formula_read position (plain formula))
FormulaReads position (master formula last index) =
    formula_text (formula_tag (master_attributes position last index)) (text_events formula)
    ≡ Ok (written_formula_read position (master formula last index))
FormulaReads position (derived index) =
    formula_text (formula_tag (derived_attributes index)) []
    ≡ Ok (written_formula_read position (derived index))

formula_by_case : (form : WrittenForm) (position : ℕ × ℕ) (w : WrittenFormula) (value : CellValue) →
    FormulaReads position w →
    formulas_in (formula_events position w ++ value_events form value)
    ≡ Ok (written_formula_read position w ∷ [])
formula_by_case form position (plain formula) value reads =
    one_formula form [] (text_events formula) (written_formula_read position (plain formula)) value
    (text_events_nested formula) reads
formula_by_case form position (master formula last index) value reads =
    one_formula form (master_attributes position last index) (text_events formula)
    (written_formula_read position (master formula last index)) value (text_events_nested
    formula) reads
formula_by_case form position (derived index) value reads =
    one_formula form (derived_attributes index) []
    (written_formula_read position (derived index)) value none
    reads

pub cell_formulas : (form : WrittenForm) (formulas : PlacedFormulas) (position : ℕ × ℕ)
    (value : CellValue) →
    ((formula : List ℕ) → formula_held formulas position ≡ Some formula →
    FormulaReads position (written_formula form formulas position formula)) →
    formulas_in (cell_inside form formulas position value) ≡ Ok
    (formulas_read form formulas position)
cell_formulas form formulas position value reads =
    by (formula_held formulas position) refl where
      by : (o : Option (List ℕ)) → formula_held formulas position ≡ o →
          formulas_in (optional_formula form formulas position o ++ value_events form value)
          ≡ Ok (formulas_read_by form formulas position o)
      by None is = value_no_formula form value
      by (Some formula) is =
          formula_by_case form position (written_formula form formulas position formula) value
          (reads formula is)

pub cell_gives_formulas : (form : WrittenForm) (formulas : PlacedFormulas) (position : ℕ × ℕ)
    (value : CellValue) →
    position.0 < 1048576 → position.1 < 16384 →
    ((formula : List ℕ) → formula_held formulas position ≡ Some formula →
    FormulaReads position (written_formula form formulas position formula)) →
    CellGives placed_formulas (cell_attributes position value)
    (cell_inside form formulas position value) (position, formulas_read form formulas position)
cell_gives_formulas form formulas position value in_rows in_columns reads before behind =
    ap₂ at_position (cell_placed before position value in_rows in_columns)
    (ap (answer_further (count_behind (record {
      tag = cell_tag (cell_attributes position value);
      inside = cell_inside form formulas position value;
      behind = behind;
    }))) (cell_formulas form formulas position value reads))

-- ---- its style

cell_id : (position : ℕ × ℕ) (value : CellValue) → position.0 < 1048576 →
    id_named (cell_tag (cell_attributes position value)) ≡ Ok (id_of value)
cell_id position value inside =
    ap id_looked_up (style_looked_up position value inside) ∙ by value where
      kinds : (kind : ExcelDateTimeType) →
          id_looked_up (Ok (Some (time_style kind))) ≡ Ok (time_id kind)
      kinds DateTime = refl
      kinds TimeDelta = refl

      by : (value : CellValue) → id_looked_up (Ok (style_written value)) ≡ Ok (id_of value)
      by nothing = refl
      by (integer n) = refl
      by (number n) = refl
      by (text bytes) = refl
      by (shared_text place) = refl
      by (truth holds) = refl
      by (time days kind is_1904) = kinds kind
      by (iso_time bytes) = refl
      by (failure error) = refl

pub cell_gives_id : (position : ℕ × ℕ) (value : CellValue) (inside : List Event) →
    position.0 < 1048576 → position.1 < 16384 →
    CellGives placed_id (cell_attributes position value) inside
    (position.0, position.1, id_of value)
cell_gives_id position value inside in_rows in_columns before behind =
    ap₂ with_id (cell_placed before position value in_rows in_columns)
    (ap (answer_further (count_behind (record {
      tag = cell_tag (cell_attributes position value);
      inside = inside;
      behind = behind;
    }))) (cell_id position value in_rows))
