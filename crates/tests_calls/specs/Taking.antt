-- What callers take of a sheet's cells.
use Rattle.std.specs.Prelude.{◌≡◌, ◌⊎◌, ℕ, List, [], ◌∷◌, ◌++◌, Bool, true, false, Option, Some}
use Rattle.std.specs.Prelude.{None, Result, Ok}
use Rattle.std.specs.List.{find}
use Rattle.cell_data.specs.Words.{CellValue, failure}
use Rattle.cell_data.specs.declared.cell.Cell.{Cell}
use Rattle.cell_data.specs.declared.value.DataRef.{DataRef}
use Rattle.xlsx_error.specs.declared.error.XlsxError.{XlsxError}
use Rattle.xlsx_sections.specs.Words.{prepended, Refusal}
use Rattle.xlsx_values.specs.Words.{ValueContext}
use Rattle.xlsx_formulas.specs.Words.{FormulaText, behind_formulas}
use Rattle.xlsx_cells.specs.Words.{IsValued, IsValuedFormula, values_alone, values_and_formulas}
use Rattle.xlsx_cells.specs.Words.{Mark, cell, behind_marks, NoCell, Stream, TakesCell, EndsData}
use Rattle.xlsx_cells.specs.Words.{PassesCell, NextCellFails, cell_value_entry}
use Rattle.part_events.specs.Words.{Element}
use Rattle.xlsx_cells.specs.declared.cell_records.XlsxCellFormula.{XlsxCellFormula}

-- the value of a cell is an error
abbrev pub is_error : (ℕ × ℕ) × CellValue → Bool
is_error (place, failure error) = true
is_error (place, value) = false

-- The first cell whose value is an error, or that there is none. Where something behind it is
-- refused, this says nothing of it.
abbrev pub IsFirstError :
    Option ((ℕ × ℕ) × CellValue) → Result (List ((ℕ × ℕ) × CellValue)) Refusal → Type 0
IsFirstError None values =
    (all : List ((ℕ × ℕ) × CellValue)) × (values ≡ Ok all) × (find is_error all ≡ None)
IsFirstError (Some own) values =
    (sound : List ((ℕ × ℕ) × CellValue))
    × (others : Result (List ((ℕ × ℕ) × CellValue)) Refusal)
    × (values ≡ prepended (sound ++ own ∷ []) others) × (find is_error sound ≡ None)
    × (is_error own ≡ true)

-- cells were taken, each with a fact, and no more: the stream stands behind the last
abbrev pub TakesThrough :
    {A : Type 0} → (List FormulaText → A → List Mark → Element → List FormulaText → Type 0) →
    List Mark → List FormulaText → Stream → List A → Stream → Type 0
TakesThrough fact before earlier old [] new = new ≡ old
TakesThrough fact before earlier old (own ∷ others) new =
    (mid : Stream) × (takes : TakesCell NoCell before earlier old mid (fact earlier own))
    × TakesThrough fact (cell takes.element ∷ behind_marks takes.takes.front.passed before)
    (behind_formulas takes.kept earlier) mid others new

-- a cell has an error for its value
abbrev pub has_error : Cell DataRef → Bool
has_error own = is_error (cell_value_entry own)

-- cells without an error were taken, and then one that has an error
abbrev pub StopsAtError : ValueContext → Stream → Stream → Cell DataRef → Type 0
StopsAtError context old new own =
    (sound : List (Cell DataRef)) × (find has_error sound ≡ None) × (has_error own ≡ true)
    × TakesThrough (λ kept. IsValued context) [] [] old (sound ++ own ∷ []) new

-- cells without an error were taken, and the next one is refused
abbrev pub FailsBeforeError : ValueContext → Stream → Stream → XlsxError → Type 0
FailsBeforeError context old new error =
    (sound : List (Cell DataRef)) × (mid : Stream) × (find has_error sound ≡ None)
    × TakesThrough (λ kept. IsValued context) [] [] old sound mid
    × NextCellFails values_alone context mid new.reading error

-- two cells were taken, the second with its formula by those kept before both
pub record TakesBoth
    (context : ValueContext) (before : List Mark) (earlier : List FormulaText) (old new : Stream)
    (found : Cell DataRef × XlsxCellFormula) : Type 0 where
  pub mid : Stream
  pub first : TakesCell NoCell before earlier old mid (IsValued context found.0)
  pub second :
      TakesCell NoCell (cell first.element ∷ behind_marks first.takes.front.passed before) earlier
      mid new (IsValuedFormula context earlier found.1)

-- the data of a sheet end behind no cell or one
abbrev pub LacksTwo :
    ValueContext → List Mark → List FormulaText → Stream → Stream → Type 0
LacksTwo context before earlier old new =
    (old.is_done ≡ false → EndsData NoCell before old new)
    ⊎ ((mid : Stream) × (own : Cell DataRef)
    × (first : TakesCell NoCell before earlier old mid (IsValued context own))
    × EndsData NoCell (cell first.element ∷ behind_marks first.takes.front.passed before) mid new)

-- the first of two cells is refused, or the second behind it
abbrev pub TwoFail : ValueContext → Stream → Stream → XlsxError → Type 0
TwoFail context old new error =
    NextCellFails values_alone context old new.reading error
    ⊎ ((mid : Stream) × (pos : ℕ × ℕ) × PassesCell pos old mid
    × NextCellFails values_and_formulas context mid new.reading error)
