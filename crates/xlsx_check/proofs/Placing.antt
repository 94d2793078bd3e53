-- The values of the cells that a formula names.
use Rattle.std.proofs.Common.{◌≡◌, ℕ, Bool, true, false, cond, List, [], ◌∷◌, map, Some, None}
use Rattle.std.proofs.Common.{Option, pos, refl, sym, ap, ◌∙◌, lit<}
use Rattle.std.specs.Prelude.{unwrap_or}
use Rattle.std.specs.FinMap.{find}
use Rattle.std.specs.List.{filter}
use Rattle.std.specs.Borrow.{Bor}
use Rattle.std.specs.Option.{option_map, option_copied}
use Rattle.xlsx_check.specs.Verdicts.{value_or_nothing}
use Rattle.std.specs.Ordering.{eq_by_cmp}
use Rattle.cell_refs.specs.Words.{position_cmp, is_in_area}
use Rattle.cell_refs.specs.declared.dimensions.Dimensions.{Dimensions}
use Rattle.cell_data.specs.Words.{CellValue, nothing, value_of_data, cells_of}
use Rattle.cell_data.specs.declared.range.Range.{Range}
use Rattle.cell_data.specs.declared.value.Data.{Data}
use Rattle.decimals.specs.Words.{decimal_from}
use Rattle.decimals.proofs.Parts.{parts_fit}
use Rattle.xlsx_check.specs.Denoting.{values_of}
use Rattle.xlsx_check.specs.Evaluation.{a_number, number_or_past, value_looked_up, values_within}

pub zero_is : number_or_past (decimal_from (pos 0, pos 0)) ≡ a_number (pos 0, pos 0)
zero_is =
    ap number_or_past
    (sym (parts_fit (pos 0) (pos 0) 0 0 (lit< tt) refl (λ ends. refl)))

abbrev with_values : List ((ℕ × ℕ) × Data) → List ((ℕ × ℕ) × CellValue)
with_values cells = map (λ cell. (cell.0, value_of_data cell.1)) cells

find_value : (position : ℕ × ℕ) (cells : List ((ℕ × ℕ) × Data)) →
    find position_cmp position (with_values cells)
    ≡ option_map value_of_data (find position_cmp position cells)
find_value position [] = refl
find_value position (cell ∷ cells) =
    by (eq_by_cmp position_cmp position cell.0) (find_value position cells)
  where
    by : (t : Bool) →
        find position_cmp position (with_values cells)
        ≡ option_map value_of_data (find position_cmp position cells) →
        cond t (Some (value_of_data cell.1)) (find position_cmp position (with_values cells))
        ≡ option_map value_of_data (cond t (Some cell.1) (find position_cmp position cells))
    by true rest = refl
    by false rest = rest

placed : (position : ℕ × ℕ) (range : Range Data) (found : Option Data) →
    found ≡ find position_cmp position (cells_of range) →
    value_looked_up (values_of range) position
    ≡ unwrap_or (option_map value_of_data found) nothing
placed position range found is =
    ap (λ (o : Option CellValue). unwrap_or o nothing)
    (find_value position (cells_of range)
    ∙ ap (λ (o : Option Data). option_map value_of_data o) (sym is))

pub placed_some : (position : ℕ × ℕ) (range : Range Data) (value : Data) →
    Some value ≡ find position_cmp position (cells_of range) →
    value_looked_up (values_of range) position ≡ value_of_data value
placed_some position range value is = placed position range (Some value) is

pub placed_none : (position : ℕ × ℕ) (range : Range Data) →
    None ≡ find position_cmp position (cells_of range) →
    value_looked_up (values_of range) position ≡ nothing
placed_none position range is = placed position range None is

pub within_area : (area : Dimensions) (cells : List ((ℕ × ℕ) × Data)) →
    map (λ cell. value_of_data cell.1) (filter (λ cell. is_in_area area cell.0) cells)
    ≡ values_within (with_values cells) area
within_area area [] = refl
within_area area (cell ∷ cells) = by (is_in_area area cell.0) (within_area area cells) where
  by : (t : Bool) →
      map (λ cell. value_of_data cell.1) (filter (λ cell. is_in_area area cell.0) cells)
      ≡ values_within (with_values cells) area →
      map (λ cell. value_of_data cell.1) (cond t
      (cell ∷ filter (λ cell. is_in_area area cell.0) cells)
      (filter (λ cell. is_in_area area cell.0) cells))
      ≡ map (λ entry. entry.1) (cond t
      ((cell.0, value_of_data cell.1)
      ∷ filter (λ entry. is_in_area area entry.0) (with_values cells))
      (filter (λ entry. is_in_area area entry.0) (with_values cells)))
  by true rest = ap (λ (values : List CellValue). value_of_data cell.1 ∷ values) rest
  by false rest = rest

-- the value of a cell that was looked up
pub placed_or_nothing : (position : ℕ × ℕ) (range : Range Data) (found : Option (Bor Data)) →
    option_copied found ≡ find position_cmp position (cells_of range) →
    value_or_nothing found ≡ value_looked_up (values_of range) position
placed_or_nothing position range None is = sym (placed position range None is)
placed_or_nothing position range (Some value) is =
    sym (placed position range (Some value.now) is)
