-- The first error among values that are taken one by one.
use Rattle.std.proofs.Common.{◌≡◌, ◌∙◌, List, [], ◌∷◌, ◌++◌, None, Some, refl, sym, ap, true, false}
use Rattle.std.proofs.Common.{map}
use Rattle.std.specs.Prelude.{if◌then◌else◌}
use Rattle.std.specs.List.{find}
use Rattle.std.proofs.lemmas.List.{map-append}
use Rattle.std.proofs.lemmas.List.Folds.{find-append}
use Rattle.cell_data.specs.declared.cell.Cell.{Cell}
use Rattle.cell_data.specs.declared.value.DataRef.{DataRef}
use Rattle.xlsx_sections.specs.Words.{prepended}
use Rattle.xlsx_values.specs.Words.{ValueContext}
use Rattle.xlsx_cells.specs.Words.{IsValued, values_alone, NoCell, answers_from, placed_value}
use Rattle.xlsx_cells.specs.Words.{values_in, Stream, TakesCell, EndsData, data_ahead, marks_ahead}
use Rattle.xlsx_cells.specs.Words.{cell_value_entry}
use Rattle.xlsx_cells.proofs.WholeReadings.{ValuesTaken, values_further, values_whole}
use Rattle.tests_calls.specs.Taking.{IsFirstError, is_error, has_error}

-- one cell more was taken
pub values_and_one : {context : ValueContext} {old mid new : Stream} (sound : List (Cell DataRef))
    (own : Cell DataRef)
    → (been : ValuesTaken values_alone context old mid (map cell_value_entry sound))
    → TakesCell NoCell been.before been.earlier mid new (IsValued context own)
    → ValuesTaken values_alone context old new (map cell_value_entry (sound ++ own ∷ []))
values_and_one sound own been takes =
    rw (map-append cell_value_entry sound (own ∷ []))
    (values_further (cell_value_entry own) been takes
    (λ before element kept is. (is.placed, is.valued)))

-- its value is no error either
pub none_further : (sound : List (Cell DataRef)) (own : Cell DataRef)
    → find has_error sound ≡ None → has_error own ≡ false
    → find has_error (sound ++ own ∷ []) ≡ None
none_further sound own none other = rw (find-append has_error sound (own ∷ []), none, other) refl

-- none of the cells has an error, and so none of their values is one
none_is_error : (cells : List (Cell DataRef)) → find has_error cells ≡ None
    → find is_error (map cell_value_entry cells) ≡ None
none_is_error [] none = refl
none_is_error (own ∷ others) none =
    elim (has_error own) as (λ b. (if b then Some own else find has_error others) ≡ None
    → (if b then Some (cell_value_entry own) else find is_error (map cell_value_entry others))
    ≡ None) [
      | true ↦ λ never. absurd (cc)
      | false ↦ λ rest. none_is_error others rest
    ] none

-- its value is one
pub error_found : {context : ValueContext} {old new : Stream} (sound : List (Cell DataRef))
    (own : Cell DataRef)
    → ValuesTaken values_alone context old new (map cell_value_entry (sound ++ own ∷ []))
    → find has_error sound ≡ None → has_error own ≡ true
    → IsFirstError (Some (cell_value_entry own)) (values_in context (data_ahead old))
error_found {context = context} {new = new} sound own been none error =
    let others = answers_from (placed_value context) been.before (marks_ahead new) in (
      map cell_value_entry sound,
      others,
      sym been.all
          ∙ ap (λ (values : List _). prepended values others)
          (map-append cell_value_entry sound (own ∷ [])),
      none_is_error sound none,
      error,
    )

-- no cell is left
pub no_error_left : {context : ValueContext} {old mid new : Stream} (sound : List (Cell DataRef))
    → (been : ValuesTaken values_alone context old mid (map cell_value_entry sound))
    → find has_error sound ≡ None → EndsData NoCell been.before mid new
    → IsFirstError None (values_in context (data_ahead old))
no_error_left sound been none ends =
    (map cell_value_entry sound, values_whole been ends, none_is_error sound none)
