-- The first cell of a sheet, and the first row of a cache that was opened by its names.
use Rattle.std.proofs.Common.{◌≡◌, ◌∙◌, ℕ, List, [], true, Option, Some, None, sym, ap, Ok, Err}
use Rattle.std.specs.Prelude.{IsSomeAnd, Result, IfOk}
use Rattle.cell_data.specs.Words.{CellValue}
use Rattle.cell_data.specs.declared.cell.Cell.{Cell}
use Rattle.cell_data.specs.declared.value.DataRef.{DataRef}
use Rattle.cell_refs.specs.declared.dimensions.Dimensions.{Dimensions}
use Rattle.part_events.specs.Words.{Part, PackageState, SameParts}
use Rattle.xlsx_pivots.specs.Words.{paths_of, PivotSaid}
use Rattle.xlsx_pivot_cache.specs.Words.{cache_rows, PivotRows, OpensRows, TakesRow}
use Rattle.xlsx_pivot_cache.specs.Words.{cache_rows_left}
use Rattle.xlsx_cells.specs.Words.{IsValued, NoCell, TakesNext, Stream, StandsBehind}
use Rattle.xlsx_core.specs.Words.{EntersSheet}
use Rattle.xlsx_error.specs.declared.error.XlsxError.{XlsxError}
use Rattle.xlsx_values.specs.Words.{ValueContext}
use Rattle.tests_calls.specs.Shown.{IsFirstCell, IsFirstRow}

-- nothing of the data was taken, and they are those of the package
data_begin : (path : Option (List ℕ)) (area : Dimensions) (old : PackageState) (start : Stream)
    → EntersSheet path area old start
    → StandsBehind [] [] start × SameParts old start.reading.source
data_begin None area old start sheet = absurd (sheet.enters)
data_begin (Some there) area old start sheet = (sheet.enters.fresh, sheet.enters.parts)

-- the first cell behind the start of the data
pub first_cell_is : (context : ValueContext) (path : Option (List ℕ)) (area : Dimensions)
    (old : PackageState) (start end : Stream) (result : Result (Option (Cell DataRef)) XlsxError)
    → old.is_visible ≡ true → EntersSheet path area old start
    → TakesNext NoCell (λ earlier. IsValued context) result start end
    → IfOk result (IsFirstCell context path old)
first_cell_is context path area old start end (Err error) told sheet takes = tt
first_cell_is context path area old start end (Ok found) told sheet takes =
    let begin = data_begin path area old start sheet in
    record {
      area = area;
      start = start;
      end = end;
      enters = sheet;
      takes = takes (begin.1.is_visible ∙ told) [] [] begin.0;
    }

-- it is that of the cache at the paths that the names have
pub first_row_is : (start mid : PackageState) (sheet name : List ℕ) (row : List CellValue)
    (pivots : List PivotSaid) (found : Option (List ℕ × List ℕ)) (old new : PivotRows)
    → start.is_visible ≡ true → SameParts start mid → paths_of pivots sheet name ≡ found
    → IsSomeAnd found (λ paths. OpensRows paths.0 paths.1 mid old) → TakesRow row old new
    → IsFirstRow start.parts sheet name row pivots
first_row_is start mid sheet name row pivots None old new told same named opens takes =
    absurd opens
first_row_is start mid sheet name row pivots (Some paths) old new told same named opens takes =
    let told_mid = same.is_visible ∙ told in
    record {
      paths = paths;
      named = named;
      others = cache_rows_left new;
      first = ap (λ (parts : List Part). cache_rows parts paths.0 paths.1) (sym same.parts)
          ∙ sym (opens.rows told_mid)
          ∙ takes (opens.cache.parts.is_visible ∙ told_mid);
    }
