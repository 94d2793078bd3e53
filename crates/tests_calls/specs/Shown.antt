-- What short calls on an open workbook answer.
use Rattle.std.specs.Prelude.{◌≡◌, ℕ, List, [], ◌∷◌, map, Option, Some, None, option_map}
use Rattle.std.specs.Prelude.{option_and_then}
use Rattle.cell_data.specs.Words.{CellValue}
use Rattle.cell_data.specs.declared.cell.Cell.{Cell}
use Rattle.cell_data.specs.declared.value.DataRef.{DataRef}
use Rattle.cell_refs.specs.declared.dimensions.Dimensions.{Dimensions}
use Rattle.cell_styles.specs.Words.{fill_color}
use Rattle.cell_styles.specs.declared.color.Color.{Color}
use Rattle.cell_styles.specs.declared.style.Style.{Style}
use Rattle.part_events.specs.Words.{Part, PackageState}
use Rattle.xlsx_cells.specs.Words.{IsValued, NoCell, Stream, TakesEach}
use Rattle.xlsx_comments.specs.CommentParts.{CommentSaid, CommentsSaid}
use Rattle.xlsx_core.specs.Words.{EntersSheet}
use Rattle.xlsx_pivot_cache.specs.Words.{cache_rows}
use Rattle.xlsx_pivots.specs.Words.{paths_of, PivotSaid}
use Rattle.xlsx_values.specs.Words.{ValueContext}

-- something was read, and the answer is what was asked of it
pub record Shows {A B : Type 0} (reads : A → Type 0) (asked : A → B) (answer : B) : Type 0 where
  pub read : A
  pub is : reads read
  pub shows : answer ≡ asked read

-- the color of a style's fill
abbrev pub fill_color_of : Option Style → Option Color
fill_color_of None = None
fill_color_of (Some style) = option_and_then fill_color style.fill

-- the texts of the comments of a part
abbrev pub comment_texts_in : CommentsSaid → List (List ℕ)
comment_texts_in part = map (λ (own : CommentSaid). own.text) part.comments

-- the data of the sheet whose part is at a path were entered, and the first of their cells taken,
-- where there is one
pub record IsFirstCell
    (context : ValueContext) (path : Option (List ℕ)) (old : PackageState)
    (found : Option (Cell DataRef)) : Type 0 where
  pub area : Dimensions
  pub start : Stream
  pub end : Stream
  pub enters : EntersSheet path area old start
  pub takes : TakesEach NoCell (IsValued context) [] [] found start end

-- the first row of the cache of the first of these pivot tables that has these names
pub record IsFirstRow
    (parts : List Part) (sheet name : List ℕ) (row : List CellValue) (pivots : List PivotSaid)
    : Type 0 where
  pub paths : List ℕ × List ℕ
  pub named : paths_of pivots sheet name ≡ Some paths
  pub others : Option (List (List CellValue))
  pub first :
      cache_rows parts paths.0 paths.1
      ≡ option_map (λ (rows : List (List CellValue)). row ∷ rows) others
