-- The data of tables: what there is without an area, and why they are refused.
use Rattle.std.proofs.Common.{◌≡◌, ℕ, List, [], refl, ◌∙◌, ap, Some, inl, inr, String, Global}
use Rattle.part_events.specs.Words.{PackageState}
use Rattle.cell_data.proofs.Placing.{nothing_last}
use Rattle.cell_data.specs.Words.{cells_of, bounds_of, blank_of}
use Rattle.cell_data.specs.declared.range.Range.{Range}
use Rattle.cell_refs.specs.Words.{last_of_each, least_area}
use Rattle.cell_refs.specs.declared.dimensions.Dimensions.{Dimensions}
use Rattle.xlsx_error.specs.declared.error.XlsxError.{XlsxError}
use Rattle.xlsx_error.specs.declared.error.XlsxError.TheVariants.{OutOfMemory, TableNotFound}
use Rattle.xlsx_cells.specs.declared.children.Wants.{Wants}
use Rattle.xlsx_tables.specs.Tables.{SheetTable}
use Rattle.xlsx_core.specs.TableData.{IsNoRange, AreaFails, TableDataFails, IsTableDataError}
use Rattle.xlsx_core.specs.TableData.{LacksTable, table_of_book}
use Rattle.xlsx_core.specs.TableList.{loaded_tables}
use Rattle.xlsx_core.specs.Worksheets.{RangeFails, IsRangeError, context_of_book, path_of}
use Rattle.xlsx_core.specs.declared.xlsx.Xlsx.{Xlsx}

-- ---- the range without an area

module _ {X Y : Type 0} (meaning : X → Y) where
  pub no_range : (range : Range X) (cells : List ((ℕ × ℕ) × X)) (other : Y) → cells ≡ []
      → cells_of range ≡ last_of_each cells → bounds_of range ≡ least_area cells
      → meaning (blank_of range) ≡ other → IsNoRange meaning other range
  no_range range cells other none kept bounds same = record {
    cells = kept ∙ ap last_of_each none ∙ nothing_last {X = X};
    bounds = bounds ∙ ap least_area none;
    blank = same;
  }

-- ---- why data aren't read

no_table_error : (sheet : List ℕ) (asked : String Global)
    → IsRangeError sheet (TableNotFound asked) → ⊥
no_table_error sheet asked (inl head) = head
no_table_error sheet asked (inr own) = own

module _ {P : Type 0} (wants : Wants) (xlsx : Xlsx P) where
  pub area_fails : (sheet : List ℕ) (area : Dimensions) (old new : PackageState)
      (error : XlsxError)
      → RangeFails sheet wants (context_of_book xlsx) (path_of xlsx sheet) old new error
      → AreaFails wants xlsx sheet (Some area) old new error
  area_fails sheet area old new OutOfMemory fails = tt
  area_fails sheet area old new error fails = (refl, fails)

  pub data_fails : (name : List ℕ) (said : SheetTable) (old new : PackageState)
      (error : XlsxError) → table_of_book xlsx name ≡ Some said → IsRangeError said.sheet error
      → AreaFails wants xlsx said.sheet said.table.area old new error
      → TableDataFails wants xlsx name old new error
  data_fails name said old new OutOfMemory is kind fails = tt
  data_fails name said old new (TableNotFound asked) is kind fails =
      absurd (no_table_error said.sheet asked kind)
  data_fails name said old new error is kind fails = rw is fails

  pub lacks_fails : (name : List ℕ) (old new : PackageState) (error : XlsxError)
      → LacksTable name (loaded_tables xlsx) error → TableDataFails wants xlsx name old new error
  lacks_fails name old new OutOfMemory lacks = tt
  lacks_fails name old new (TableNotFound asked) lacks = lacks
  lacks_fails name old new error lacks = absurd lacks

module _ {P : Type 0} (xlsx : Xlsx P) where
  pub data_error : (name : List ℕ) (said : SheetTable) (error : XlsxError)
      → table_of_book xlsx name ≡ Some said → IsRangeError said.sheet error
      → IsTableDataError xlsx name error
  data_error name said OutOfMemory is kind = tt
  data_error name said (TableNotFound asked) is kind =
      absurd (no_table_error said.sheet asked kind)
  data_error name said error is kind = rw is kind

  pub lacks_error : (name : List ℕ) (error : XlsxError)
      → LacksTable name (loaded_tables xlsx) error → IsTableDataError xlsx name error
  lacks_error name OutOfMemory lacks = tt
  lacks_error name (TableNotFound asked) lacks = lacks.0
  lacks_error name error lacks = absurd lacks
