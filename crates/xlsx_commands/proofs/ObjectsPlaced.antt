-- The rows of a sheet or of a table as objects: those of a range by what its values mean, and when
-- there are none.
use Rattle.std.proofs.Common.{◌≡◌, ◌∙◌, ℕ, zero, suc, ◌-◌, ◌<◌, ◌≤◌, List, map, refl, sym, ap}
use Rattle.std.proofs.Common.{subst, arith, Option, Some, None, string_bytes, Global, Result, Ok}
use Rattle.std.proofs.Common.{Err, Bool, true, false, inl, inr}
use Rattle.std.proofs.lemmas.Bool.{cases_lt}
use mathlib.Core.Path.{fun_ext}
use Rattle.std.specs.Prelude.{Vec, ◌↔◌}
use Rattle.std.specs.List.{flat_map, range_with_len}
use Rattle.std.proofs.lemmas.List.Folds.{flat_map-map}
use Rattle.cell_data.specs.Words.{CellValue, nothing, value_of_data, with_meaning, value_pairs}
use Rattle.cell_data.specs.Words.{bounds_of, blank_of, height_of, box_count, row_items, row_values}
use Rattle.cell_data.specs.Words.{table_columns, table_data}
use Rattle.cell_data.specs.declared.range.Range.{Range}
use Rattle.cell_data.specs.declared.table.Table.{Table}
use Rattle.cell_data.specs.declared.value.Data.{Data}
use Rattle.cell_data.specs.declared.value.HeaderRow.TheVariants.{FirstNonEmptyRow}
use Rattle.cell_refs.specs.declared.dimensions.Dimensions.{Dimensions}
use Rattle.json_rows.specs.RowObjects.{data_object, row_object_line, object_lines, keys_over}
use Rattle.json_rows.specs.RowObjects.{rows_behind, headed_lines, first_double, IsOfKeys}
use Rattle.json_rows.specs.declared.error.ObjectsError.{ObjectsError}
use Rattle.json_rows.specs.declared.error.ObjectsError.TheVariants as objects
use Rattle.part_events.specs.Words.{Part}
use Rattle.xlsx_core.specs.Words.{IsReadable, opened_context, path_named, HasLeastRange}
use Rattle.xlsx_core.proofs.ShownLaws.{one_shown}
use Rattle.xlsx_error.specs.declared.error.XlsxError.{XlsxError}
use Rattle.csv_rows.specs.RowsText.{data_field}
use Rattle.csv_rows.specs.declared.options.CsvOptions.{CsvOptions}
use Rattle.xlsx_tables.specs.Tables.{SheetTable}
use Rattle.xlsx_commands.specs.Outputs.{CallFails, RowsFail, ObjectsFail}
use Rattle.xlsx_commands.specs.RowArrays.{values_placed}
use Rattle.xlsx_commands.specs.RowObjects.{objects_placed, keys_placed, ArePlacedObjects}
use Rattle.xlsx_commands.specs.RowObjects.{HasPlacedDouble, rows_area, AreRowObjects, HasNoHeader}
use Rattle.xlsx_commands.specs.RowObjects.{HasDoubleKey, AreJsonRows, LacksHeader, GivesTwice}
use Rattle.xlsx_commands.specs.SheetRows.{HasRowValues, HasLargeArea, area_count, asked_area}
use Rattle.xlsx_commands.specs.Status.{of_objects}
use Rattle.xlsx_commands.specs.TableLists.{HasTable}
use Rattle.xlsx_commands.specs.TableObjects.{column_keys, AreTableObjects, HasDoubleName}
use Rattle.xlsx_commands.specs.TableRows.{header_over, HasLargeTable}
use Rattle.xlsx_commands.specs.declared.asked_rows.AskedRows.{AskedRows}
use Rattle.xlsx_commands.specs.declared.error.ToolError.{ToolError}
use Rattle.xlsx_commands.specs.declared.error.ToolError.TheVariants as tool
use Rattle.xlsx_commands.proofs.OneListing.{AreReadAlike}
use Rattle.xlsx_commands.proofs.RowsPlaced.{fields_meant, values_meant, IsAskedRange}
use Rattle.xlsx_commands.proofs.RowsPlaced.{HaveSameRowValues, same_arrays, arrays_never, not_both}
use Rattle.xlsx_commands.proofs.RowsPlaced.{area_never, read_by_row_values, row_values_alike}
use Rattle.xlsx_commands.proofs.TablesNamed.{same_table}
use Rattle.xlsx_commands.proofs.TablesPlaced.{blank_in}

-- ---- a range by what its values mean

-- the lines of some rows of a range, under any keys
lines_meant : (options : CsvOptions) (keys : List (List ℕ)) (range : Range Data) (first n : ℕ)
    → value_of_data (blank_of range) ≡ nothing
    → object_lines options keys
    (map (λ row. row_values range row 0) (range_with_len first n))
    ≡ flat_map (λ row. row_object_line options keys
    (values_placed (value_pairs range) (bounds_of range) row)) (range_with_len first n)
unfolding object_lines
lines_meant options keys range first n is =
    let rows = range_with_len first n in
    flat_map-map (data_object options keys) (λ row. row_values range row 0) rows
    ∙ ap (λ (line_at : ℕ → List ℕ). flat_map line_at rows)
    (fun_ext (λ row. ap (row_object_line options keys) (values_meant range row is)))

-- the keys and the rows behind them, where there is a row
keys_first : (options : CsvOptions) (row_at : ℕ → List Data) (height : ℕ) → 0 < height
    → keys_over options (map row_at (range_with_len 0 height)) ≡ map (data_field options) (row_at 0)
keys_first options row_at zero some = absurd (omega (arith, some))
keys_first options row_at (suc n) some = refl

behind_first : (row_at : ℕ → List Data) (height : ℕ)
    → rows_behind (map row_at (range_with_len 0 height))
    ≡ map row_at (range_with_len 1 (height - 1))
behind_first row_at zero = refl
behind_first row_at (suc n) =
    ap (λ (count : ℕ). map row_at (range_with_len 1 count)) (omega arith)

keys_meant : (options : CsvOptions) (range : Range Data) → 0 < height_of (bounds_of range)
    → value_of_data (blank_of range) ≡ nothing
    → keys_over options (row_items range)
    ≡ keys_placed options (value_pairs range) (bounds_of range)
keys_meant options range some is =
    keys_first options (λ row. row_values range row 0) (height_of (bounds_of range)) some
    ∙ fields_meant options range 0 is

headed_meant : (options : CsvOptions) (range : Range Data) → 0 < height_of (bounds_of range)
    → value_of_data (blank_of range) ≡ nothing
    → headed_lines options (row_items range)
    ≡ objects_placed options (keys_placed options (value_pairs range) (bounds_of range))
    (value_pairs range) (bounds_of range) 1
headed_meant options range some is =
    let height = height_of (bounds_of range) in
    let keys = keys_placed options (value_pairs range) (bounds_of range) in
    ap (λ (own : List (List ℕ)). object_lines options own (rows_behind (row_items range)))
    (keys_meant options range some is)
    ∙ ap (object_lines options keys) (behind_first (λ row. row_values range row 0) height)
    ∙ lines_meant options keys range 1 (height - 1) is

-- all rows of a range
keyed_meant : (options : CsvOptions) (keys : List (List ℕ)) (range : Range Data)
    → value_of_data (blank_of range) ≡ nothing
    → object_lines options keys (row_items range)
    ≡ objects_placed options keys (value_pairs range) (bounds_of range) 0
keyed_meant options keys range is =
    let height = height_of (bounds_of range) in
    lines_meant options keys range 0 height is
    ∙ ap (λ (count : ℕ). flat_map (λ row. row_object_line options keys
    (values_placed (value_pairs range) (bounds_of range) row)) (range_with_len 0 count))
    (omega arith)

-- ---- what a call answers

-- what is refused alone where this holds, and isn't refused
pub answered_not : {E : Type 0} (held : Type 0) (result : Result (Vec ℕ Global) E)
    (rows : Vec ℕ Global) (error : E) → held ↔ (result ≡ Err error) → result ≡ Ok rows → held → ⊥
answered_not {E} held result rows error exactly is holds =
    let none : Ok rows ≡ Err error = sym is ∙ exactly.0 holds in absurd (cc)

pub fits_unless : (count : ℕ) → (16777216 < count → ⊥) → count ≤ 16777216
fits_unless count none =
    elim (cases_lt 16777216 count) [ inl large ↦ absurd (none large) | inr fits ↦ fits ]

pub some_unless : (height : ℕ) → (height ≡ 0 → ⊥) → 0 < height
some_unless zero none = absurd (none refl)
some_unless (suc n) none = omega arith

-- rows whose keys are given have no want of a header
pub never_empty : (height : ℕ) (result : Result (Vec ℕ Global) ObjectsError) → 0 < height
    → (result ≡ Err objects.NoHeader → ⊥) → (height ≡ 0) ↔ (result ≡ Err objects.NoHeader)
never_empty height result some other =
    (λ none. absurd (omega (arith, some, none)), λ is. absurd (other is))

-- a call has one refusal
same_error : (result : Result (Vec ℕ Global) ObjectsError) (one two : ObjectsError)
    → result ≡ Err one → result ≡ Err two → one ≡ two
same_error result one two first second = cc

-- a refusal of rows under keys is one of the program
pub keys_fail : (cause : XlsxError → Type 0) (large none : Type 0) (twice : List ℕ → Type 0)
    (count height : ℕ) (keys : List (List ℕ)) (result : Result (Vec ℕ Global) ObjectsError)
    (error : ObjectsError) → (16777216 < count) ↔ (result ≡ Err objects.BoxTooLarge)
    → (height ≡ 0) ↔ (result ≡ Err objects.NoHeader) → IsOfKeys keys error
    → result ≡ Err error → (16777216 < count → large) → (height ≡ 0 → none)
    → ((key : List ℕ) → count ≤ 16777216 → 0 < height → first_double keys ≡ Some key → twice key)
    → ObjectsFail cause large none twice (of_objects error)
keys_fail cause large none twice count height keys result objects.BoxTooLarge exactly empty of is
    has lacks gives =
    has (exactly.1 is)
keys_fail cause large none twice count height keys result objects.NoHeader exactly empty of is
    has lacks gives =
    lacks (empty.1 is)
keys_fail cause large none twice count height keys result (objects.TwoColumns key) exactly empty of
    is has lacks gives =
    gives (string_bytes key)
    (fits_unless count (λ more.
    let other : objects.TwoColumns key ≡ objects.BoxTooLarge =
    same_error result _ _ is (exactly.0 more) in absurd (cc)))
    (some_unless height (λ zero.
    let other : objects.TwoColumns key ≡ objects.NoHeader =
    same_error result _ _ is (empty.0 zero) in absurd (cc)))
    of
keys_fail cause large none twice count height keys result objects.OutOfMemory exactly empty of is
    has lacks gives =
    tt

-- and a call that is refused as the program is, before rows are made
pub refused_objects : (cause : XlsxError → Type 0) (large none : Type 0)
    (twice : List ℕ → Type 0) (error : ToolError) → CallFails cause error
    → ObjectsFail cause large none twice error
refused_objects cause large none twice tool.BoxTooLarge fails = absurd fails
refused_objects cause large none twice tool.NoHeader fails = absurd fails
refused_objects cause large none twice (tool.TwoColumns key) fails = absurd fails
refused_objects cause large none twice error fails = fails

-- one that makes no keys is refused as one that does
pub rows_as_objects : (cause : XlsxError → Type 0) (large none : Type 0)
    (twice : List ℕ → Type 0) (error : ToolError) → RowsFail cause large error
    → ObjectsFail cause large none twice error
rows_as_objects cause large none twice tool.BoxTooLarge fails = fails
rows_as_objects cause large none twice tool.NoHeader fails = absurd fails
rows_as_objects cause large none twice (tool.TwoColumns key) fails = absurd fails
rows_as_objects cause large none twice error fails = fails

-- ---- a sheet that is read

module _ (parts : List Part) (name : List ℕ) (asked : AskedRows) (values : Range Data)
    (reads : HasRowValues asked.shown parts name (value_pairs values))
    (least : HasLeastRange values) (range : Range Data)
    (same : IsAskedRange asked.from_a1 values range) where
  -- the range has the area that is asked for
  area_asked : bounds_of range ≡ rows_area asked (value_pairs values)
  area_asked = same.bounds ∙ ap (asked_area asked.from_a1) least.bounds

  blank_asked : value_of_data (blank_of range) ≡ nothing
  blank_asked = ap value_of_data same.blank ∙ least.blank

  -- what holds of the values of the range in its area holds of those that are read
  moved : (P : List ((ℕ × ℕ) × CellValue) → Option Dimensions → Type 0)
      → P (value_pairs range) (bounds_of range)
      → P (value_pairs values) (rows_area asked (value_pairs values))
  moved P holds =
      subst (P (value_pairs values)) area_asked
      (subst (λ (own : List ((ℕ × ℕ) × CellValue)). P own (bounds_of range))
      (ap (map (with_meaning value_of_data)) same.cells) holds)

  pub objects_of_sheet : (rows : List ℕ) → box_count range ≤ 16777216
      → 0 < height_of (bounds_of range)
      → first_double (keys_over asked.options (row_items range)) ≡ None
      → rows ≡ headed_lines asked.options (row_items range) → AreRowObjects parts name asked rows
  objects_of_sheet rows fits some apart is =
      let options = asked.options in
      record {
        values = value_pairs values;
        reads = reads;
        placed = moved (λ own area. ArePlacedObjects options own area rows) (record {
          fits = fits;
          headed = some;
          apart = ap first_double (sym (keys_meant options range some blank_asked)) ∙ apart;
          listed = is ∙ headed_meant options range some blank_asked;
        });
      }

  pub double_of_sheet : (key : List ℕ) → box_count range ≤ 16777216
      → 0 < height_of (bounds_of range)
      → first_double (keys_over asked.options (row_items range)) ≡ Some key
      → HasDoubleKey parts name asked key
  double_of_sheet key fits some twice =
      let options = asked.options in
      record {
        values = value_pairs values;
        reads = reads;
        placed = moved (λ own area. HasPlacedDouble options own area key) (record {
          fits = fits;
          twice = ap first_double (sym (keys_meant options range some blank_asked)) ∙ twice;
        });
      }

  pub headless_sheet : height_of (bounds_of range) ≡ 0 → HasNoHeader parts name asked
  headless_sheet none = record {
    values = value_pairs values;
    reads = reads;
    none = subst (λ (area : Option Dimensions). height_of area ≡ 0) area_asked none;
  }

-- ---- a table

module _ (parts : List Part) (name : List ℕ) (table : Table Data)
    (has : HasTable false parts name table) (range : Range Data) (same : range ≡ table_data table)
    (keys : List (List ℕ))
    (named : keys ≡ header_over (bounds_of (table_data table)) (table_columns table)) where
  area_said : bounds_of range ≡ has.own.table.area
  area_said = ap (λ (own : Range Data). bounds_of own) same ∙ has.is.area

  -- the keys are those of its columns
  keys_said : keys ≡ column_keys has.own
  keys_said =
      named
      ∙ ap (λ (area : Option Dimensions). header_over area (table_columns table)) has.is.area
      ∙ ap (header_over has.own.table.area) has.is.columns

  pub objects_of_data : (options : CsvOptions) (rows : List ℕ) → box_count range ≤ 16777216
      → first_double keys ≡ None → rows ≡ object_lines options keys (row_items range)
      → AreTableObjects parts name options rows
  objects_of_data options rows fits apart is =
      let held = table_data table in
      let blank = blank_in (opened_context has.has.has.opening) FirstNonEmptyRow has.own.table.area
      (path_named has.own.sheet has.has.has.opening.sheets) parts held has.reads in
      record {
        table = table;
        has = has;
        fits = subst (λ (own : Option Dimensions). area_count own ≤ 16777216) area_said fits;
        apart = ap first_double (sym keys_said) ∙ apart;
        listed = is
            ∙ ap (λ (own : Range Data). object_lines options keys (row_items own)) same
            ∙ keyed_meant options keys held blank
            ∙ ap (λ (area : Option Dimensions). objects_placed options keys (value_pairs held)
            area 0) has.is.area
            ∙ ap (λ (own : List (List ℕ)). objects_placed options own (value_pairs held)
            has.own.table.area 0) keys_said;
      }

  pub double_of_data : (key : List ℕ) → box_count range ≤ 16777216
      → first_double keys ≡ Some key → HasDoubleName parts name key
  double_of_data key fits twice = record {
    table = table;
    has = has;
    fits = subst (λ (own : Option Dimensions). area_count own ≤ 16777216) area_said fits;
    twice = ap first_double (sym keys_said) ∙ twice;
  }

-- ---- the laws

-- sheets with the same values have the same objects
same_objects : (parts other : List Part) (name : List ℕ) (asked : AskedRows)
    (rows others : List ℕ) → HaveSameRowValues parts other name
    → AreRowObjects parts name asked rows → AreRowObjects other name asked others → rows ≡ others
same_objects parts other name asked rows others law first second =
    first.placed.listed
    ∙ ap (λ (own : List ((ℕ × ℕ) × CellValue)). objects_placed asked.options
    (keys_placed asked.options own (rows_area asked own)) own (rows_area asked own) 1)
    (law asked.shown first.values second.values first.reads second.reads)
    ∙ sym second.placed.listed

pub same_json_rows : (header : Bool) (parts other : List Part) (name : List ℕ)
    (asked : AskedRows) (rows others : List ℕ) → HaveSameRowValues parts other name
    → AreJsonRows header parts name asked rows → AreJsonRows header other name asked others
    → rows ≡ others
same_json_rows false parts other name asked rows others law first second =
    same_arrays parts other name asked rows others law first second
same_json_rows true parts other name asked rows others law first second =
    same_objects parts other name asked rows others law first second

-- a sheet that has rows as JSON is read
pub read_by_json_rows : (header : Bool) (parts : List Part) (name : List ℕ) (asked : AskedRows)
    (rows : List ℕ) → AreJsonRows header parts name asked rows → IsReadable parts name
read_by_json_rows false parts name asked rows prints =
    read_by_row_values asked.shown parts name prints.values prints.reads
read_by_json_rows true parts name asked rows prints =
    read_by_row_values asked.shown parts name prints.values prints.reads

-- what holds of the values of rows holds of all that are read
read_once : (parts : List Part) (name : List ℕ) (shown : Bool)
    (values more : List ((ℕ × ℕ) × CellValue)) → AreReadAlike parts parts name
    → HasRowValues shown parts name values → HasRowValues shown parts name more
    → (P : List ((ℕ × ℕ) × CellValue) → Type 0) → P values → P more
read_once parts name shown values more law one two P =
    subst P (row_values_alike parts parts name law (one_shown parts name) shown values more one two)

-- rows as JSON have no area that is too large
pub json_rows_never : (header : Bool) (parts : List Part) (name : List ℕ) (asked : AskedRows)
    (rows : List ℕ) → AreReadAlike parts parts name → AreJsonRows header parts name asked rows
    → HasLargeArea parts name asked → ⊥
json_rows_never false parts name asked rows law prints has =
    arrays_never parts name asked rows law prints has
json_rows_never true parts name asked rows law prints has =
    area_never parts name asked prints.values law prints.reads prints.placed.fits has

none_and_some : (height : ℕ) → 0 < height → height ≡ 0 → ⊥
none_and_some height some none = omega (arith, some, none)

-- nor do they lack keys
pub headless_never : (header : Bool) (parts : List Part) (name : List ℕ) (asked : AskedRows)
    (rows : List ℕ) → AreReadAlike parts parts name → AreJsonRows header parts name asked rows
    → LacksHeader header parts name asked → ⊥
headless_never false parts name asked rows law prints lacks = absurd lacks
headless_never true parts name asked rows law prints lacks =
    none_and_some (height_of (rows_area asked lacks.values))
    (read_once parts name asked.shown prints.values lacks.values law prints.reads lacks.reads
    (λ own. 0 < height_of (rows_area asked own)) prints.placed.headed) lacks.none

no_and_yes : (found : Option (List ℕ)) (key : List ℕ) → found ≡ None → found ≡ Some key → ⊥
no_and_yes found key none some = cc

-- or have one twice
pub double_key_never : (header : Bool) (parts : List Part) (name : List ℕ) (asked : AskedRows)
    (rows key : List ℕ) → AreReadAlike parts parts name
    → AreJsonRows header parts name asked rows → GivesTwice header parts name asked key → ⊥
double_key_never false parts name asked rows key law prints gives = absurd gives
double_key_never true parts name asked rows key law prints gives =
    no_and_yes (first_double (keys_placed asked.options gives.values
    (rows_area asked gives.values))) key
    (read_once parts name asked.shown prints.values gives.values law prints.reads gives.reads
    (λ own. first_double (keys_placed asked.options own (rows_area asked own)) ≡ None)
    prints.placed.apart) gives.placed.twice

-- a table with objects has no area that is too large
pub objects_never : (parts : List Part) (name : List ℕ) (options : CsvOptions) (rows : List ℕ)
    → AreTableObjects parts name options rows → HasLargeTable false parts name → ⊥
objects_never parts name options rows prints has =
    not_both (area_count prints.has.own.table.area) (area_count has.has.own.table.area)
    (ap (λ (own : SheetTable). area_count own.table.area)
    (same_table parts name prints.has.own has.has.own prints.has.has has.has.has))
    prints.fits has.large

-- and no two columns of one name
pub double_name_never : (parts : List Part) (name : List ℕ) (options : CsvOptions)
    (rows key : List ℕ) → AreTableObjects parts name options rows
    → HasDoubleName parts name key → ⊥
double_name_never parts name options rows key prints has =
    no_and_yes (first_double (column_keys has.has.own)) key
    (subst (λ (own : SheetTable). first_double (column_keys own) ≡ None)
    (same_table parts name prints.has.own has.has.own prints.has.has has.has.has) prints.apart)
    has.twice
