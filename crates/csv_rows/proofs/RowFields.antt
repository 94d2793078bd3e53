-- The fields of a row as they are written, value by value, and the rows row by row.
use Rattle.std.proofs.Common.{◌≡◌, ◌∙◌, ◌++◌, ◌∷◌, [], ◌+◌, ◌-◌, ◌<◌, ◌≤◌, ◌^◌, List, length, map}
use Rattle.std.proofs.Common.{Option, Some, None, refl, sym, ap, subst, arith, append_assoc, ℕ}
use Rattle.std.proofs.Common.{append-nil, length-append, ◌&&◌, true, take, get_or, Bool, false}
use Rattle.std.proofs.Common.{◌==◌, string_bytes}
use Rattle.std.specs.Borrow.{Bor}
use Rattle.std.specs.Prelude.{Vec, String, min, nat_le, nat_lt}
use Rattle.std.specs.List.{flat_map}
use Rattle.std.specs.declared.alloc.Global.{Global}
use Rattle.std.proofs.lemmas.Bool.Decides.{nat_tests}
use Rattle.std.proofs.lemmas.List.{map-append, take_more, length-map, length-take}
use Rattle.std.proofs.lemmas.List.Concat.{flat_map-append}
use Rattle.std.proofs.lemmas.List.FromFn.{length-map-range_with_len}
use Rattle.cell_refs.specs.declared.TheConstants.{MAX_ROWS, MAX_COLUMNS}
use Rattle.cell_refs.specs.declared.dimensions.Dimensions.{Dimensions}
use Rattle.cell_refs.specs.Words.{are_sheet_bounds}
use Rattle.cell_refs.proofs.PositionOrder.{and_both}
use Rattle.cell_data.specs.Words.{bounds_of, width_of, filled, row_left}
use Rattle.cell_data.specs.declared.range_iterators.RowCells.{RowCells}
use Rattle.cell_data.specs.declared.value.Data.{Data}
use Rattle.csv.specs.Writing.{row_text}
use Rattle.csv.specs.declared.writer.Writer.{Writer}
use Rattle.csv_rows.specs.RowsText.{data_field, record_text, header_fields, header_text, writer_of}
use Rattle.csv_rows.specs.declared.options.CsvOptions.{CsvOptions}
use Rattle.csv_rows.specs.RowSteps.{IsInRecord, IsBetweenRecords, TakesField, WritesRecord}

-- the value that an item of a row shows
abbrev pub shown : Bor Data → Data
shown value = value.now

width_on_sheet : (bounds : Option Dimensions) → are_sheet_bounds bounds ≡ true →
    width_of bounds ≤ 16384
width_on_sheet None on_sheet = omega arith
width_on_sheet (Some area) on_sheet =
    let columns =
    (and_both (nat_le area.start.0 area.end.0 && nat_lt area.end.0 MAX_ROWS)
    (nat_le area.start.1 area.end.1 && nat_lt area.end.1 MAX_COLUMNS) on_sheet).1 in
    let last = (and_both (nat_le area.start.1 area.end.1) (nat_lt area.end.1 MAX_COLUMNS) columns).1
    in
    let bound : area.end.1 < 16384 = grind (arith, nat_tests, last) in
    omega (arith, bound)

-- a row has a sheet's columns at most
row_fits : (row : RowCells Data) → length (row_left row) ≤ 16384
row_fits row =
    let range = row.range.now in
    let size : length (row_left row) ≡ width_of (bounds_of range) - row.next =
    length-map-range_with_len (λ k. filled range (row.row, k)) row.next
    (width_of (bounds_of range) - row.next) in
    let width = width_on_sheet (bounds_of range) range.limits in
    omega (arith, size, width)

-- one field more
pub value_taken : (row : RowCells Data) (values left rest : List Data) (value : Data)
    (options : CsvOptions) (before : List ℕ) (old new : Writer (Vec ℕ Global)) →
    left ≡ value ∷ rest → values ++ left ≡ row_left row →
    TakesField options (data_field options value) old new →
    IsInRecord options before (map (data_field options) values) old →
    IsInRecord options before (map (data_field options) (values ++ value ∷ [])) new
value_taken row values left rest value options before old new next whole takes inside =
    let size : length (map (data_field options) values) ≡ length values =
    length-map values (data_field options) in
    let count : length values + length left ≡ length (row_left row) =
    sym (length-append values left) ∙ ap (λ (vs : List Data). length vs) whole in
    let most = row_fits row in
    subst (λ fields. IsInRecord options before fields new)
    (sym (map-append (data_field options) values (value ∷ [])))
    (takes before (map (data_field options) values) (omega (arith, size, count, most)) inside)

-- one record more
pub record_taken : (rows : List (List Data)) (row : List Data) (options : CsvOptions)
    (before : List ℕ) (old new : Writer (Vec ℕ Global)) →
    WritesRecord options (map (data_field options) row) old new →
    IsBetweenRecords options (before ++ flat_map (record_text options) rows) old →
    IsBetweenRecords options (before ++ flat_map (record_text options) (rows ++ row ∷ [])) new
record_taken rows row options before old new takes between =
    let joined : flat_map (record_text options) (rows ++ row ∷ [])
    ≡ flat_map (record_text options) rows ++ record_text options row =
    flat_map-append (record_text options) rows (row ∷ [])
    ∙ ap (λ t. flat_map (record_text options) rows ++ t) (append-nil (record_text options row)) in
    subst (λ t. IsBetweenRecords options t new)
    (append_assoc before (flat_map (record_text options) rows) (record_text options row)
    ∙ ap (λ t. before ++ t) (sym joined))
    (takes (before ++ flat_map (record_text options) rows) between)

-- where nothing is left, those so far are all
pub all_given : {A : Type 0} (given left whole : List A) → left ≡ [] → given ++ left ≡ whole →
    given ≡ whole
all_given {A} given left whole none is =
    sym (append-nil given) ∙ (ap (λ (xs : List A). given ++ xs) (sym none) ∙ is)

-- one name more
pub name_taken : (names : List (String Global)) (i : ℕ) (d name : String Global) (field : List ℕ)
    (options : CsvOptions) (before : List ℕ) (old new : Writer (Vec ℕ Global)) →
    i < length names → i < 2 ^ 64 - 1 → get_or names i d ≡ name → field ≡ string_bytes name →
    TakesField options field old new →
    IsInRecord options before (header_fields (take i names)) old →
    IsInRecord options before (header_fields (take (i + 1) names)) new
name_taken names i d name field options before old new within fits at own takes inside =
    let more : header_fields (take (i + 1) names) ≡ header_fields (take i names) ++ field ∷ [] =
    ap header_fields (take_more names i d within)
    ∙ (map-append string_bytes (take i names) (get_or names i d ∷ [])
    ∙ ap (λ bytes. header_fields (take i names) ++ bytes ∷ []) (ap string_bytes at ∙ sym own)) in
    let size : length (header_fields (take i names)) ≡ min i (length names) =
    length-map (take i names) string_bytes ∙ length-take i names in
    subst (λ fields. IsInRecord options before fields new) (sym more)
    (takes before (header_fields (take i names)) (omega (arith, size, fits)) inside)

-- a header with a name is a record
pub header_is_record : (options : CsvOptions) (names : List (String Global)) (test : Bool) →
    test ≡ (length names == 0) → test ≡ false →
    header_text options (Some (header_fields names))
    ≡ row_text (writer_of options) (header_fields names)
header_is_record options [] test is fails = absurd (cc)
header_is_record options (name ∷ names) test is fails = refl
