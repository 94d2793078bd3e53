-- The texts of the refusals.
use Rattle.std.specs.Prelude.{List, ℕ, ◌++◌, codes, true}
use Rattle.std.specs.Fmt.{decimal, digits}
use Rattle.cell_refs.specs.declared.error.RefError.{RefError}
use Rattle.cell_refs.specs.declared.error.RefError.TheVariants.{Alphanumeric}
use Rattle.cell_refs.specs.declared.error.RefError.TheVariants.{RangeWithoutRowComponent}
use Rattle.cell_refs.specs.declared.error.RefError.TheVariants.{RangeWithoutColumnComponent}
use Rattle.cell_refs.specs.declared.error.RefError.TheVariants.{ColumnNumberOverflow}
use Rattle.cell_refs.specs.declared.error.RefError.TheVariants.{RowNumberOverflow, DimensionCount}

-- the text of a refusal, a stray byte in hexadecimal capitals
abbrev pub refusal_text : RefError → List ℕ
refusal_text (Alphanumeric b) = codes "Expecting alphanumeric character, got " ++ digits 16 true b
refusal_text RangeWithoutRowComponent = codes "Range is missing the expected row component."
refusal_text RangeWithoutColumnComponent = codes "Range is missing the expected column component."
refusal_text ColumnNumberOverflow = codes "column number overflow"
refusal_text RowNumberOverflow = codes "row number overflow"
refusal_text (DimensionCount n) = codes "Range dimension must be lower than 2. Got " ++ decimal n
