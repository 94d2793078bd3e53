-- The refusals that reading a formula can have, whatever the package tells.
use Rattle.std.specs.Prelude.{◌≡◌, ◌⊎◌, ⊤, codes}
use Rattle.part_events.specs.declared.fault.XmlFault.TheVariants.{Break, Entity}
use Rattle.xlsx_error.specs.declared.error.XlsxError.{XlsxError}
use Rattle.xlsx_error.specs.declared.error.XlsxError.TheVariants.{OutOfMemory, Io, Xml, XmlAttr}
use Rattle.xlsx_error.specs.declared.error.XlsxError.TheVariants.{XmlEof, Unexpected, Alphanumeric}
use Rattle.xlsx_error.specs.declared.error.XlsxError.TheVariants.{DimensionCount}
use Rattle.xlsx_error.specs.declared.error.XlsxError.TheVariants.{RangeWithoutRowComponent}
use Rattle.xlsx_error.specs.declared.error.XlsxError.TheVariants.{RangeWithoutColumnComponent}
use Rattle.xlsx_error.specs.declared.error.XlsxError.TheVariants.{ColumnNumberOverflow}
use Rattle.xlsx_error.specs.declared.error.XlsxError.TheVariants.{RowNumberOverflow}

-- the refusals that the start of a formula can have
abbrev pub IsShareError : XlsxError → Type 0
IsShareError (XmlAttr fault) = ⊤
IsShareError (Unexpected text) =
    (text.now ≡ codes "si attribute must be a number")
    ⊎ (text.now ≡ codes "si attribute is mandatory if it is shared")
IsShareError (Alphanumeric byte) = ⊤
IsShareError RangeWithoutRowComponent = ⊤
IsShareError RangeWithoutColumnComponent = ⊤
IsShareError ColumnNumberOverflow = ⊤
IsShareError RowNumberOverflow = ⊤
IsShareError (DimensionCount count) = ⊤
IsShareError _ = ⊥

-- the refusals that reading a formula can have
abbrev pub IsFormulaError : XlsxError → Type 0
IsFormulaError Io = ⊤
IsFormulaError OutOfMemory = ⊤
IsFormulaError (Xml (Break at why)) = ⊤
IsFormulaError (Xml (Entity at)) = ⊤
IsFormulaError (XmlEof element) = element.now ≡ codes "f"
IsFormulaError (XmlAttr fault) = ⊤
IsFormulaError (Unexpected text) = IsShareError (Unexpected text)
IsFormulaError (Alphanumeric byte) = ⊤
IsFormulaError RangeWithoutRowComponent = ⊤
IsFormulaError RangeWithoutColumnComponent = ⊤
IsFormulaError ColumnNumberOverflow = ⊤
IsFormulaError RowNumberOverflow = ⊤
IsFormulaError (DimensionCount count) = ⊤
IsFormulaError _ = ⊥
