-- The refusals that reading cells can have, whatever the package tells.
use Rattle.std.specs.Prelude.{◌≡◌, ◌⊎◌, ⊤, ℕ, List, [], codes}
use Rattle.part_events.specs.declared.fault.XmlFault.TheVariants.{Break}
use Rattle.xlsx_error.specs.declared.error.XlsxError.{XlsxError}
use Rattle.xlsx_error.specs.declared.error.XlsxError.TheVariants.{OutOfMemory, Io, Xml, XmlAttr}
use Rattle.xlsx_error.specs.declared.error.XlsxError.TheVariants.{XmlEof, Alphanumeric}
use Rattle.xlsx_error.specs.declared.error.XlsxError.TheVariants.{DimensionCount}
use Rattle.xlsx_error.specs.declared.error.XlsxError.TheVariants.{RangeWithoutRowComponent}
use Rattle.xlsx_error.specs.declared.error.XlsxError.TheVariants.{RangeWithoutColumnComponent}
use Rattle.xlsx_error.specs.declared.error.XlsxError.TheVariants.{ColumnNumberOverflow}
use Rattle.xlsx_error.specs.declared.error.XlsxError.TheVariants.{RowNumberOverflow, UnexpectedNode}
use Rattle.xlsx_error.specs.declared.error.XlsxError.TheVariants.{Unexpected, Unrecognized}
use Rattle.xlsx_error.specs.declared.error.XlsxError.TheVariants.{CellTAttribute, CellError}
use Rattle.xlsx_error.specs.declared.error.XlsxError.TheVariants.{ParseFloat, Failed}

-- the refusals that finding the next cell can have
abbrev pub IsFindError : XlsxError → Type 0
IsFindError OutOfMemory = ⊤
IsFindError Io = ⊤
IsFindError (Xml (Break at why)) = ⊤
IsFindError (XmlEof element) = element.now ≡ codes "sheetData"
IsFindError (XmlAttr fault) = ⊤
IsFindError (Alphanumeric byte) = ⊤
IsFindError RangeWithoutRowComponent = ⊤
IsFindError RangeWithoutColumnComponent = ⊤
IsFindError ColumnNumberOverflow = ⊤
IsFindError RowNumberOverflow = ⊤
IsFindError (DimensionCount count) = ⊤
IsFindError _ = ⊥

-- the refusals of a cell whose style id alone is read: none of what stands in it
abbrev pub IsStyledError : XlsxError → Type 0
IsStyledError (XmlEof element) = (element.now ≡ codes "sheetData") ⊎ (element.now ≡ codes "c")
IsStyledError error = IsFindError error

-- the names that tell where the part of a sheet ends in its data
abbrev pub IsEndName : List ℕ → Type 0
IsEndName name =
    (name ≡ codes "sheetData") ⊎ ((name ≡ codes "c") ⊎ ((name ≡ codes "f")
    ⊎ ((name ≡ codes "v") ⊎ ((name ≡ codes "t") ⊎ (name ≡ [])))))

-- the refusals that a cell can have, whatever the package tells
abbrev pub IsCellError : XlsxError → Type 0
IsCellError OutOfMemory = ⊤
IsCellError Io = ⊤
IsCellError (Xml fault) = ⊤
IsCellError (XmlAttr fault) = ⊤
IsCellError (XmlEof element) = IsEndName element.now
IsCellError (Alphanumeric byte) = ⊤
IsCellError RangeWithoutRowComponent = ⊤
IsCellError RangeWithoutColumnComponent = ⊤
IsCellError ColumnNumberOverflow = ⊤
IsCellError RowNumberOverflow = ⊤
IsCellError (DimensionCount count) = ⊤
IsCellError (UnexpectedNode node) = node.now ≡ codes "v, f, or is"
IsCellError (Unexpected text) = ⊤
IsCellError (Unrecognized typ val) = typ.now ≡ codes "boolean cell value"
IsCellError (CellTAttribute typ) = ⊤
IsCellError (CellError written) = ⊤
IsCellError (ParseFloat written) = ⊤
IsCellError _ = ⊥

-- the refusals that a step of a stream of cells can have, which fails from a refusal on
abbrev pub IsStreamError : XlsxError → Type 0
IsStreamError Failed = ⊤
IsStreamError error = IsCellError error

-- a refusal that the next styled cell of a reader can have
abbrev pub IsStyledStreamError : XlsxError → Type 0
IsStyledStreamError Failed = ⊤
IsStyledStreamError error = IsStyledError error
