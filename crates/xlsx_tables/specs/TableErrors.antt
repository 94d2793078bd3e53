-- Which refusals tables have, and when.
use Rattle.std.specs.Prelude.{◌≡◌, ⊤, codes, List}
use Rattle.part_events.specs.Words.{Event}
use Rattle.part_events.specs.declared.fault.XmlFault.TheVariants.{Break, Entity}
use Rattle.xlsx_error.specs.declared.error.XlsxError.{XlsxError}
use Rattle.xlsx_error.specs.declared.error.XlsxError.TheVariants.{OutOfMemory, Io, Xml, XmlAttr}
use Rattle.xlsx_error.specs.declared.error.XlsxError.TheVariants.{XmlEof, ParseInt, Alphanumeric}
use Rattle.xlsx_error.specs.declared.error.XlsxError.TheVariants.{DimensionCount}
use Rattle.xlsx_error.specs.declared.error.XlsxError.TheVariants.{RangeWithoutRowComponent}
use Rattle.xlsx_error.specs.declared.error.XlsxError.TheVariants.{RangeWithoutColumnComponent}
use Rattle.xlsx_error.specs.declared.error.XlsxError.TheVariants.{ColumnNumberOverflow}
use Rattle.xlsx_error.specs.declared.error.XlsxError.TheVariants.{RowNumberOverflow}
use Rattle.xlsx_parts.specs.Words.{FirstElementCause}
use Rattle.xlsx_tables.specs.TableParts.{table_said}

-- why the table of a part can't be taken
abbrev pub TableCause : List Event → XlsxError → Type 0
TableCause events error =
    FirstElementCause (codes "table") (codes "Table") table_said events error

-- the refusals that the start of a table can have
abbrev pub IsTableStartError : XlsxError → Type 0
IsTableStartError OutOfMemory = ⊤
IsTableStartError (Xml (Entity at)) = ⊤
IsTableStartError (XmlAttr fault) = ⊤
IsTableStartError (ParseInt text) = ⊤
IsTableStartError (Alphanumeric byte) = ⊤
IsTableStartError RangeWithoutRowComponent = ⊤
IsTableStartError RangeWithoutColumnComponent = ⊤
IsTableStartError ColumnNumberOverflow = ⊤
IsTableStartError RowNumberOverflow = ⊤
IsTableStartError (DimensionCount count) = ⊤
IsTableStartError _ = ⊥

-- the refusals that a whole table can have, whatever the package tells
abbrev pub IsTableError : XlsxError → Type 0
IsTableError Io = ⊤
IsTableError (Xml (Break at why)) = ⊤
IsTableError (XmlEof element) = element.now ≡ codes "Table"
IsTableError error = IsTableStartError error
