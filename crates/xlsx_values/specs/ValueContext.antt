-- What the types of this crate are to definitions, and the refusals that a value can have.
use Rattle.std.specs.Prelude.{◌≡◌, ⊤, map, codes, string_bytes}
use Rattle.part_events.specs.declared.fault.XmlFault.TheVariants.{Break, Unclosed, Entity}
use Rattle.xlsx_error.specs.declared.error.XlsxError.{XlsxError}
use Rattle.xlsx_error.specs.declared.error.XlsxError.TheVariants.{OutOfMemory, Io, Xml, XmlEof}
use Rattle.xlsx_error.specs.declared.error.XlsxError.TheVariants.{Unexpected, Unrecognized}
use Rattle.xlsx_error.specs.declared.error.XlsxError.TheVariants.{CellError, ParseFloat}
use Rattle.xlsx_error.specs.declared.error.XlsxError.TheVariants.{CellTAttribute}
use Rattle.xlsx_values.specs.CellType.{CellKind, untyped, of_number, of_shared, of_truth, of_error}
use Rattle.xlsx_values.specs.CellType.{of_text, of_date, of_inline, of_unknown}
use Rattle.xlsx_values.specs.Value.{ValueContext}
use Rattle.xlsx_values.specs.declared.context.ValueContext.{ValueContext as KeptContext}
use Rattle.xlsx_values.specs.declared.types.CellType.{CellType}
use Rattle.xlsx_values.specs.declared.types.CellType.TheVariants as typ

-- the kind of cells that a type is
abbrev pub kind_of : CellType → CellKind
kind_of typ.Untyped = untyped
kind_of typ.Number = of_number
kind_of typ.Shared = of_shared
kind_of typ.Truth = of_truth
kind_of typ.Error = of_error
kind_of typ.Text = of_text
kind_of typ.Date = of_date
kind_of typ.Inline = of_inline
kind_of (typ.Unknown text) = of_unknown (string_bytes text)

-- what values rest on: the shared strings, the formats and the epoch
abbrev pub context_of : KeptContext → ValueContext
context_of book = record {
  strings = map string_bytes book.strings.now;
  formats = book.formats.now;
  is_1904 = book.is_1904;
}

-- the refusals that a text can have as a value
abbrev pub IsTextValueError : XlsxError → Type 0
IsTextValueError OutOfMemory = ⊤
IsTextValueError (Unexpected text) =
    text.now ≡ codes "Cell string index not found in shared strings table"
IsTextValueError (Unrecognized typ val) = typ.now ≡ codes "boolean cell value"
IsTextValueError (CellError written) = ⊤
IsTextValueError (ParseFloat written) = ⊤
IsTextValueError (CellTAttribute typ) = ⊤
IsTextValueError _ = ⊥

-- the refusals that a value can have, whatever the package tells
abbrev pub IsValueError : XlsxError → Type 0
IsValueError OutOfMemory = ⊤
IsValueError Io = ⊤
IsValueError (Xml (Break at why)) = ⊤
IsValueError (Xml (Unclosed at)) = ⊤
IsValueError (Xml (Entity at)) = ⊤
IsValueError (XmlEof element) = element.now ≡ codes "v"
IsValueError (Unexpected text) =
    text.now ≡ codes "Cell string index not found in shared strings table"
IsValueError (Unrecognized typ val) = typ.now ≡ codes "boolean cell value"
IsValueError (CellError written) = ⊤
IsValueError (ParseFloat written) = ⊤
IsValueError (CellTAttribute typ) = ⊤
IsValueError _ = ⊥
