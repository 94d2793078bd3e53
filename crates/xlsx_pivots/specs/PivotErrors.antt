-- Which refusals pivot tables have.
use Rattle.std.specs.Prelude.{◌≡◌, ◌⊎◌, ⊤, codes, IsSomeAnd}
use Rattle.part_events.specs.declared.fault.XmlFault.TheVariants.{Break, Entity}
use Rattle.xlsx_error.specs.declared.error.XlsxError.{XlsxError}
use Rattle.xlsx_error.specs.declared.error.XlsxError.TheVariants.{OutOfMemory, Io, Xml, XmlAttr}
use Rattle.xlsx_error.specs.declared.error.XlsxError.TheVariants.{XmlEof, FileNotFound, Unexpected}
use Rattle.xlsx_sections.specs.Words.{told_by, unexpected}
use Rattle.xlsx_pivots.specs.Singles.{IsPivotRefusal}

-- the refusal of what has to be there exactly once
abbrev pub IsSingleError : XlsxError → Type 0
IsSingleError (Unexpected text) = IsSomeAnd (told_by text.now unexpected) IsPivotRefusal
IsSingleError _ = ⊥

-- the refusals of pivot tables, whatever the package tells
abbrev pub IsPivotsError : XlsxError → Type 0
IsPivotsError OutOfMemory = ⊤
IsPivotsError Io = ⊤
IsPivotsError (Xml (Break at why)) = ⊤
IsPivotsError (Xml (Entity at)) = ⊤
IsPivotsError (XmlAttr fault) = ⊤
IsPivotsError (XmlEof element) =
    (element.now ≡ codes "Relationships") ⊎ (element.now ≡ codes "pivotTableDefinition")
IsPivotsError (FileNotFound path) = ⊤
IsPivotsError error = IsSingleError error
