-- Which refusals reading the workbook's own part can have.
use Rattle.std.specs.Prelude.{◌≡◌, ◌⊎◌, ⊤, codes}
use Rattle.part_events.specs.declared.fault.XmlFault.TheVariants.{Break, Entity}
use Rattle.xlsx_error.specs.declared.error.XlsxError.{XlsxError}
use Rattle.xlsx_error.specs.declared.error.XlsxError.TheVariants.{OutOfMemory, Io, Xml, XmlAttr}
use Rattle.xlsx_error.specs.declared.error.XlsxError.TheVariants.{XmlEof, RelationshipNotFound}
use Rattle.xlsx_error.specs.declared.error.XlsxError.TheVariants.{Unrecognized}

-- the refusals that the workbook's own part can have, whatever the package tells
abbrev pub IsWorkbookError : XlsxError → Type 0
IsWorkbookError OutOfMemory = ⊤
IsWorkbookError Io = ⊤
IsWorkbookError (Xml (Break at why)) = ⊤
IsWorkbookError (Xml (Entity at)) = ⊤
IsWorkbookError (XmlAttr fault) = ⊤
IsWorkbookError (XmlEof element) = element.now ≡ codes "workbook"
IsWorkbookError RelationshipNotFound = ⊤
IsWorkbookError (Unrecognized typ val) =
    (typ.now ≡ codes "sheet:state") ⊎ (typ.now ≡ codes "sheet:type")
IsWorkbookError _ = ⊥
