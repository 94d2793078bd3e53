-- Which refusals hyperlinks can have, whatever the package tells.
use Rattle.std.specs.Prelude.{◌≡◌, ◌⊎◌, ⊤, codes}
use Rattle.part_events.specs.declared.fault.XmlFault.TheVariants.{Entity}
use Rattle.xlsx_error.specs.declared.error.XlsxError.{XlsxError}
use Rattle.xlsx_error.specs.declared.error.XlsxError.TheVariants.{Xml, XmlEof}
use Rattle.xlsx_areas.specs.MergeErrors.{IsRegionsError}

-- those of the links of a part
abbrev pub IsLinksError : XlsxError → Type 0
IsLinksError (Xml (Entity at)) = ⊤
IsLinksError (XmlEof element) = element.now ≡ codes "hyperlinks"
IsLinksError error = IsRegionsError error

-- those of the links of a sheet, with the relationships beside its part
abbrev pub IsSheetLinksError : XlsxError → Type 0
IsSheetLinksError (XmlEof element) =
    (element.now ≡ codes "hyperlinks") ⊎ (element.now ≡ codes "Relationships")
IsSheetLinksError error = IsLinksError error
