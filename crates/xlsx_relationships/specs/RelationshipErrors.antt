-- Which refusals reading relationships can have.
use Rattle.std.specs.Prelude.{◌≡◌, ⊤, codes}
use Rattle.part_events.specs.declared.fault.XmlFault.TheVariants.{Break, Entity}
use Rattle.xlsx_error.specs.declared.error.XlsxError.{XlsxError}
use Rattle.xlsx_error.specs.declared.error.XlsxError.TheVariants.{OutOfMemory, Io, Xml, XmlAttr}
use Rattle.xlsx_error.specs.declared.error.XlsxError.TheVariants.{XmlEof, FileNotFound}
use Rattle.xlsx_error.specs.declared.error.XlsxError.TheVariants.{RelationshipNotFound}

-- the refusals of relationships whose part may be absent, whatever the package tells
abbrev pub IsRelatedError : XlsxError → Type 0
IsRelatedError OutOfMemory = ⊤
IsRelatedError Io = ⊤
IsRelatedError (Xml (Break at why)) = ⊤
IsRelatedError (Xml (Entity at)) = ⊤
IsRelatedError (XmlAttr fault) = ⊤
IsRelatedError (XmlEof element) = element.now ≡ codes "Relationships"
IsRelatedError _ = ⊥

-- the refusals that relationships can have whose part has to be there, one of which is looked for
abbrev pub IsRelationshipsError : XlsxError → Type 0
IsRelationshipsError (FileNotFound path) = ⊤
IsRelationshipsError RelationshipNotFound = ⊤
IsRelationshipsError error = IsRelatedError error
