-- The refusals that reading properties can have.
use Rattle.std.specs.Prelude.{⊤}
use Rattle.part_events.specs.declared.fault.XmlFault.TheVariants.{Break, Entity}
use Rattle.xlsx_error.specs.declared.error.XlsxError.{XlsxError}
use Rattle.xlsx_error.specs.declared.error.XlsxError.TheVariants.{OutOfMemory, Io, Xml, XmlAttr}

-- the refusals that a part of properties can have, whatever the package tells
abbrev pub IsPropertyError : XlsxError → Type 0
IsPropertyError Io = ⊤
IsPropertyError OutOfMemory = ⊤
IsPropertyError (Xml (Break at why)) = ⊤
IsPropertyError (Xml (Entity at)) = ⊤
IsPropertyError (XmlAttr fault) = ⊤
IsPropertyError _ = ⊥
