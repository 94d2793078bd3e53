-- The refusals that reading an element of styles can have, whatever the package tells.
use Rattle.std.specs.Prelude.{◌≡◌, ◌⊎◌, ⊤, ℕ, List, codes}
use Rattle.part_events.specs.declared.fault.XmlFault.TheVariants.{Break, Entity}
use Rattle.xlsx_error.specs.declared.error.XlsxError.{XlsxError}
use Rattle.xlsx_error.specs.declared.error.XlsxError.TheVariants.{OutOfMemory, Io, Xml, XmlAttr}
use Rattle.xlsx_error.specs.declared.error.XlsxError.TheVariants.{XmlEof}

-- the refusals that reading an element of this name can have, which has no decoded texts
abbrev pub IsPlainError : List ℕ → XlsxError → Type 0
IsPlainError name Io = ⊤
IsPlainError name OutOfMemory = ⊤
IsPlainError name (Xml (Break at why)) = ⊤
IsPlainError name (XmlAttr fault) = ⊤
IsPlainError name (XmlEof element) = element.now ≡ name
IsPlainError name _ = ⊥

-- the refusals that reading a font can have, whose name is decoded
abbrev pub IsFontError : XlsxError → Type 0
IsFontError Io = ⊤
IsFontError OutOfMemory = ⊤
IsFontError (Xml (Break at why)) = ⊤
IsFontError (Xml (Entity at)) = ⊤
IsFontError (XmlAttr fault) = ⊤
IsFontError (XmlEof element) = element.now ≡ codes "font"
IsFontError _ = ⊥

-- the refusals that reading the borders of an element `border` can have
abbrev pub IsBorderError : XlsxError → Type 0
IsBorderError Io = ⊤
IsBorderError OutOfMemory = ⊤
IsBorderError (Xml (Break at why)) = ⊤
IsBorderError (XmlAttr fault) = ⊤
IsBorderError (XmlEof element) =
    (element.now ≡ codes "border") ⊎ (element.now ≡ codes "border side")
IsBorderError _ = ⊥
