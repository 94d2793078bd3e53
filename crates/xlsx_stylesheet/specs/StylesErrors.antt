-- The refusals that reading the styles part can have, whatever the package tells.
use Rattle.std.specs.Prelude.{◌≡◌, ◌⊎◌, ⊤, ℕ, List, codes}
use Rattle.part_events.specs.declared.fault.XmlFault.TheVariants.{Break, Entity}
use Rattle.xlsx_error.specs.declared.error.XlsxError.{XlsxError}
use Rattle.xlsx_error.specs.declared.error.XlsxError.TheVariants.{OutOfMemory, Io, Xml, XmlAttr}
use Rattle.xlsx_error.specs.declared.error.XlsxError.TheVariants.{XmlEof}

-- how the end of the part is told in a style sheet
abbrev pub IsStylesEnd : List ℕ → Type 0
IsStylesEnd name =
    (name ≡ codes "styleSheet") ⊎ ((name ≡ codes "numFmts") ⊎ ((name ≡ codes "fonts")
    ⊎ ((name ≡ codes "font") ⊎ ((name ≡ codes "fills") ⊎ ((name ≡ codes "fill")
    ⊎ ((name ≡ codes "borders") ⊎ ((name ≡ codes "border") ⊎ ((name ≡ codes "border side")
    ⊎ ((name ≡ codes "cellXfs") ⊎ (name ≡ codes "xf"))))))))))

-- a refusal that reading a style sheet can have
abbrev pub AreStylesError : XlsxError → Type 0
AreStylesError Io = ⊤
AreStylesError OutOfMemory = ⊤
AreStylesError (Xml (Break at why)) = ⊤
AreStylesError (Xml (Entity at)) = ⊤
AreStylesError (XmlAttr fault) = ⊤
AreStylesError (XmlEof element) = IsStylesEnd element.now
AreStylesError _ = ⊥
