-- Which refusals of the layers below are refusals of properties.
use Rattle.part_events.specs.declared.fault.XmlFault.TheVariants.{Break, Entity}
use Rattle.xlsx_error.specs.declared.error.XlsxError.{XlsxError}
use Rattle.xlsx_error.specs.declared.error.XlsxError.TheVariants.{OutOfMemory, Io, Xml, XmlAttr}
use Rattle.xlsx_sections.specs.Words.{IsNameError, IsDecodeError}
use Rattle.xlsx_parts.specs.Words.{IsBreakError}
use Rattle.xlsx_properties.specs.Errors.{IsPropertyError}

pub step_error : (error : XlsxError) → IsBreakError error → IsPropertyError error
step_error OutOfMemory is = tt
step_error Io is = tt
step_error (Xml (Break at why)) is = tt
step_error _ is = absurd is

pub decode_error : (error : XlsxError) → IsDecodeError error → IsPropertyError error
decode_error OutOfMemory is = tt
decode_error (Xml (Entity at)) is = tt
decode_error _ is = absurd is

pub name_error : (error : XlsxError) → IsNameError error → IsPropertyError error
name_error OutOfMemory is = tt
name_error (Xml (Entity at)) is = tt
name_error (XmlAttr fault) is = tt
name_error _ is = absurd is
